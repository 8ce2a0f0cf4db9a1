-- The items of a call, from the control state that they found.
use Rattle.std.specs.Prelude.{◌≡◌, ◌++◌, ◌∷◌, [], ℕ, true, List, All}
use Rattle.std.proofs.Common.{sym, ap, ◌∙◌, subst}
use Rattle.std.proofs.lemmas.List.Elements.{All-tail}
use Rattle.spec_control.specs.declared.entry.Item.{Item}
use Rattle.spec_control.specs.Control.{Control, begun}
use Rattle.spec_control.specs.ControlRun.{IsControlRun, after_all, after_item}
use Rattle.desk.specs.declared.given.Given.{Given}
use Rattle.ctl_plane.specs.Past.{control_of}
use Rattle.socket_laws.proofs.PlaceLemmas.{led_on}
use Rattle.plain_desk.specs.Lent.{GrowsBy, IsOneOrder, Lent}
use Rattle.socket_laws.specs.Asked.{EndsAreSealedOnce, WereAsked}
use Rattle.core_laws.specs.Sealed.{AllAsked}
use Rattle.core_laws.proofs.SealedLemmas.{asked_go_on}
use Rattle.core_laws.specs.Ends.{GivenStay}

behind_run : {N S : Type 0} (xs ys : List (Item N S)) (c : Control) → IsControlRun c (xs ++ ys) → IsControlRun (after_all xs c) ys
behind_run [] ys c run = run
behind_run (x ∷ xs) ys c run = behind_run xs ys (after_item x c) run.1

module _ {G N S : Type 0} (old new : Lent G N S) (behind : IsOneOrder new) (grows : GrowsBy old new) where
  -- the control state that they found
  abbrev pub found_in : Control
  found_in = after_all old.items (begun old.past.workers)

  all_run : IsControlRun (begun old.past.workers) (old.items ++ grows.more)
  all_run =
      let order = behind.order in
      subst (λ (n : ℕ). IsControlRun (begun n) (old.items ++ grows.more)) grows.workers (subst (λ (l : List (Item N S)). IsControlRun (begun new.past.workers) l) grows.items order.run)

  pub runs_on : IsControlRun (after_all old.items (begun old.past.workers)) grows.more
  runs_on = behind_run old.items grows.more (begun old.past.workers) all_run

  pub leads_to : control_of new.past ≡ after_all grows.more (after_all old.items (begun old.past.workers))
  leads_to =
      behind.control ∙ ap (λ (n : ℕ). after_all new.items (begun n)) grows.workers
      ∙ ap (λ (xs : List (Item N S)). after_all xs (begun old.past.workers)) grows.items
      ∙ led_on old.items grows.more (begun old.past.workers)

pub all_last : {X : Type 0} (P : X → Type 0) (xs ys : List X) → All P (xs ++ ys) → All P ys
all_last P [] ys all = all
all_last P (x ∷ xs) ys all = all_last P xs ys (All-tail P x (xs ++ ys) all)

pub given_stay : (N O I T : Type 0) → EndsAreSealedOnce N T → GivenStay N O I T
given_stay N O I T once old new call takes asked =
    let before : IsOneOrder old = call.before in
    let behind : IsOneOrder new = call.behind in
    let grows : GrowsBy old new = call.grows in
    let order = before.order in
    let w = old.past.workers in
    let rest = asked_go_on N T O I once w old.items grows.more order.run (runs_on old new behind grows) old.past.given (subst (λ (c : Control). AllAsked c old.past.given) before.control asked) in
    let still = subst (λ (c : Control). AllAsked c old.past.given) (sym (leads_to old new behind grows)) rest in
    let split = subst (λ (gs : List (Given N O I)). AllAsked (control_of new.past) gs) takes.first still in
    all_last (λ (g : Given N O I). g.sealed ≡ true → WereAsked (control_of new.past) (g.end ∷ [])) takes.ends new.past.given split
