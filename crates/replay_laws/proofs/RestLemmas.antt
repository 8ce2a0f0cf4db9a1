-- Where the reaper has nothing to take and each socket is closed, nothing is on its way and nobody waits.
use Rattle.std.specs.Prelude.{◌≡◌, ◌==◌, ◌||◌, ℕ, Bool, true, false, not, List, [], ◌∷◌, ◌++◌, Option, Some, None, All, map, refl}
use Rattle.std.proofs.Common.{sym, ap, ◌∙◌, subst}
use Rattle.std.proofs.lemmas.Bool.{eqb-true}
use Rattle.std.proofs.lemmas.List.Elements.{All-head, All-tail}
use Rattle.std.proofs.lemmas.List.Folds.{list_all-append}
use Rattle.std.specs.List.{list_all, list_any}
use Rattle.zq_base.specs.Ends.{PipeId}
use Rattle.zq_base.specs.declared.ids.ObjId.{ObjId}
use Rattle.spec_pattern.specs.PipeStep.{PipeStep}
use Rattle.spec_control.specs.declared.object.ObjKind.{ObjKind}
use Rattle.spec_control.specs.declared.object.ObjKind.TheVariants.{Root, Socket, Listener, Session}
use Rattle.spec_control.specs.declared.stage.Use.{Use}
use Rattle.spec_control.specs.declared.stage.Use.TheVariants.{Unused, OnItsWay, Used}
use Rattle.spec_control.specs.declared.entry.SeenEmpty.TheVariants.{Reapers}
use Rattle.spec_control.specs.declared.entry.Item.{Item}
use Rattle.spec_control.specs.Stage.{has_ended, is_coming, is_unused}
use Rattle.spec_control.specs.Row.{Up, GivesOwn, Requests, is_socket, is_session, is_listener, owner_fits, first_if}
use Rattle.spec_control.specs.Rows.{obj}
use Rattle.spec_control.specs.Control.{Control, begun}
use Rattle.spec_control.specs.After.{owner_or_root}
use Rattle.spec_control.specs.Reply.{root_asked}
use Rattle.spec_control.specs.ControlRun.{AreEmpty, FitsItem, after_item, after_all, IsControlRun}
use Rattle.spec_control.specs.Quiescence.{IsQuiescent}
use Rattle.control_laws.proofs.ListLemmas.{never, left, right, and}
use Rattle.control_laws.proofs.LinkLemmas.{at_owner}
use Rattle.control_laws.proofs.ClosedLemmas.{Inv}
use Rattle.control_laws.proofs.QuietLemmas.{socket_owner}
use Rattle.control_laws.proofs.StepLemmas.{inv_of}
use Rattle.control_laws.specs.Kept.{Kept}
use Rattle.control_laws.specs.Mail.{Mark, UpLink, on_way, queue, slot_of}
use Rattle.control_laws.proofs.TellLemmas.{rows_of}
use Rattle.control_laws.proofs.EndLemmas.{kept_but}
use Rattle.control_laws.proofs.RootLemmas.{queue_is, quiescent_root_has_ended}
use Rattle.spec_run.specs.Act.{Act, Step, Said, moments_in}
use Rattle.replay_laws.specs.Local.{is_local_item, HasSocketsAlone}
use Rattle.replay_laws.specs.Mailboxes.{MayHaveBox, HaveBoxes}
use Rattle.replay_laws.proofs.LocalLemmas.{sockets_alone}
use Rattle.replay_laws.proofs.LetterLemmas.{kept_of, boxes_of}
use Rattle.replay_laws.proofs.WalkLemmas.{leaves, Walks, Reached, run_more, all_more}
use Rattle.replay_laws.specs.Resting.{AllAreClosed, RestingReapersHaveEnded}
use Rattle.replay_laws.proofs.DoneStayLemmas.{IsThere, WasClosed, were_closed}

-- a state that a control run leads to in which nothing is asked over tcp
pub record Locally (N S : Type 0) (c : Control) : Type 0 where
  pub items : List (Item N S)
  pub run : IsControlRun (begun 1) items
  pub plain : list_all is_local_item items ≡ true
  pub is : after_all items (begun 1) ≡ c

abbrev pub reached : {N S : Type 0} {c : Control} → Locally N S c → Reached N S c
reached l = record { items = l.items; run = l.run; is = l.is }

-- what is so of all is so of one that is among them
any_has : (Q : ℕ → Type 0) (os : List ObjId) (i : ℕ) → All (λ o. Q o.0) os → list_any (λ o. o.0 == i) os ≡ true → Q i
any_has Q [] i all e = absurd (never e)
any_has Q (o ∷ os) i all e = by (o.0 == i) refl e (any_has Q os i (All-tail (λ (x : ObjId). Q x.0) o os all))
  where
    by : (b : Bool) → (o.0 == i) ≡ b → (b || list_any (λ (x : ObjId). x.0 == i) os) ≡ true → (list_any (λ (x : ObjId). x.0 == i) os ≡ true → Q i) → Q i
    by true is h later = subst Q (eqb-true o.0 i is) (All-head (λ (x : ObjId). Q x.0) o os all)
    by false is h later = later h

full : {X : Type 0} (x : X) (xs : List X) → x ∷ xs ≡ [] → ⊥
full x xs e = cc

-- a request that is on its way is in the owner's mailbox
coming_marks : (f : Up → Mark) (own coming : Bool) (rest : List Up) → coming ≡ true → map f (first_if own GivesOwn (first_if coming Requests rest)) ≡ [] → ⊥
coming_marks f true coming rest is none = full (f GivesOwn) (map f (first_if coming Requests rest)) none
coming_marks f false true rest is none = full (f Requests) (map f rest) none
coming_marks f false false rest is none = never is

root_kind : (kind : ObjKind) (workers slots slot : ℕ) → owner_fits kind None ≡ true → MayHaveBox workers slots kind slot → slot ≡ 0
root_kind Root workers slots slot fits box = box
root_kind (Socket kind) workers slots slot fits box = absurd (never fits)
root_kind Listener workers slots slot fits box = absurd (never fits)
root_kind Session workers slots slot fits box = absurd (never fits)

module _ {N S : Type 0} (c : Control) (l : Locally N S c) (closed : AllAreClosed c) (empty : AreEmpty c Reapers) where
  kept : Kept c
  kept = kept_of c (reached l)

  inv : Inv c.rows
  inv = inv_of (rows_of (kept_but 0 c kept))

  boxes : HaveBoxes c
  boxes = boxes_of c (reached l)

  alone : HasSocketsAlone c
  alone = subst HasSocketsAlone l.is (sockets_alone N S 1 l.items l.run l.plain)

  root_slot : (obj c.rows 0).slot ≡ 0
  root_slot =
      root_kind (obj c.rows 0).kind c.workers c.slots (obj c.rows 0).slot
      (subst (λ (w : Option ℕ). owner_fits (obj c.rows 0).kind w ≡ true) kept.shape.root (at_owner (obj c.rows 0) (inv.fits 0))) (boxes.each 0)

  was_closed : (i : ℕ) → is_socket (obj c.rows i).kind ≡ true → is_unused (obj c.rows i).request ≡ false
  was_closed i is = (any_has (IsThere WasClosed c.rows) c.closed i (were_closed c (reached l)) (closed i is)).so

  no_reap : (i : ℕ) → is_socket (obj c.rows i).kind ≡ true → is_coming (obj c.rows i).request ≡ true → ⊥
  no_reap i is coming =
      let owner : (obj c.rows i).owner ≡ Some 0 = socket_owner (obj c.rows i).kind (obj c.rows i).owner (at_owner (obj c.rows i) (inv.fits i)) is in
      let at : slot_of c.rows (UpLink i) ≡ 0 = ap (λ (w : Option ℕ). (obj c.rows (owner_or_root w)).slot) owner ∙ root_slot in
      let none : queue c.rows (UpLink i) ≡ [] = sym (queue_is c kept (UpLink i)) ∙ ap (λ (n : ℕ). on_way (UpLink i) (c.boxes n)) at ∙ ap (on_way (UpLink i)) empty.0 in
      coming_marks _ (not (obj c.rows i).noted) (is_coming (obj c.rows i).request) _ coming none

  socket_empty : (i : ℕ) → is_socket (obj c.rows i).kind ≡ true → c.boxes (obj c.rows i).slot ≡ []
  socket_empty i is = by (obj c.rows i).request refl
    where
      by : (u : Use) → (obj c.rows i).request ≡ u → c.boxes (obj c.rows i).slot ≡ []
      by Unused e = absurd (never (sym (was_closed i is) ∙ ap is_unused e))
      by OnItsWay e = absurd (no_reap i is (ap is_coming e))
      by Used e = any_has (λ (n : ℕ). (obj c.rows n).request ≡ Used → c.boxes (obj c.rows n).slot ≡ []) c.closed i empty.1 (closed i is) e

  each_empty : (i : ℕ) → c.boxes (obj c.rows i).slot ≡ []
  each_empty i = by (obj c.rows i).kind refl (boxes.each i)
    where
      by : (kind : ObjKind) → (obj c.rows i).kind ≡ kind → MayHaveBox c.workers c.slots kind (obj c.rows i).slot → c.boxes (obj c.rows i).slot ≡ []
      by Root e box = ap c.boxes box ∙ empty.0
      by (Socket kind) e box = socket_empty i (ap is_socket e)
      by Listener e box = absurd (never (sym (alone.no_listener i) ∙ ap is_listener e))
      by Session e box = absurd (never (sym (alone.no_session i) ∙ ap is_session e))

  rests : root_asked c ≡ true → IsQuiescent c
  rests asked = record {
    asked = asked;
    closed = was_closed;
    empty = each_empty;
    no_output = λ i e. alone.no_output i;
    no_delimiter = λ k a e on at. never (sym (alone.no_session _) ∙ left _ _ on);
  }

  pub root_has_ended : root_asked c ≡ true → has_ended (obj c.rows 0).stage ≡ true
  root_has_ended asked =
      subst (λ (x : Control). has_ended (obj x.rows 0).stage ≡ true) l.is (quiescent_root_has_ended N S 1 l.items l.run (subst IsQuiescent (sym l.is) (rests asked)))

pub resting_have_ended : (N S : Type 0) → RestingReapersHaveEnded N S
resting_have_ended N S items run plain asked closed empty =
    root_has_ended (after_all items (begun 1)) (record { items = items; run = run; plain = plain; is = refl }) closed empty asked

module _ {N S : Type 0} where
  locally_item : (item : Item N S) (c : Control) → Locally N S c → FitsItem c item → is_local_item item ≡ true → Locally N S (after_item item c)
  locally_item item c l fits is = record {
    items = l.items ++ item ∷ [];
    run = run_more l.items item (begun 1) l.run (subst (λ d. FitsItem d item) (sym l.is) fits);
    plain = list_all-append is_local_item l.items (item ∷ []) ∙ and _ _ l.plain (and _ _ is refl);
    is = all_more l.items item (begun 1) ∙ ap (after_item item) l.is;
  }

  pub locally_on : (cap : PipeId → ℕ) (xs : List (Act N S)) (c : Control) (past : List PipeStep) → Locally N S c → Walks cap c past xs → list_all (λ m. is_local_item m.item) (moments_in xs) ≡ true → Locally N S (leaves c xs)
  locally_on cap [] c past l w all = l
  locally_on cap (Step s ∷ xs) c past l w all = locally_on cap xs c (past ++ s ∷ []) l w.1 all
  locally_on cap (Said m ∷ xs) c past l w all =
      locally_on cap xs (after_item m.item c) past (locally_item m.item c l w.1 (left _ _ all)) w.2 (right (is_local_item m.item) _ all)
