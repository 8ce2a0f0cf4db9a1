-- Where a call of the reaper leads: it draws no pair, and each end that was there is its object's still.
use Rattle.std.specs.Prelude.{◌≡◌, ◌≤◌, ◌<◌, ◌==◌, ◌∷◌, [], true, false, List, All, length, refl}
use Rattle.std.proofs.Common.{arith, sym, ap, ◌∙◌, subst}
use Rattle.std.proofs.lemmas.Bool.{eq-eqb}
use Rattle.std.proofs.lemmas.List.Elements.{All-head}
use Rattle.zq_base.specs.declared.ids.EndId.{EndId}
use Rattle.spec_control.specs.declared.entry.Did.{Did}
use Rattle.spec_control.specs.declared.entry.Did.TheVariants.{Asked, Delivered, Delimited}
use Rattle.spec_control.specs.declared.entry.Item.{Item}
use Rattle.spec_control.specs.declared.entry.Item.TheVariants.{Event, Seen}
use Rattle.spec_control.specs.Place.{is_here}
use Rattle.spec_control.specs.Control.{Control, begun, next_pair, owner_of, place_of}
use Rattle.spec_control.specs.ControlRun.{after_all, IsControlRun}
use Rattle.control_laws.proofs.ListLemmas.{never}
use Rattle.control_laws.specs.Kept.{Kept}
use Rattle.control_laws.proofs.MoveLemmas.{is_at}
use Rattle.ctl_plane.specs.Past.{control_of}
use Rattle.socket_laws.specs.Places.{is_end_of}
use Rattle.socket_laws.proofs.PlaceLemmas.{any_filter, its_stay, its_there, made_above}
use Rattle.socket_laws.specs.OwnQuiet.{may_pair_by, may_pair_in}
use Rattle.socket_laws.proofs.OwnQuietLemmas.{others_make_none}
use Rattle.plain_desk.specs.Lent.{IsOneOrder, Lent}
use Rattle.socket_laws.specs.Behind.{is_request, is_requested}
use Rattle.socket_laws.proofs.SocketLemmas.{kept_now}
use Rattle.core_laws.specs.ReapedCall.{IsReapersCall}
use Rattle.core_laws.proofs.GrowLemmas.{leads_to, runs_on}

module _ {N T : Type 0} where
  no_pair_in : (did : Did N T) → is_requested did ≡ false → may_pair_in did ≡ false
  no_pair_in (Asked req reply h) none = absurd (never (sym none))
  no_pair_in (Delivered slot letter h) none = refl
  no_pair_in (Delimited e h) none = refl

  no_pair_by : (x : Item N T) → is_request x ≡ false → may_pair_by x ≡ false
  no_pair_by (Event entry) none = no_pair_in entry.did none
  no_pair_by (Seen sight) none = refl

module _ {G N T : Type 0} (old new : Lent G N T) (call : IsReapersCall old new) where
  abbrev found : Control
  found = after_all old.items (begun old.past.workers)

  was_order : IsOneOrder old
  was_order = call.before

  run : IsControlRun (begun old.past.workers) old.items
  run = (let all = was_order.order in all.run)

  on : IsControlRun (after_all old.items (begun old.past.workers)) call.grows.more
  on = runs_on old new call.behind call.grows

  by_items : (xs : List (Item N T)) → call.grows.more ≡ xs → length xs ≤ 1 → All (λ x. is_request x ≡ false) xs → next_pair (after_all xs found) ≡ next_pair found
  by_items [] e few all = refl
  by_items (x ∷ []) e few all =
      (others_make_none N T old.past.workers old.items x run (subst (IsControlRun found) e on).0 (no_pair_by x (All-head (λ (y : Item N T). is_request y ≡ false) x [] all))).0
  by_items (x ∷ y ∷ ys) e few all = absurd (omega (arith, few))

  pub same_pairs : next_pair (control_of new.past) ≡ next_pair (control_of old.past)
  same_pairs = ap next_pair (leads_to old new call.behind call.grows) ∙ by_items call.grows.more refl call.few call.asks_none ∙ ap next_pair (sym was_order.control)

  module _ (e : EndId) (here : is_here (place_of (control_of old.past) e) ≡ true) where
    abbrev c : Control
    c = control_of old.past

    kept : Kept c
    kept = kept_now old was_order

    its : is_end_of (owner_of (control_of old.past) e) (control_of old.past) e ≡ true
    its = any_filter (λ x. owner_of c x == owner_of c e) e c.attached (eq-eqb (owner_of c e) (owner_of c e) refl) (kept.listed e.pair.0 e.a here)

    its_now : is_end_of (owner_of (control_of old.past) e) (after_all new.items (begun new.past.workers)) e ≡ true
    its_now =
        let behind : IsOneOrder new = call.behind in
        subst (λ (x : Control). is_end_of (owner_of c e) x e ≡ true) (sym (leads_to old new behind call.grows) ∙ behind.control)
        (its_stay old.past.workers call.grows.more old.items run on (owner_of c e) e (subst (λ (x : Control). is_end_of (owner_of c e) x e ≡ true) was_order.control its))

    -- it is somewhere still, and its object's
    pub record IsStill : Type 0 where
      pub above : 0 < e.pair.0
      pub numbered : e.pair.0 < next_pair (control_of new.past)
      pub at : is_at (place_of (control_of new.past) e) ≡ true
      pub own : owner_of (control_of new.past) e ≡ owner_of (control_of old.past) e

    pub is_still : IsStill
    is_still =
        let behind : IsOneOrder new = call.behind in
        let all = behind.order in
        let there = its_there new.past.workers new.items all.run (owner_of c e) e its_now in
        record {
          above = made_above old.past.workers old.items run e (subst (λ (x : Control). is_here (place_of x e) ≡ true) was_order.control here);
          numbered = subst (λ (x : Control). e.pair.0 < next_pair x) (sym behind.control) there.numbered;
          at = subst (λ (x : Control). is_at (place_of x e) ≡ true) (sym behind.control) there.at;
          own = ap (λ (x : Control). owner_of x e) behind.control ∙ there.own;
        }
