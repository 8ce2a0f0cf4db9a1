-- Over items of the order each object keeps its kind and its mailbox.
use Rattle.std.specs.Prelude.{◌≡◌, ◌<◌, ◌++◌, ◌∷◌, [], ℕ, List, refl}
use Rattle.std.proofs.Common.{sym, ap, ◌∙◌, subst}
use Rattle.spec_control.specs.declared.entry.Item.{Item}
use Rattle.spec_control.specs.declared.entry.Item.TheVariants.{Event, Seen}
use Rattle.spec_control.specs.Rows.{obj}
use Rattle.spec_control.specs.Control.{Control, begun, next_object}
use Rattle.spec_control.specs.ControlRun.{FitsItem, IsControlRun, after_all, after_item}
use Rattle.control_laws.specs.Kept.{Kept}
use Rattle.control_laws.proofs.HeldRowLemmas.{event_keeps}
use Rattle.control_laws.proofs.RootLemmas.{begun_kept}
use Rattle.control_laws.proofs.RunLemmas.{after_kept, run_kept}
use Rattle.control_laws.proofs.SlotLemmas.{event_slot}
use Rattle.control_laws.proofs.ThereLemmas.{event_there}
use Rattle.ctl_plane.specs.Past.{control_of}
use Rattle.plain_desk.specs.Lent.{GrowsBy, IsOneOrder, Lent}

-- an object is there still, with its kind and its mailbox
pub record StaysAt (i : ℕ) (c d : Control) : Type 0 where
  pub there : i < next_object d
  pub kind : (obj d.rows i).kind ≡ (obj c.rows i).kind
  pub slot : (obj d.rows i).slot ≡ (obj c.rows i).slot

module _ {N S : Type 0} where
  stays_then : (item : Item N S) (c : Control) → Kept c → FitsItem c item → (i : ℕ) → i < next_object c → StaysAt i c (after_item item c)
  stays_then (Event entry) c kept fits i there = record { there = event_there c entry.did kept fits i there; kind = (event_keeps c entry.did kept fits i there).kind; slot = event_slot c entry.did kept fits i there }
  stays_then (Seen sight) c kept fits i there = record { there = there; kind = refl; slot = refl }

  keeps_then : (item : Item N S) (c : Control) → Kept c → FitsItem c item → Kept (after_item item c)
  keeps_then (Event entry) c kept fits = after_kept c entry.did kept fits
  keeps_then (Seen sight) c kept fits = kept

  pub stays_over : (items : List (Item N S)) (c : Control) → Kept c → IsControlRun c items → (i : ℕ) → i < next_object c → StaysAt i c (after_all items c)
  stays_over [] c kept run i there = record { there = there; kind = refl; slot = refl }
  stays_over (item ∷ items) c kept run i there =
      let one = stays_then item c kept run.0 i there in
      let rest = stays_over items (after_item item c) (keeps_then item c kept run.0) run.1 i one.there in
      record { there = rest.there; kind = rest.kind ∙ one.kind; slot = rest.slot ∙ one.slot }

  run_rest : (xs ys : List (Item N S)) (c : Control) → IsControlRun c (xs ++ ys) → IsControlRun (after_all xs c) ys
  run_rest [] ys c run = run
  run_rest (x ∷ xs) ys c run = run_rest xs ys (after_item x c) run.1

  after_rest : (xs ys : List (Item N S)) (c : Control) → after_all (xs ++ ys) c ≡ after_all ys (after_all xs c)
  after_rest [] ys c = refl
  after_rest (x ∷ xs) ys c = after_rest xs ys (after_item x c)

-- the calls of a caller lead from the control state that they found to the one that they left
module _ {G N S : Type 0} (old new : Lent G N S) (behind : IsOneOrder new) (grows : GrowsBy old new) where
  -- the control state that they found
  abbrev pub found_by : Control
  found_by = after_all old.items (begun old.past.workers)

  whole_run : IsControlRun (begun old.past.workers) (old.items ++ grows.more)
  whole_run =
      let order = behind.order in
      subst (λ (n : ℕ). IsControlRun (begun n) (old.items ++ grows.more)) grows.workers (subst (λ (l : List (Item N S)). IsControlRun (begun new.past.workers) l) grows.items order.run)

  pub run_more : IsControlRun found_by grows.more
  run_more = run_rest old.items grows.more (begun old.past.workers) whole_run

  pub led_more : control_of new.past ≡ after_all grows.more found_by
  led_more =
      behind.control ∙ ap (λ (n : ℕ). after_all new.items (begun n)) grows.workers
      ∙ ap (λ (xs : List (Item N S)). after_all xs (begun old.past.workers)) grows.items
      ∙ after_rest old.items grows.more (begun old.past.workers)

  module _ (before : IsOneOrder old) where
    pub kept_found : Kept found_by
    kept_found = (let order = before.order in run_kept old.items (begun old.past.workers) (begun_kept old.past.workers) order.run)

    pub stays_at : (i : ℕ) → i < next_object (control_of old.past) → StaysAt i (control_of old.past) (control_of new.past)
    stays_at i there =
        subst (λ (d : Control). StaysAt i (control_of old.past) d) (sym led_more)
        (subst (λ (c : Control). StaysAt i c (after_all grows.more found_by)) (sym before.control)
        (stays_over grows.more found_by kept_found run_more i (subst (λ (c : Control). i < next_object c) before.control there)))
