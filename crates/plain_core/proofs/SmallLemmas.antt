-- No pipe of a desk's objects has room for more than can be committed.
use Rattle.std.specs.Prelude.{◌≡◌, ◌≤◌, ◌<◌, ℕ, zero, suc, Bool, true, false, List, [], ◌∷◌, length, slice_index_or, refl}
use Rattle.std.proofs.Common.{arith, sym, ◌∙◌, subst}
use Rattle.zq_base.specs.Ends.{PipeId, other_end}
use Rattle.zq_base.specs.declared.options.Options.{Options}
use Rattle.spec_pattern.specs.PipeStep.{most_commits}
use Rattle.spec_control.specs.declared.entry.Item.{Item}
use Rattle.spec_control.specs.declared.entry.Item.TheVariants.{Event, Seen}
use Rattle.spec_control.specs.Row.{Row, nobody, is_session}
use Rattle.spec_control.specs.Rows.{obj}
use Rattle.spec_control.specs.Control.{Control, begun, next_object, owner_of}
use Rattle.spec_control.specs.After.{after}
use Rattle.spec_control.specs.ControlRun.{after_all, IsControlRun}
use Rattle.control_laws.proofs.StepLemmas.{some_object}
use Rattle.control_laws.specs.Kept.{Kept}
use Rattle.control_laws.proofs.RootLemmas.{begun_kept}
use Rattle.control_laws.proofs.RunLemmas.{after_kept}
use Rattle.control_laws.proofs.HeldRowLemmas.{event_keeps}
use Rattle.spec_run.specs.OwnedRun.{marks_by_sort, pipe_capacity}
use Rattle.plain_desk.specs.Lent.{HaveMarks, Lent, IsOneOrder}

-- the options of the root stay
root_stays : {N S : Type 0} (items : List (Item N S)) (c : Control) → Kept c → IsControlRun c items → (obj (after_all items c).rows 0).options ≡ (obj c.rows 0).options
root_stays [] c kept run = refl
root_stays (Event entry ∷ items) c kept run =
    root_stays items (after entry.did c) (after_kept c entry.did kept run.0) run.1
    ∙ (event_keeps c entry.did kept run.0 0 (some_object c.rows kept.reached)).options
root_stays (Seen sight ∷ items) c kept run = root_stays items c kept run.1

-- the marks of an object, which one that nobody has keeps too
record HasFew (o : Row) : Type 0 where
  pub out : o.options.hwm ≤ 10000
  pub input : o.options.rcvhwm ≤ 10000

few_marks : (a b : Bool) (v w : Options) → v.hwm ≤ 10000 → w.rcvhwm ≤ 10000 → marks_by_sort a b v w ≤ most_commits
few_marks true b v w out input = omega (arith, input)
few_marks false true v w out input = omega (arith, out)
few_marks false false v w out input = omega (arith, out, input)

each_few : (rows : List Row) → ((i : ℕ) → i < length rows → HasFew (slice_index_or rows i nobody)) → (i : ℕ) → HasFew (slice_index_or rows i nobody)
each_few [] each i = record { out = omega arith; input = omega arith }
each_few (o ∷ os) each zero = each 0 (omega arith)
each_few (o ∷ os) each (suc i) = each_few os (λ k there. each (suc k) (omega (arith, there))) i

module _ {G N S : Type 0} (d : Lent G N S) (is : IsOneOrder d) where
  abbrev then : Control
  then = after_all d.items (begun d.past.workers)

  root : (obj then.rows 0).options ≡ (obj (begun d.past.workers).rows 0).options
  root = root_stays d.items (begun d.past.workers) (begun_kept d.past.workers) is.order.run

  few_of : (i : ℕ) → i < next_object then → HasFew (obj then.rows i)
  few_of zero there = record {
    out = subst (λ (o : Options). o.hwm ≤ 10000) (sym root) (omega arith);
    input = subst (λ (o : Options). o.rcvhwm ≤ 10000) (sym root) (omega arith);
  }
  few_of (suc n) there =
      let marks = subst HaveMarks is.control is.options (suc n) (omega arith) there in
      record { out = marks.few_out; input = marks.few_in }

  few : (i : ℕ) → HasFew (obj then.rows i)
  few = each_few then.rows.objects (λ i there. few_of i there)

  pub small_pipes : (p : PipeId) → pipe_capacity then p ≤ most_commits
  small_pipes p =
      let writer = obj then.rows (owner_of then p) in
      let reader = obj then.rows (owner_of then (other_end p)) in
      few_marks (is_session writer.kind) (is_session reader.kind) writer.options reader.options (few (owner_of then p)).out (few (owner_of then (other_end p))).input
