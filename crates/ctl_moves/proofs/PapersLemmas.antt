-- That the pipes between two sockets are made as large as their marks say, and what drawing a number leaves.
use Rattle.std.specs.Prelude.{◌≡◌, ℕ, Bool, length}
use Rattle.std.proofs.Common.{sym, subst}
use Rattle.zq_base.specs.declared.ids.EndId.{EndId}
use Rattle.zq_base.specs.declared.ids.PairId.{PairId}
use Rattle.spec_control.specs.Control.{Control, draws, end_of}
use Rattle.desk.specs.Making.{capacity_between}
use Rattle.ctl_state.specs.declared.state.State.{State}
use Rattle.ctl_state.specs.Stands.{Stands}
use Rattle.ctl_moves.specs.declared.joining_ends.Capacities.{Capacities}
use Rattle.ctl_moves.specs.declared.owners.Owners.{Owners}
use Rattle.ctl_moves.specs.declared.papers.Papers.{Papers}
use Rattle.ctl_moves.specs.Papers.{AreCapacities, AreMarked, ArePapers, MayMake}

module _ {L : Type 0} (s : State L) (o : Owners) (end : EndId) (may_make : EndId → ℕ → ℕ → Type 0) (m : MayMake s o.first o.last end may_make) where
  abbrev pub marked_for : AreMarked s o
  marked_for = record { control = m.control; stands = m.stands; first = m.first_marks; last = m.last_marks }

  -- the end may be made with the capacities of its owners
  pub may_hold : (x : Capacities) → ((w : AreMarked s o) → AreCapacities w.control o x) → may_make end x.written x.read
  may_hold x are =
      let sizes = are marked_for in
      subst (λ (n : ℕ). may_make end n x.read) (sym sizes.written)
      (subst (λ (n : ℕ). may_make end (capacity_between m.control o.first.0 o.last.0) n) (sym sizes.read) m.makes)

-- an end may still be made once its pair's number is drawn
pub drawn_makes : {L : Type 0} (s t : State L) (i j : ℕ) (o : Owners) (a : Bool) (may_make : EndId → ℕ → ℕ → Type 0) (pair : PairId) → pair.0 ≡ length s.pairs → ((c : Control) → Stands s c → Stands t (draws i j c)) →
    MayMake s o.first o.last (end_of (length s.pairs) a) may_make → MayMake t o.first o.last (end_of pair.0 a) may_make
drawn_makes s t i j o a may_make pair number moves m = record {
  control = draws i j m.control;
  stands = moves m.control m.stands;
  first_marks = m.first_marks;
  last_marks = m.last_marks;
  makes = subst (λ (n : ℕ). may_make (end_of n a) (capacity_between m.control o.first.0 o.last.0) (capacity_between m.control o.last.0 o.first.0)) (sym number) m.makes;
}

-- and what its owners tell each other is the same
pub drawn_papers : (c : Control) (i j : ℕ) (o : Owners) (x : Papers) → ArePapers (draws i j c) o x → ArePapers c o x
drawn_papers c i j o x are = record { identity = are.identity; peer = are.peer }
