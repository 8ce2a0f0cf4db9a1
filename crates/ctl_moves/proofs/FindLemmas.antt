-- The end that an event finds.
use Rattle.std.specs.Prelude.{◌≡◌, ◌≢◌, ◌≤◌, ℕ, Bool, true, false, not, List, Option, Some, None, length, refl}
use Rattle.std.proofs.Common.{arith, sym, ap, ◌∙◌, inl, inr}
use Rattle.zq_base.specs.declared.ids.EndId.{EndId}
use Rattle.spec_control.specs.declared.end.EndEvent.{EndEvent}
use Rattle.spec_control.specs.declared.end.EndEvent.TheVariants.{DelimiterSeen}
use Rattle.spec_control.specs.declared.end.EndState.{EndState}
use Rattle.spec_control.specs.EndLife.{comes}
use Rattle.spec_control.specs.Place.{Place, Unmade, Away, At, is_here}
use Rattle.spec_control.specs.PairPhase.{Happens, may, meets}
use Rattle.spec_control.specs.Rows.{PairRow, no_pair, obj, pair, end_place, end_half}
use Rattle.spec_control.specs.Control.{Control, owner_of, place_of}
use Rattle.control_laws.specs.Kept.{Kept}
use Rattle.control_laws.proofs.ListLemmas.{never, clash}
use Rattle.control_laws.proofs.RowLemmas.{pair_there}
use Rattle.control_laws.proofs.MetLemmas.{meets_cell}
use Rattle.control_laws.specs.Room.{to_come}
use Rattle.desk.specs.declared.load.Load.{Load}
use Rattle.desk.specs.Holding.{Holding}
use Rattle.ctl_state.specs.declared.state.State.{State}
use Rattle.ctl_state.specs.Boxes.{mail_at}
use Rattle.ctl_moves.specs.Turning.{TurnsAt, PutsLoaded}
use Rattle.ctl_moves.proofs.TurnLemmas.{comes_here}
use Rattle.ctl_moves.proofs.PutLemmas.{room_for}
use Rattle.std.proofs.lemmas.List.{length-append}
use Rattle.mailbox.specs.Mail.{Mail}
use Rattle.ctl_state.specs.declared.command.Command.{Command}
use Rattle.ctl_moves.proofs.CapacityLemmas.{capacity}

-- ---- an end that a command finds
pub record FindsAt (event : EndEvent) (place : Place) : Type 0 where
  pub state : EndState
  pub is : place ≡ At state
  pub may_come : comes event state ≡ true

pub finds_at : (event : EndEvent) (place : Place) → meets (Happens event) place ≡ true → FindsAt event place
finds_at event Unmade h = absurd (never h)
finds_at event Away h = absurd (never h)
finds_at event (At state) h = record { state = state; is = refl; may_come = h }

module _ (c : Control) (kept : Kept c) where
  -- the root has no end
  pub end_of_no_root : (e : EndId) → is_here (place_of c e) ≡ true → owner_of c e ≢ 0
  end_of_no_root e here zero_is =
      elim (kept.shape.ends e.pair.0 e.a) [
        | inl w ↦ absurd (some_none (sym w.1 ∙ ap (λ (n : ℕ). (obj c.rows n).owner) zero_is ∙ kept.shape.root))
        | inr none ↦ absurd (clash (is_here (place_of c e)) here (ap (λ (p : PairRow). is_here (end_place p e.a)) none ∙ gone e.a))
      ]
    where
      some_none : {w : ℕ} → Some w ≡ None → ⊥
      some_none f = Prim.grind arith

      gone : (a : Bool) → is_here (end_place no_pair a) ≡ false
      gone true = refl
      gone false = refl

  -- an event that may come to an end of an object whose holder is lent
  pub turns_at : {N O I : Type 0} (out_name : O → N) (in_name : I → N) (s : State (Load N O I)) (h : Holding N) (e : EndId) (event : EndEvent) → may (Happens event) (end_half (pair c.rows e.pair.0) e.a) (end_half (pair c.rows e.pair.0) (not e.a)) ≡ true →
      (owner_of c e ≢ 0 → h.holds (owner_of c e) ≡ true) → (event ≡ DelimiterSeen → h.at_delimiter e ≡ true) → ((m : ℕ) → to_come c m ≤ (mail_at s.boxes m).spare) → TurnsAt out_name in_name c s h e event
  turns_at out_name in_name s h e event may_it lent at room =
      let found = finds_at event (place_of c e) (meets_cell c kept e (Happens event) may_it) in
      let here = ap is_here found.is ∙ comes_here event found.state found.may_come in
      let within = pair_there c.rows e.pair.0 e.a (Happens event) may_it in
      record {
        lent = lent (end_of_no_root e here);
        within = within;
        listed = kept.listed e.pair.0 e.a here;
        state = found.state;
        there = found.is;
        may_come = found.may_come;
        delimiter = at;
        room = room_for c e within s event room;
      }

-- ---- commands that were put with what they bring
module _ {N O I : Type 0} (out_name : O → N) (in_name : I → N) (names : EndId → Option N) where
  pub loaded_capacity : (old new : List (Mail (Command (Load N O I)))) → PutsLoaded out_name in_name names old new → (m : ℕ) → capacity new m ≡ capacity old m
  loaded_capacity old new puts m =
      let g = puts.grows m in
      let all = ap (λ (xs : List (Command (Load N O I))). length xs) g.commands in
      let parts = length-append (mail_at old m).commands g.more in
      let spare = g.spare in
      omega (arith, all, parts, spare)
