-- An event's moves are steps of the rows.
use Rattle.std.specs.Prelude.{◌≡◌, ◌≢◌, ℕ, true, false, List, [], ◌∷◌, refl}
use Rattle.std.proofs.Common.{arith, sym, ap, ◌∙◌, subst}
use Rattle.spec_control.specs.declared.end.EndEvent.{EndEvent}
use Rattle.spec_control.specs.declared.letter.Letter.{Letter}
use Rattle.spec_control.specs.declared.entry.Did.{Did}
use Rattle.spec_control.specs.Stage.{has_ended}
use Rattle.spec_control.specs.Place.{Unmade}
use Rattle.spec_control.specs.PairPhase.{Opens, BindCame, Happens}
use Rattle.spec_control.specs.Rows.{Rows, obj, pair, pair_after, Step, makes_object, draws_pair, opens_pair, link_moves, pair_moves, object_ends}
use Rattle.spec_control.specs.Control.{Control, begun}
use Rattle.spec_control.specs.After.{after}
use Rattle.spec_control.specs.ControlRun.{Fits, after_all}
use Rattle.control_laws.specs.Kept.{Kept}
use Rattle.control_laws.proofs.ClosedLemmas.{Inv}
use Rattle.control_laws.proofs.RowLemmas.{preserved}
use Rattle.control_laws.proofs.StepLemmas.{inv_of, after_owner, moves_after}
use Rattle.control_laws.proofs.TellLemmas.{rows_of}
use Rattle.control_laws.proofs.EndLemmas.{kept_but, may_end_is}
use Rattle.control_laws.proofs.RootLemmas.{runs_are_kept}
use Rattle.control_laws.specs.Move.{Move, LinkMoves, EndMoves, ObjectEnds, ObjectMade, PairDrawn, LetterPut, move_rows, move_boxes, MayMove, Leads}
use Rattle.control_laws.specs.OwnMoves.{having_taken}
use Rattle.control_laws.specs.Steps.{Steps, no_step, one_more, EventsAreSteps}
use Rattle.control_laws.proofs.WeighLemmas.{taken_rows}
use Rattle.control_laws.proofs.EventGoLemmas.{event_goes}

bind_opens : BindCame ≢ Opens
bind_opens e = Prim.grind arith

heard_opens : (event : EndEvent) → Happens event ≢ Opens
heard_opens event e = Prim.grind arith

-- what a move does: a step, or nothing to the rows
data MoveDoes (s : Rows) (t : Rows) : Type 0 where
  steps_to : Step s t → MoveDoes s t
  stays_at : t ≡ s → MoveDoes s t

move_does : (m : Move) (s : Rows) → Inv s → MayMove m s → MoveDoes s (move_rows m s)
move_does (LinkMoves i event) s inv may_so = steps_to (link_moves i event may_so refl)
move_does (EndMoves e Opens) s inv may_so =
    let p = pair_after Opens e.a (pair s e.pair.0) in
    steps_to (opens_pair e.pair.0 e.a p (moves_after Opens e.a (pair s e.pair.0) (inv.phases e.pair.0) may_so.comes)
    (ap (λ (i : ℕ). has_ended (obj s i).stage) (after_owner Opens e.a true (pair s e.pair.0)) ∙ may_so.unended refl true)
    (ap (λ (i : ℕ). has_ended (obj s i).stage) (after_owner Opens e.a false (pair s e.pair.0)) ∙ may_so.unended refl false) refl)
move_does (EndMoves e BindCame) s inv may_so =
    steps_to (pair_moves e.pair.0 e.a BindCame (pair_after BindCame e.a (pair s e.pair.0)) bind_opens (moves_after BindCame e.a (pair s e.pair.0) (inv.phases e.pair.0) may_so.comes) refl)
move_does (EndMoves e (Happens event)) s inv may_so =
    steps_to (pair_moves e.pair.0 e.a (Happens event) (pair_after (Happens event) e.a (pair s e.pair.0)) (heard_opens event) (moves_after (Happens event) e.a (pair s e.pair.0) (inv.phases e.pair.0) may_so.comes) refl)
move_does (ObjectEnds i) s inv may_so = steps_to (object_ends i (may_end_is s i may_so) refl)
move_does (ObjectMade row) s inv may_so = steps_to (makes_object may_so.under row may_so.unended may_so.owner may_so.alive may_so.row_fits refl)
move_does (PairDrawn x y) s inv may_so = steps_to (draws_pair (record { a_owner = x; b_owner = y; a = Unmade; b = Unmade }) refl refl refl)
move_does (LetterPut to word) s inv may_so = stays_at refl

leads_steps : (r : Rows) (ms : List Move) (s : Rows) (boxes : ℕ → List Letter) (d : Control) → Steps r s → Inv s → Leads ms s boxes d → Steps r d.rows
leads_steps r [] s boxes d so inv h = subst (Steps r) (sym h.0) so
leads_steps r (m ∷ ms) s boxes d so inv h =
    elim (move_does m s inv h.0) [
      | steps_to step ↦ leads_steps r ms (move_rows m s) (move_boxes m s boxes) d (one_more s (move_rows m s) so step) (preserved s (move_rows m s) inv step) h.1
      | stays_at same ↦ leads_steps r ms (move_rows m s) (move_boxes m s boxes) d (subst (Steps r) (sym same) so) (subst Inv (sym same) inv) h.1
    ]

event_steps : {N S : Type 0} (c : Control) (did : Did N S) → Kept c → Fits c did → Steps c.rows (after did c).rows
event_steps c did kept fits =
    let g = event_goes c did kept fits in
    let inv = inv_of (rows_of (kept_but 0 c kept)) in
    leads_steps c.rows g.moves (having_taken did c).rows (having_taken did c).boxes (after did c) (subst (Steps c.rows) (sym (taken_rows did c)) no_step) (subst Inv (sym (taken_rows did c)) inv) g.leads

pub events_are_steps : (N S : Type 0) → EventsAreSteps N S
events_are_steps N S workers items run did fits = event_steps (after_all items (begun workers)) did (runs_are_kept N S workers items run) fits
