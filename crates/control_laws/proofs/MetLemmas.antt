-- No cell is met that is never to be met.
use Rattle.std.specs.Prelude.{◌≡◌, ℕ, true, not, List, ◌∷◌, Some, None}
use Rattle.std.proofs.Common.{arith, subst}
use Rattle.zq_base.specs.declared.ids.EndId.{EndId}
use Rattle.spec_control.specs.declared.end.EndEvent.TheVariants.{Asked, TermCame, DelimiterSeen, AckCame}
use Rattle.spec_control.specs.declared.letter.Letter.{Letter}
use Rattle.spec_control.specs.declared.letter.Word.{Word}
use Rattle.spec_control.specs.declared.letter.Word.TheVariants.{Own, Plug, TermReq, Term, TermAck, PipeBind, PipeTerm, PipeTermAck, Stop, Reap}
use Rattle.spec_control.specs.PairPhase.{PairEvent, BindCame, Happens, may}
use Rattle.spec_control.specs.Rows.{pair, end_half}
use Rattle.spec_control.specs.Control.{Control, begun, id}
use Rattle.spec_control.specs.ControlRun.{after_all}
use Rattle.control_laws.specs.Kept.{Kept}
use Rattle.control_laws.proofs.LinkLemmas.{moves_on}
use Rattle.control_laws.proofs.StepLemmas.{inv_of, moves_after}
use Rattle.control_laws.proofs.TellLemmas.{rows_of}
use Rattle.control_laws.proofs.EndLemmas.{kept_but}
use Rattle.control_laws.proofs.RootLemmas.{runs_are_kept}
use Rattle.control_laws.specs.Met.{EndMeets, met_by, MeetsCell, NeverMeets, NeverCellsAreNotMet}
use Rattle.control_laws.proofs.GuardLemmas.{bind_may, term_came_may, ack_came_may, plug_end_may}

-- an event that may come in a phase meets a cell that goes on
pub meets_cell : (c : Control) → Kept c → (e : EndId) (event : PairEvent) → may event (end_half (pair c.rows e.pair.0) e.a) (end_half (pair c.rows e.pair.0) (not e.a)) ≡ true → MeetsCell c (record { end = e; event = event })
meets_cell c kept e event comes =
    let phase = (inv_of (rows_of (kept_but 0 c kept))).phases e.pair.0 in
    (moves_on event e.a (pair c.rows e.pair.0) _ phase (moves_after event e.a (pair c.rows e.pair.0) phase comes)).1

same_some : {X : Type 0} {x y : X} → Some x ≡ Some y → x ≡ y
same_some e = Prim.grind arith

none_of : {X : Type 0} {x : X} → None ≡ Some x → ⊥
none_of e = Prim.grind arith

command_meets : (c : Control) → Kept c → (slot : ℕ) (rest : List Letter) (at : ℕ) (word : Word) (m : EndMeets) → c.boxes slot ≡ record { to = id at; word = word } ∷ rest → met_by word ≡ Some m → MeetsCell c m
command_meets c kept slot rest at (Own child) m is e = absurd (none_of e)
command_meets c kept slot rest at (Plug None) m is e = absurd (none_of e)
command_meets c kept slot rest at (Plug (Some x)) m is e = subst (MeetsCell c) (same_some e) (meets_cell c kept x BindCame (plug_end_may c kept slot rest at x is).1)
command_meets c kept slot rest at (TermReq child) m is e = absurd (none_of e)
command_meets c kept slot rest at Term m is e = absurd (none_of e)
command_meets c kept slot rest at (TermAck child) m is e = absurd (none_of e)
command_meets c kept slot rest at (PipeBind x peer) m is e = subst (MeetsCell c) (same_some e) (meets_cell c kept x BindCame (bind_may c kept slot rest at x peer is))
command_meets c kept slot rest at (PipeTerm x) m is e = subst (MeetsCell c) (same_some e) (meets_cell c kept x (Happens TermCame) (term_came_may c kept slot rest at x is))
command_meets c kept slot rest at (PipeTermAck x) m is e = subst (MeetsCell c) (same_some e) (meets_cell c kept x (Happens AckCame) (ack_came_may c kept slot rest at x is))
command_meets c kept slot rest at Stop m is e = absurd (none_of e)
command_meets c kept slot rest at (Reap socket) m is e = absurd (none_of e)

never_meets : (c : Control) → Kept c → NeverMeets c
never_meets c kept = record {
  commands = λ slot letter m may_deliver e. command_meets c kept slot may_deliver.behind letter.to.0 letter.word m may_deliver.oldest e;
  delimiters = λ e may_delimit. meets_cell c kept e (Happens DelimiterSeen) may_delimit.looked_at;
  asks = λ e reason delay here. meets_cell c kept e (Happens (Asked reason delay)) here;
}

pub never_cells_are_not_met : (N S : Type 0) → NeverCellsAreNotMet N S
never_cells_are_not_met N S workers items run = never_meets (after_all items (begun workers)) (runs_are_kept N S workers items run)
