-- Beside an end on its way the other end of its pair is there.
use Rattle.std.specs.Prelude.{◌≡◌, Bool, true, false, not, refl}
use Rattle.std.proofs.Common.{sym, ap, ◌∙◌}
use Rattle.zq_base.specs.Ends.{other_end}
use Rattle.zq_base.specs.declared.ids.EndId.{EndId}
use Rattle.spec_control.specs.PairPhase.{Phase, Drawn, Opened, OpenedAsked, OpenedSeen, Both, BothSeen, BothSaw, AskedOne, Waits, Seen as SawFirst, Crossed, CrossedOne, CrossedBoth, Acked, FirstGone, LastOne, Over, place_in}
use Rattle.spec_control.specs.Place.{is_away, is_here}
use Rattle.spec_control.specs.Rows.{PairRow, IsInPhase, end_place, pair}
use Rattle.spec_control.specs.Control.{Control, place_of}
use Rattle.control_laws.proofs.ListLemmas.{never}
use Rattle.control_laws.proofs.StepLemmas.{inv_of}
use Rattle.control_laws.specs.Kept.{Kept}
use Rattle.control_laws.proofs.EndLemmas.{kept_but}
use Rattle.control_laws.proofs.TellLemmas.{rows_of}

beside_away : (phase : Phase) (first : Bool) → is_away (place_in phase first) ≡ true → is_here (place_in phase (not first)) ≡ true
beside_away Opened false h = refl
beside_away OpenedAsked false h = refl
beside_away OpenedSeen false h = refl
beside_away Drawn true h = absurd (never h)
beside_away Drawn false h = absurd (never h)
beside_away Opened true h = absurd (never h)
beside_away OpenedAsked true h = absurd (never h)
beside_away OpenedSeen true h = absurd (never h)
beside_away Both true h = absurd (never h)
beside_away Both false h = absurd (never h)
beside_away BothSeen true h = absurd (never h)
beside_away BothSeen false h = absurd (never h)
beside_away BothSaw true h = absurd (never h)
beside_away BothSaw false h = absurd (never h)
beside_away AskedOne true h = absurd (never h)
beside_away AskedOne false h = absurd (never h)
beside_away Waits true h = absurd (never h)
beside_away Waits false h = absurd (never h)
beside_away SawFirst true h = absurd (never h)
beside_away SawFirst false h = absurd (never h)
beside_away Crossed true h = absurd (never h)
beside_away Crossed false h = absurd (never h)
beside_away CrossedOne true h = absurd (never h)
beside_away CrossedOne false h = absurd (never h)
beside_away CrossedBoth true h = absurd (never h)
beside_away CrossedBoth false h = absurd (never h)
beside_away Acked true h = absurd (never h)
beside_away Acked false h = absurd (never h)
beside_away FirstGone true h = absurd (never h)
beside_away FirstGone false h = absurd (never h)
beside_away LastOne true h = absurd (never h)
beside_away LastOne false h = absurd (never h)
beside_away Over true h = absurd (never h)
beside_away Over false h = absurd (never h)

beside_in : (p : PairRow) → IsInPhase p → (a : Bool) → is_away (end_place p a) ≡ true → is_here (end_place p (not a)) ≡ true
beside_in p is true away = ap is_here is.b_is ∙ beside_away is.phase is.first (ap is_away (sym is.a_is) ∙ away)
beside_in p is false away = ap is_here is.a_is ∙ ap (λ (b : Bool). is_here (place_in is.phase b)) (sym (twice is.first)) ∙ beside_away is.phase (not is.first) (ap is_away (sym is.b_is) ∙ away)
  where
    twice : (b : Bool) → not (not b) ≡ b
    twice true = refl
    twice false = refl

pub other_here : (c : Control) → Kept c → (e : EndId) → is_away (place_of c e) ≡ true → is_here (place_of c (other_end e)) ≡ true
other_here c kept e away = beside_in (pair c.rows e.pair.0) ((inv_of (rows_of (kept_but 0 c kept))).phases e.pair.0) e.a away
