-- An end whose acknowledgement is on its way has given its writing half away.
use Rattle.std.specs.Prelude.{◌≡◌, ◌∷◌, ℕ, true, false, not, List, refl}
use Rattle.zq_base.specs.Ends.{other_end}
use Rattle.zq_base.specs.declared.ids.EndId.{EndId}
use Rattle.spec_control.specs.declared.end.EndState.TheVariants.{Active, DelimiterGot, WaitDelimiter, AckSent, AskedOnce, AskedTwice, Gone}
use Rattle.spec_control.specs.declared.letter.Letter.{Letter}
use Rattle.spec_control.specs.declared.letter.Word.TheVariants.{PipeTermAck}
use Rattle.spec_control.specs.Place.{Place, Unmade, Away, At, waiting}
use Rattle.spec_control.specs.PairPhase.{front_is_ack}
use Rattle.spec_control.specs.Rows.{end_place, pair}
use Rattle.spec_control.specs.Control.{Control, id, place_of}
use Rattle.control_laws.proofs.ListLemmas.{never}
use Rattle.control_laws.specs.Kept.{Kept}
use Rattle.control_laws.proofs.GuardLemmas.{ack_came_may}
use Rattle.desk.specs.Lent.{has_writer}

gave : (mine theirs : Place) → front_is_ack (waiting mine theirs) ≡ true → has_writer theirs ≡ false
gave mine Unmade h = refl
gave mine Away h = refl
gave Unmade (At Active) h = absurd (never h)
gave Away (At Active) h = absurd (never h)
gave (At Active) (At Active) h = absurd (never h)
gave (At DelimiterGot) (At Active) h = absurd (never h)
gave (At WaitDelimiter) (At Active) h = absurd (never h)
gave (At AckSent) (At Active) h = absurd (never h)
gave (At AskedOnce) (At Active) h = absurd (never h)
gave (At AskedTwice) (At Active) h = absurd (never h)
gave (At Gone) (At Active) h = absurd (never h)
gave Unmade (At DelimiterGot) h = absurd (never h)
gave Away (At DelimiterGot) h = absurd (never h)
gave (At Active) (At DelimiterGot) h = absurd (never h)
gave (At DelimiterGot) (At DelimiterGot) h = absurd (never h)
gave (At WaitDelimiter) (At DelimiterGot) h = absurd (never h)
gave (At AckSent) (At DelimiterGot) h = absurd (never h)
gave (At AskedOnce) (At DelimiterGot) h = absurd (never h)
gave (At AskedTwice) (At DelimiterGot) h = absurd (never h)
gave (At Gone) (At DelimiterGot) h = absurd (never h)
gave Unmade (At WaitDelimiter) h = absurd (never h)
gave Away (At WaitDelimiter) h = absurd (never h)
gave (At Active) (At WaitDelimiter) h = absurd (never h)
gave (At DelimiterGot) (At WaitDelimiter) h = absurd (never h)
gave (At WaitDelimiter) (At WaitDelimiter) h = absurd (never h)
gave (At AckSent) (At WaitDelimiter) h = absurd (never h)
gave (At AskedOnce) (At WaitDelimiter) h = absurd (never h)
gave (At AskedTwice) (At WaitDelimiter) h = absurd (never h)
gave (At Gone) (At WaitDelimiter) h = absurd (never h)
gave mine (At AckSent) h = refl
gave Unmade (At AskedOnce) h = absurd (never h)
gave Away (At AskedOnce) h = absurd (never h)
gave (At Active) (At AskedOnce) h = absurd (never h)
gave (At DelimiterGot) (At AskedOnce) h = absurd (never h)
gave (At WaitDelimiter) (At AskedOnce) h = absurd (never h)
gave (At AckSent) (At AskedOnce) h = absurd (never h)
gave (At AskedOnce) (At AskedOnce) h = absurd (never h)
gave (At AskedTwice) (At AskedOnce) h = absurd (never h)
gave (At Gone) (At AskedOnce) h = absurd (never h)
gave mine (At AskedTwice) h = refl
gave mine (At Gone) h = refl

pub acked_gave : (c : Control) → Kept c → (slot : ℕ) (rest : List Letter) (to : ℕ) (e : EndId) → c.boxes slot ≡ record { to = id to; word = PipeTermAck e } ∷ rest → has_writer (place_of c (other_end e)) ≡ false
acked_gave c kept slot rest to e is = gave (end_place (pair c.rows e.pair.0) e.a) (end_place (pair c.rows e.pair.0) (not e.a)) (ack_came_may c kept slot rest to e is)
