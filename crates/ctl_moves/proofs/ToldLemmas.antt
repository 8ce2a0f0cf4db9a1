-- What changes of state the holders of ends are told of by each command.
use Rattle.std.specs.Prelude.{◌≡◌, ◌<◌, ◌++◌, ◌∷◌, [], Bool, true, not, List, Option, Some, All, length, refl}
use Rattle.std.specs.List.{list_any}
use Rattle.std.proofs.Common.{sym, ap, ◌∙◌, subst}
use Rattle.std.proofs.lemmas.List.{append-nil}
use Rattle.zq_base.specs.declared.ids.EndId.{EndId}
use Rattle.zq_base.specs.declared.ids.ObjId.{ObjId}
use Rattle.zq_base.specs.declared.ids.Settled.{Settled}
use Rattle.spec_control.specs.declared.end.EndEvent.TheVariants.{TermCame, AckCame}
use Rattle.spec_control.specs.declared.end.EndState.{EndState}
use Rattle.spec_control.specs.declared.letter.Word.{Word}
use Rattle.spec_control.specs.declared.letter.Word.TheVariants.{Own, TermReq, Term, TermAck, PipeTerm, PipeTermAck, Stop, Reap}
use Rattle.spec_control.specs.declared.entry.Answered.{Answered}
use Rattle.spec_control.specs.Place.{Place, Away, At}
use Rattle.spec_control.specs.Stage.{was_asked}
use Rattle.spec_control.specs.Row.{OwnComes, RequestComes, AckComes, ReapComes, StopComes}
use Rattle.spec_control.specs.Rows.{obj}
use Rattle.spec_control.specs.Control.{Control, happens, is_end, link, place_of, put, try_end}
use Rattle.spec_control.specs.After.{answers_in, processed, settle}
use Rattle.control_laws.proofs.StayLemmas.{SameEnds, own_ends_stay, ack_ends_stay, link_ends_stay}
use Rattle.desk.specs.Holding.{Holding}
use Rattle.desk.specs.Turns.{TurnsBy, HasTurned, turn_at}
use Rattle.ctl_moves.specs.Turning.{TurnsOnce, turn_of}
use Rattle.ctl_moves.proofs.TurnedLemmas.{from_away, place_same}
use Rattle.spec_control.specs.declared.end.EndState.TheVariants.{Active}
use Rattle.ctl_moves.specs.Terming.{children_told}
use Rattle.ctl_moves.specs.Processing.{HasCounts, SaysLeft}
use Rattle.ctl_moves.proofs.OnceLemmas.{told_more, told_none, told_one}

module _ {N : Type 0} where
  -- the bind of an end came, and it alone moved
  pub told_bound : (c d : Control) (e : EndId) (h k : Holding N) → d.attached ≡ c.attached ++ e ∷ [] → All (λ x. place_of d x ≡ place_of c x) c.attached → place_of c e ≡ Away → TurnsBy (turn_at e (At Active) (place_of d e)) h k → HasTurned c d h k
  told_bound c d e h k attached stay away turned =
      told_more c d (e ∷ []) h k attached stay
      (subst (λ (ts : List (EndId × EndState)). TurnsBy ts h k)
      (sym (append-nil (turn_at e (place_of c e) (place_of d e)) ∙ ap (λ (p : Place). turn_at e p (place_of d e)) away ∙ from_away e (place_of d e))) turned)

-- ---- each command
module _ {N S : Type 0} (to : ObjId) (a : Answered N S) (c : Control) (h k : Holding N) where
  abbrev Told : Word → Type 0
  Told word = TurnsOnce c (processed to.0 word (answers_in a) c) h k

  of_word : (letter_word word : Word) → letter_word ≡ word → Told word → Told letter_word
  of_word letter_word word is told = subst (λ (x : Word). TurnsOnce c (processed to.0 x (answers_in a) c) h k) (sym is) told

  none_by : (d : Control) → SameEnds c d → TurnsBy [] h k → TurnsOnce c d h k
  none_by d same none = told_none c d h k (place_same c d same.pairs) none

  pub own_told : (word : Word) (child : ObjId) → word ≡ Own child → TurnsBy [] h k → Told word
  own_told word child is none = of_word word (Own child) is (none_by (processed to.0 (Own child) (answers_in a) c) (own_ends_stay (was_asked (obj c.rows to.0).stage) OwnComes child.0 c) none)

  pub request_told : (word : Word) (child : ObjId) → word ≡ TermReq child → TurnsBy [] h k → Told word
  request_told word child is none =
      of_word word (TermReq child) is (none_by (processed to.0 (TermReq child) (answers_in a) c) (own_ends_stay (not (was_asked (obj c.rows to.0).stage)) RequestComes child.0 c) none)

  pub ack_told : (word : Word) (child : ObjId) → word ≡ TermAck child → TurnsBy [] h k → Told word
  ack_told word child is none = of_word word (TermAck child) is (none_by (processed to.0 (TermAck child) (answers_in a) c) (ack_ends_stay to.0 (answers_in a).left AckComes child.0 c) none)

  pub stop_told : (word : Word) → word ≡ Stop → TurnsBy [] h k → Told word
  stop_told word is none = of_word word Stop is (none_by (processed to.0 Stop (answers_in a) c) (link_ends_stay StopComes to.0 c) none)

  pub reap_told : (word : Word) (socket : ObjId) → word ≡ Reap socket → HasTurned c (put socket.0 Term (link ReapComes socket.0 c)) h k → Told word
  reap_told word socket is turned = of_word word (Reap socket) is (λ once. turned)

  pub turn_told : (word : Word) (e : EndId) → word ≡ PipeTerm e → e.pair.0 < length c.rows.pairs → list_any (is_end e) c.attached ≡ true → TurnsBy (turn_of e c (happens TermCame e c)) h k → Told word
  turn_told word e is within listed turned =
      of_word word (PipeTerm e) is (told_one c (happens TermCame e c) TermCame e h k (record { pairs = refl; attached = refl; reasons = refl }) within listed turned)

  pub term_told : (word : Word) (left : Bool) → word ≡ Term → SaysLeft left a → TurnsOnce c (try_end to.0 left (children_told to.0 c)) h k → Told word
  term_told word left is says turned = of_word word Term is (subst (λ (b : Bool). TurnsOnce c (try_end to.0 b (children_told to.0 c)) h k) (sym says.output) turned)

  pub acked_told : (word : Word) (e : EndId) (counts : Settled) (left : Bool) → word ≡ PipeTermAck e → HasCounts counts left a → TurnsOnce c (try_end to.0 left (settle e (Some counts) (happens AckCame e c))) h k → Told word
  acked_told word e counts left is has turned =
      of_word word (PipeTermAck e) is
      (subst (λ (x : Option Settled). TurnsOnce c (try_end to.0 a.output_left (settle e x (happens AckCame e c))) h k) (sym has.settled)
      (subst (λ (b : Bool). TurnsOnce c (try_end to.0 b (settle e (Some counts) (happens AckCame e c))) h k) (sym has.output) turned))
