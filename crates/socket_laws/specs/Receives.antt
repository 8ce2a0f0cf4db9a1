-- What a call adds to the messages that were given (zmq_msg_recv(3); own choice).
use Rattle.std.specs.Prelude.{◌≡◌, ◌+◌, ℕ, Bool, false, List, [], ◌∷◌, ◌++◌, if◌then◌else◌}
use Rattle.zq_base.specs.Ends.{PipeId}
use Rattle.spec_run.specs.declared.script.Call.TheVariants as call
use Rattle.spec_pattern.specs.PipeStep.{PipeStep, same_pipe, taken_from}
use Rattle.spec_pattern.specs.declared.answers.RecvAnswer.{RecvAnswer}
use Rattle.spec_pattern.specs.declared.answers.RecvAnswer.TheVariants as got
use Rattle.spec_pattern.specs.declared.answers.Skip.{Skip}
use Rattle.spec_pattern.specs.Peers.{pattern_kind}
use Rattle.spec_run.specs.Line.{got_answer}
use Rattle.spec_run.specs.declared.answer.Answer.{Answer}
use Rattle.spec_run.specs.Act.{Act, steps_in}
use Rattle.spec_run.specs.Fate.{is_publisher_kind}
use Rattle.spec_run.specs.OpenSocket.{OpenSock}
use Rattle.zq_world.specs.Piece.{Piece, piece_of}
use Rattle.zq_world.specs.Way.{CallsOne}
use Rattle.socket_laws.specs.Given.{given_at, pipes_taken}

module _ {N S : Type 0} where
  -- a receive that gives a message counts it at the pipe that it took a message from last, of the pair that it names; one that is refused counts none
  abbrev pub CountsGiven : RecvAnswer → List PipeStep → (before after : List (Piece N S)) → Type 0
  CountsGiven (got.Got from_ m) steps before after =
      (dropped : List PipeId) × (q : PipeId) × (pipes_taken steps ≡ dropped ++ q ∷ []) × (q.pair ≡ from_)
      × ((p : PipeId) → given_at p after ≡ given_at p before + (if same_pipe p q then 1 else 0))
  CountsGiven (got.Refused refusal) steps before after = (p : PipeId) → given_at p after ≡ given_at p before

pub record CallsAreCounted (N S : Type 0) : Type 0 where
  -- a call that takes nothing from the pipe adds nothing there
  pub none : (p : PipeId) (pieces : List (Piece N S)) (caller : ℕ) (reaps : Bool) (acts : List (Act N S)) (skips : List Skip) →
      taken_from p (steps_in acts) ≡ [] → given_at p (pieces ++ piece_of caller reaps acts skips) ≡ given_at p pieces
  -- a receive of a socket that doesn't publish counts what it answers
  pub receives : (caller place tries : ℕ) (old new : OpenSock) (answer : Answer) (told told_now : List Skip) (before after : List (Piece N S)) →
      (calls : CallsOne caller (call.Recv place tries) old new answer told told_now before after) → is_publisher_kind (pattern_kind old.pattern) ≡ false →
      (a : RecvAnswer) × (answer ≡ got_answer a) × CountsGiven a (steps_in (calls.pump ++ calls.acts)) before after
