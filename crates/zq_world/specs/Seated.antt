-- What a socket line made, as its actor has it and as the line is answered (own choice).
use Rattle.spec_control.specs.declared.request.Reply.TheVariants as reply
use Rattle.spec_run.specs.declared.answer.Answer.TheVariants as answer
use Rattle.spec_run.specs.declared.answer.Answer.{Answer}
use Rattle.spec_run.specs.ControlAnswer.{reply_answer}
use Rattle.zq_world.specs.declared.made.Made.{Made}
use Rattle.zq_world.specs.declared.made.Made.TheVariants as made
use Rattle.zq_world.specs.declared.seats.Seat.{Seat}
use Rattle.zq_world.specs.declared.seats.Seat.TheVariants as seat

module _ {O : Type 0} where
  -- its seat
  abbrev pub seat_made : Made O → Seat O
  seat_made (made.Socket object socket) = seat.Open object socket
  seat_made (made.Refused refusal) = seat.Refused

  -- its answer
  abbrev pub answer_made : Made O → Answer
  answer_made (made.Socket object socket) = answer.Object object
  answer_made (made.Refused refusal) = reply_answer (reply.Refused refusal)
