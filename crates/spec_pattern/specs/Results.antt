-- What a send and a receive answer by their results (zmq_msg_send(3), zmq_msg_recv(3), "RETURN VALUE" and "ERRORS"). Want of memory is no answer: the call can be made again.
use Rattle.std.specs.Prelude.{Result, Ok, Err}
use Rattle.zq_base.specs.Message.{Frames}
use Rattle.zq_base.specs.declared.ids.PairId.{PairId}
use Rattle.spec_pattern.specs.declared.answers.Sent.{Sent}
use Rattle.spec_pattern.specs.declared.answers.Sent.TheVariants as taken
use Rattle.spec_pattern.specs.declared.answers.SendAnswer.{SendAnswer}
use Rattle.spec_pattern.specs.declared.answers.SendAnswer.TheVariants as sent
use Rattle.spec_pattern.specs.declared.answers.SendFault.{SendFault}
use Rattle.spec_pattern.specs.declared.answers.SendFault.TheVariants as send
use Rattle.spec_pattern.specs.declared.answers.RecvAnswer.{RecvAnswer}
use Rattle.spec_pattern.specs.declared.answers.RecvAnswer.TheVariants as got
use Rattle.spec_pattern.specs.declared.answers.RecvFault.{RecvFault}
use Rattle.spec_pattern.specs.declared.answers.RecvFault.TheVariants as recv

-- the result of a send, and of a receive
abbrev pub SendResult : Type 0
SendResult = Result Sent SendFault

abbrev pub RecvResult : Type 0
RecvResult = Result (PairId × Frames) RecvFault

-- what a send answers that took the message
abbrev pub answer_of : Sent → SendAnswer
answer_of (taken.One pair) = sent.One pair
answer_of (taken.Many report) = sent.Many report
answer_of taken.Subscribed = sent.Subscribed
answer_of (taken.Dropped rule) = sent.Dropped rule

-- of a send: its answer, or what holds where memory was wanting
abbrev pub MatchSend : SendResult → Type 0 → (SendAnswer → Type 0) → Type 0
MatchSend (Ok sent) memory P = P (answer_of sent)
MatchSend (Err (send.Refused refusal back)) memory P = P (sent.Refused refusal)
MatchSend (Err (send.OutOfMemory back)) memory P = memory

-- of the message that a send hands back
abbrev pub IfBack : SendResult → (Frames → Type 0) → Type 0
IfBack (Ok sent) P = Unit {0}
IfBack (Err (send.Refused refusal back)) P = P back
IfBack (Err (send.OutOfMemory back)) P = P back

-- of a receive: its answer, or what holds where memory was wanting
abbrev pub MatchRecv : RecvResult → Type 0 → (RecvAnswer → Type 0) → Type 0
MatchRecv (Ok item) memory P = P (got.Got item.0 item.1)
MatchRecv (Err (recv.Refused refusal)) memory P = P (got.Refused refusal)
MatchRecv (Err recv.OutOfMemory) memory P = memory
