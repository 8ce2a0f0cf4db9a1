-- What came of a call of a socket: its steps, its answer, and its state after (zmq_msg_send(3), zmq_msg_recv(3), zmq_setsockopt(3), ZMQ_SUBSCRIBE and ZMQ_UNSUBSCRIBE).
use Rattle.std.specs.Prelude.{Bool, List}
use Rattle.zq_base.specs.Message.{Frames}
use Rattle.spec_pattern.specs.PipeStep.{PipeStep}
use Rattle.spec_pattern.specs.TurnList.{End}
use Rattle.spec_pattern.specs.Topics.{Topic}
use Rattle.spec_pattern.specs.Pattern.{Pattern}
use Rattle.spec_pattern.specs.PatternCalls.{PatternSends, PatternReceives, PatternChanges, PatternPumps, Change, ChangeAnswer}
use Rattle.spec_pattern.specs.declared.answers.Skip.{Skip}
use Rattle.spec_pattern.specs.declared.answers.SendAnswer.{SendAnswer}
use Rattle.spec_pattern.specs.declared.answers.RecvAnswer.{RecvAnswer}

-- what came of a send
pub record SendOutcome : Type 0 where
  pub steps : List PipeStep
  pub answer : SendAnswer
  pub new : Pattern

-- what came of a receive, with the messages that it dropped
pub record RecvOutcome : Type 0 where
  pub steps : List PipeStep
  pub skips : List Skip
  pub answer : RecvAnswer
  pub new : Pattern

-- what came of a subscription or a cancel
pub record ChangeOutcome : Type 0 where
  pub steps : List PipeStep
  pub answer : ChangeAnswer
  pub new : Pattern

-- what came of hearing or telling
pub record PumpOutcome : Type 0 where
  pub steps : List PipeStep
  pub new : Pattern

-- this comes of a send of m
abbrev pub SendsSo : (End → Bool) → Frames → Pattern → SendOutcome → Type 0
SendsSo can_write m old o = PatternSends can_write m old o.steps o.answer o.new

-- this comes of a receive
abbrev pub ReceivesSo : Pattern → RecvOutcome → Type 0
ReceivesSo old o = PatternReceives old o.steps o.skips o.answer o.new

-- this comes of a subscription to the topic, or a cancel
abbrev pub ChangesSo : Change → (End → Bool) → Topic → Pattern → ChangeOutcome → Type 0
ChangesSo change can_write topic old o = PatternChanges change can_write topic old o.steps o.answer o.new

-- this comes of hearing or telling
abbrev pub PumpsSo : (End → Bool) → Pattern → PumpOutcome → Type 0
PumpsSo can_write old o = PatternPumps can_write old o.steps o.new
