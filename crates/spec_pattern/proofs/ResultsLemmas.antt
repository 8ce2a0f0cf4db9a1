-- What follows from each answer follows from the result.
use Rattle.std.specs.Prelude.{Ok, Err}
use Rattle.spec_pattern.specs.Results.{SendResult, RecvResult, MatchSend, MatchRecv, answer_of}
use Rattle.spec_pattern.specs.declared.answers.SendAnswer.{SendAnswer}
use Rattle.spec_pattern.specs.declared.answers.SendAnswer.TheVariants as sent
use Rattle.spec_pattern.specs.declared.answers.SendFault.TheVariants as send
use Rattle.spec_pattern.specs.declared.answers.RecvAnswer.{RecvAnswer}
use Rattle.spec_pattern.specs.declared.answers.RecvAnswer.TheVariants as got
use Rattle.spec_pattern.specs.declared.answers.RecvFault.TheVariants as recv

module _ (memory : Type 0) where
  pub MatchSend-as : (P Q : SendAnswer → Type 0) (result : SendResult) → ((answer : SendAnswer) → P answer → Q answer)
      → MatchSend result memory P → MatchSend result memory Q
  MatchSend-as P Q (Ok sent) each h = each (answer_of sent) h
  MatchSend-as P Q (Err (send.Refused refusal back)) each h = each (sent.Refused refusal) h
  MatchSend-as P Q (Err (send.OutOfMemory back)) each h = h

  pub MatchRecv-as : (P Q : RecvAnswer → Type 0) (result : RecvResult) → ((answer : RecvAnswer) → P answer → Q answer)
      → MatchRecv result memory P → MatchRecv result memory Q
  MatchRecv-as P Q (Ok item) each h = each (got.Got item.0 item.1) h
  MatchRecv-as P Q (Err (recv.Refused refusal)) each h = each (got.Refused refusal) h
  MatchRecv-as P Q (Err recv.OutOfMemory) each h = h
