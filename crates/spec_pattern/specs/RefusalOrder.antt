-- The order of the refusals, over the kinds that ask, answer and name their peers (RFC 28).
use Rattle.std.specs.Prelude.{◌≡◌, ℕ, Bool, List, [], Option, Some}
use Rattle.zq_base.specs.Message.{Frames, IsMessage}
use Rattle.zq_base.specs.declared.kind.Kind.TheVariants.{Req, Rep, Router}
use Rattle.spec_pattern.specs.Duty.{Duty, Free}
use Rattle.spec_pattern.specs.PipeStep.{PipeStep}
use Rattle.spec_pattern.specs.TurnList.{End}
use Rattle.spec_pattern.specs.Refusals.{send_refusal, recv_refusal}
use Rattle.spec_pattern.specs.RequestReply.{ReqSends, ReqReceives, RepSends, RepReceives}
use Rattle.spec_pattern.specs.Routing.{RouterSends}
use Rattle.spec_pattern.specs.declared.answers.Skip.{Skip}
use Rattle.spec_pattern.specs.declared.answers.SendRefusal.{SendRefusal}
use Rattle.spec_pattern.specs.declared.answers.RecvRefusal.{RecvRefusal}
use Rattle.spec_pattern.specs.declared.answers.SendAnswer.{SendAnswer}
use Rattle.spec_pattern.specs.declared.answers.SendAnswer.TheVariants as sent
use Rattle.spec_pattern.specs.declared.answers.RecvAnswer.{RecvAnswer}
use Rattle.spec_pattern.specs.declared.answers.RecvAnswer.TheVariants as got

-- a send is refused so, without a look
abbrev pub IsRefusedSend : SendRefusal → List PipeStep → SendAnswer → Type 0
IsRefusedSend refusal steps answer = (answer ≡ sent.Refused refusal) × (steps ≡ [])

-- a receive is refused so, without a look
abbrev pub IsRefusedRecv : RecvRefusal → List PipeStep → RecvAnswer → Type 0
IsRefusedRecv refusal steps answer = (answer ≡ got.Refused refusal) × (steps ≡ [])

-- where a refusal comes first, it is the answer, and no pipe is looked at
pub record RefusalsComeInOrder : Type 0 where
  pub req : (can_write : End → Bool) (m : Frames) (outs new : List End) (old duty : Duty) (steps : List PipeStep) (answer : SendAnswer) (refusal : SendRefusal)
      → ReqSends can_write m outs old steps answer new duty → send_refusal Req old m ≡ Some refusal → IsRefusedSend refusal steps answer
  pub rep : (can_write : End → Bool) (m : Frames) (old duty : Duty) (steps : List PipeStep) (answer : SendAnswer) (refusal : SendRefusal)
      → RepSends can_write m old steps answer duty → send_refusal Rep old m ≡ Some refusal → IsRefusedSend refusal steps answer
  pub router : (mandatory : Bool) (can_write : End → Bool) (named : List ℕ → Option End) (m : Frames) (steps : List PipeStep) (answer : SendAnswer) (refusal : SendRefusal)
      → IsMessage m → RouterSends mandatory can_write named m steps answer → send_refusal Router Free m ≡ Some refusal → IsRefusedSend refusal steps answer
  pub req_receives : (ins new : List End) (old duty : Duty) (steps : List PipeStep) (skips : List Skip) (answer : RecvAnswer) (refusal : RecvRefusal)
      → ReqReceives ins old steps skips answer new duty → recv_refusal Req old ≡ Some refusal → IsRefusedRecv refusal steps answer
  pub rep_receives : (ins new : List End) (old duty : Duty) (steps : List PipeStep) (skips : List Skip) (answer : RecvAnswer) (refusal : RecvRefusal)
      → RepReceives ins old steps skips answer new duty → recv_refusal Rep old ≡ Some refusal → IsRefusedRecv refusal steps answer
