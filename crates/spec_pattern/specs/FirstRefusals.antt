-- The order of the refusals, over all kinds (zmq_msg_send(3), zmq_msg_recv(3): ENOTSUP, EFSM, EAGAIN; the order is an own choice).
use Rattle.std.specs.Prelude.{◌≡◌, Bool, true, false, [], Option, Some, None}
use Rattle.zq_base.specs.Message.{Frames, IsMessage}
use Rattle.spec_pattern.specs.TurnList.{End}
use Rattle.spec_pattern.specs.Refusals.{send_refusal, recv_refusal}
use Rattle.spec_pattern.specs.Pattern.{Pattern}
use Rattle.spec_pattern.specs.declared.answers.SendRefusal.{SendRefusal}
use Rattle.spec_pattern.specs.declared.answers.SendRefusal.TheVariants as send
use Rattle.spec_pattern.specs.declared.answers.RecvRefusal.{RecvRefusal}
use Rattle.spec_pattern.specs.declared.answers.RecvRefusal.TheVariants as recv
use Rattle.spec_pattern.specs.declared.answers.SendAnswer.TheVariants as sent
use Rattle.spec_pattern.specs.declared.answers.RecvAnswer.TheVariants as got
use Rattle.spec_pattern.specs.Peers.{pattern_kind, pattern_duty}
use Rattle.spec_pattern.specs.Outcomes.{SendOutcome, RecvOutcome, SendsSo, ReceivesSo}

-- the first refusal that a send of m meets, and a receive, before any look
abbrev pub first_send_refusal : Pattern → Frames → Option SendRefusal
first_send_refusal old m = send_refusal (pattern_kind old) (pattern_duty old) m

abbrev pub first_recv_refusal : Pattern → Option RecvRefusal
first_recv_refusal old = recv_refusal (pattern_kind old) (pattern_duty old)

-- whether a refusal of a send is judged by the peers, behind those that need no look
abbrev pub is_late_send : SendRefusal → Bool
is_late_send send.Term = false
is_late_send send.NotSupported = false
is_late_send send.Fsm = false
is_late_send send.NoBody = false
is_late_send send.TooLarge = false
is_late_send send.SubLimit = true
is_late_send send.Unreachable = true
is_late_send send.Again = true

abbrev pub is_late_recv : RecvRefusal → Bool
is_late_recv recv.Term = false
is_late_recv recv.NotSupported = false
is_late_recv recv.Fsm = false
is_late_recv recv.Again = true
is_late_recv recv.Busy = true

-- a send is refused so, without a step, and leaves all as before
pub record IsRefusedAtOnce (refusal : SendRefusal) (old : Pattern) (x : SendOutcome) : Type 0 where
  pub answer : x.answer ≡ sent.Refused refusal
  pub no_steps : x.steps ≡ []
  pub stays : x.new ≡ old

-- a receive is refused so, without a step, and leaves all as before
pub record IsNotGivenAtOnce (refusal : RecvRefusal) (old : Pattern) (x : RecvOutcome) : Type 0 where
  pub answer : x.answer ≡ got.Refused refusal
  pub no_steps : x.steps ≡ []
  pub no_skips : x.skips ≡ []
  pub stays : x.new ≡ old

-- where a refusal comes first it is the answer, and what else is answered by a refusal is judged by the peers, where none comes first
pub record RefusalsComeFirst : Type 0 where
  pub send : (can_write : End → Bool) (m : Frames) (old : Pattern) (x : SendOutcome)
      (refusal : SendRefusal) → IsMessage m
      → SendsSo can_write m old x → first_send_refusal old m ≡ Some refusal
      → IsRefusedAtOnce refusal old x
  pub late_send : (can_write : End → Bool) (m : Frames) (old : Pattern) (x : SendOutcome)
      (refusal : SendRefusal)
      → SendsSo can_write m old x → first_send_refusal old m ≡ None
      → x.answer ≡ sent.Refused refusal → is_late_send refusal ≡ true
  pub receive : (old : Pattern) (x : RecvOutcome) (refusal : RecvRefusal) → ReceivesSo old x
      → first_recv_refusal old ≡ Some refusal → IsNotGivenAtOnce refusal old x
  pub late_receive : (old : Pattern) (x : RecvOutcome) (refusal : RecvRefusal)
      → ReceivesSo old x → first_recv_refusal old ≡ None → x.answer ≡ got.Refused refusal
      → is_late_recv refusal ≡ true
