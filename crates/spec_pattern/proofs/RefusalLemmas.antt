-- The first refusal in their order is the answer.
use Rattle.std.proofs.Common.{◌≡◌, ℕ, List, [], ◌∷◌, Option, Some, None, sym, ap, subst, ◌∙◌, ◌+◌, ◌≤◌, arith}
use Rattle.std.specs.Prelude.{Bool, true, false, ◌++◌, length, nat_le, if◌then◌else◌}
use Rattle.zq_base.specs.Message.{Frames, max_committed, IsMessage}
use Rattle.zq_base.specs.declared.kind.Kind.TheVariants.{Req, Rep, Router}
use Rattle.spec_pattern.specs.Duty.{Duty, Free, Asked, Owing}
use Rattle.spec_pattern.specs.PipeStep.{PipeStep}
use Rattle.spec_pattern.specs.TurnList.{End}
use Rattle.spec_pattern.specs.Refusals.{send_refusal, recv_refusal}
use Rattle.spec_pattern.specs.RefusalOrder.{IsRefusedSend, IsRefusedRecv, RefusalsComeInOrder}
use Rattle.spec_pattern.specs.RequestReply.{ReqSends, ReqFreeSends, ReqReceives, RepSends, RepReplies, RepReceives}
use Rattle.spec_pattern.specs.Routing.{RouterSends}
use Rattle.spec_pattern.specs.declared.answers.Skip.{Skip}
use Rattle.spec_pattern.specs.declared.answers.SendRefusal.{SendRefusal}
use Rattle.spec_pattern.specs.declared.answers.SendRefusal.TheVariants as send
use Rattle.spec_pattern.specs.declared.answers.RecvRefusal.{RecvRefusal}
use Rattle.spec_pattern.specs.declared.answers.RecvRefusal.TheVariants as recv
use Rattle.spec_pattern.specs.declared.answers.SendAnswer.{SendAnswer}
use Rattle.spec_pattern.specs.declared.answers.SendAnswer.TheVariants as sent
use Rattle.spec_pattern.specs.declared.answers.RecvAnswer.{RecvAnswer}
use Rattle.spec_pattern.specs.declared.answers.RecvAnswer.TheVariants as got

none_some : {X : Type 0} → (r : X) → ◌≡◌ {A = Option X} None (Some r) → ⊥
none_some r same = cc

is_refused : (answer : SendAnswer) (r s : SendRefusal) (steps : List PipeStep) → answer ≡ sent.Refused r → steps ≡ [] → Some r ≡ Some s → IsRefusedSend s steps answer
is_refused answer r s steps is none same = (cc, none)

is_not_given : (answer : RecvAnswer) (r s : RecvRefusal) (steps : List PipeStep) → answer ≡ got.Refused r → steps ≡ [] → Some r ≡ Some s → IsRefusedRecv s steps answer
is_not_given answer r s steps is none same = (cc, none)

req_free : (b : Bool) (can_write : End → Bool) (m : Frames) (outs new : List End) (duty : Duty) (steps : List PipeStep) (answer : SendAnswer) (r : SendRefusal)
    → ReqFreeSends can_write m b outs steps answer new duty → (if b then None else Some send.TooLarge) ≡ Some r → IsRefusedSend r steps answer
req_free true can_write m outs new duty steps answer r h e = absurd (none_some r e)
req_free false can_write m outs new duty steps answer r h e = is_refused answer send.TooLarge r steps h.0 h.1 e

req : (can_write : End → Bool) (m : Frames) (outs new : List End) (old duty : Duty) (steps : List PipeStep) (answer : SendAnswer) (r : SendRefusal)
    → ReqSends can_write m outs old steps answer new duty → send_refusal Req old m ≡ Some r → IsRefusedSend r steps answer
req can_write m outs new Free duty steps answer r h e =
    let same : length m + 1 ≡ length ([] ∷ m) = omega arith in
    let sends : ReqFreeSends can_write m (nat_le (length ([] ∷ m)) max_committed) outs steps answer new duty = subst (λ n. ReqFreeSends can_write m (nat_le n max_committed) outs steps answer new duty) same h in
    req_free (nat_le (length ([] ∷ m)) max_committed) can_write m outs new duty steps answer r sends e
req can_write m outs new (Asked peer) duty steps answer r h e = is_refused answer send.Fsm r steps h.0 h.1 e
req can_write m outs new (Owing peer envelope) duty steps answer r h e = absurd h

rep_owing : (b : Bool) (can_write : End → Bool) (m : Frames) (peer : Option End) (envelope : Frames) (duty : Duty) (steps : List PipeStep) (answer : SendAnswer) (r : SendRefusal)
    → RepReplies can_write m peer envelope b steps answer duty → (if b then None else Some send.TooLarge) ≡ Some r → IsRefusedSend r steps answer
rep_owing true can_write m peer envelope duty steps answer r h e = absurd (none_some r e)
rep_owing false can_write m peer envelope duty steps answer r h e = is_refused answer send.TooLarge r steps h.0 h.1 e

rep : (can_write : End → Bool) (m : Frames) (old duty : Duty) (steps : List PipeStep) (answer : SendAnswer) (r : SendRefusal)
    → RepSends can_write m old steps answer duty → send_refusal Rep old m ≡ Some r → IsRefusedSend r steps answer
rep can_write m Free duty steps answer r h e = is_refused answer send.Fsm r steps h.0 h.1 e
rep can_write m (Asked peer) duty steps answer r h e = absurd h
rep can_write m (Owing peer envelope) duty steps answer r h e = rep_owing (nat_le (length (envelope ++ m)) max_committed) can_write m peer envelope duty steps answer r h e

leb : (a b : ℕ) → a ≤ b → nat_le a b ≡ true
leb a b le = grind arith

router : (mandatory : Bool) (can_write : End → Bool) (named : List ℕ → Option End) (m : Frames) (steps : List PipeStep) (answer : SendAnswer) (r : SendRefusal)
    → IsMessage m → RouterSends mandatory can_write named m steps answer → send_refusal Router Free m ≡ Some r → IsRefusedSend r steps answer
router mandatory can_write named [] steps answer r whole h e = absurd h
router mandatory can_write named (name ∷ []) steps answer r whole h e = is_refused answer send.NoBody r steps h.0 h.1 e
router mandatory can_write named (name ∷ (body ∷ frames)) steps answer r whole h e =
    let few : nat_le (length (body ∷ frames)) max_committed ≡ true = leb (length (body ∷ frames)) max_committed (omega arith) in
    absurd (none_some r (sym (ap (λ b. if b then None else Some send.TooLarge) few) ∙ e))

req_receives : (ins new : List End) (old duty : Duty) (steps : List PipeStep) (skips : List Skip) (answer : RecvAnswer) (r : RecvRefusal)
    → ReqReceives ins old steps skips answer new duty → recv_refusal Req old ≡ Some r → IsRefusedRecv r steps answer
req_receives ins new Free duty steps skips answer r h e = is_not_given answer recv.Fsm r steps h.0 h.1 e
req_receives ins new (Asked peer) duty steps skips answer r h e = absurd (none_some r e)
req_receives ins new (Owing peer envelope) duty steps skips answer r h e = absurd h

rep_receives : (ins new : List End) (old duty : Duty) (steps : List PipeStep) (skips : List Skip) (answer : RecvAnswer) (r : RecvRefusal)
    → RepReceives ins old steps skips answer new duty → recv_refusal Rep old ≡ Some r → IsRefusedRecv r steps answer
rep_receives ins new Free duty steps skips answer r h e = absurd (none_some r e)
rep_receives ins new (Asked peer) duty steps skips answer r h e = absurd h
rep_receives ins new (Owing peer envelope) duty steps skips answer r h e = is_not_given answer recv.Fsm r steps h.0 h.1 e

pub come_in_order : RefusalsComeInOrder
come_in_order = record { req = req; rep = rep; router = router; req_receives = req_receives; rep_receives = rep_receives }
