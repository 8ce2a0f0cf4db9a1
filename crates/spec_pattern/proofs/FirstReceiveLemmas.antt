-- The first refusal of a receive in their order is its answer, by the kinds.
use Rattle.std.proofs.Common.{◌≡◌, ◌∙◌, ℕ, List, [], ◌∷◌, Bool, true, false, Option, Some, None, nat_le, if◌then◌else◌, refl, sym, subst, ap}
use Rattle.std.proofs.lemmas.Option.{same_Some, none-some}
use Rattle.zq_base.specs.Message.{Frames}
use Rattle.zq_base.specs.declared.kind.Kind.TheVariants as kind
use Rattle.spec_pattern.specs.PipeStep.{PipeStep}
use Rattle.spec_pattern.specs.TurnList.{End}
use Rattle.spec_pattern.specs.Duty.{Duty, Free, Asked, Owing}
use Rattle.spec_pattern.specs.Drops.{Given, EndsReceive, given, again, busy}
use Rattle.spec_pattern.specs.Refusals.{recv_refusal}
use Rattle.spec_pattern.specs.Pipeline.{PullReceives}
use Rattle.spec_pattern.specs.Call.{KindReceives, ReceivesUnless}
use Rattle.spec_pattern.specs.RequestReply.{ReqReceives, RepReceives}
use Rattle.spec_pattern.specs.Routing.{named, RouterReceives}
use Rattle.spec_pattern.specs.Publishing.{Publisher, Notice, most_heard, GivesFirst, XPubReceivesWhere}
use Rattle.spec_pattern.specs.Pattern.{Pattern, Push, Pull, Pair, Dealer, Req, Rep, Router, Pub, XPub, Sub, XSub}
use Rattle.spec_pattern.specs.declared.answers.Skip.{Skip}
use Rattle.spec_pattern.specs.declared.answers.RecvRefusal.{RecvRefusal}
use Rattle.spec_pattern.specs.declared.answers.RecvRefusal.TheVariants as recv
use Rattle.spec_pattern.specs.declared.answers.RecvAnswer.{RecvAnswer}
use Rattle.spec_pattern.specs.declared.answers.RecvAnswer.TheVariants as got
use Rattle.spec_pattern.specs.Outcomes.{RecvOutcome, ReceivesSo}
use Rattle.spec_pattern.specs.FirstRefusals.{first_recv_refusal, is_late_recv, IsNotGivenAtOnce, RefusalsComeFirst}
use Rattle.spec_pattern.proofs.FirstSendLemmas.{first_send, late_send}

not_given : (r s : RecvRefusal) (old : Pattern) (x : RecvOutcome) → x.answer ≡ got.Refused r → x.steps ≡ [] → x.skips ≡ [] → x.new ≡ old → Some r ≡ Some s → IsNotGivenAtOnce s old x
not_given r s old x answer none no_skips stays e = record { answer = answer ∙ ap got.Refused (same_Some r s e); no_steps = none; no_skips = no_skips; stays = stays }

-- a kind that receives by turn
unless : (first : Option RecvRefusal) (r : RecvRefusal) (Step : List PipeStep → RecvAnswer → List End → Type 0) (turns new : List End) (F : List End → Pattern) (x : RecvOutcome)
    → first ≡ Some r → x.skips ≡ [] → ReceivesUnless first Step turns x.steps x.answer new → x.new ≡ F new → IsNotGivenAtOnce r (F turns) x
unless None r Step turns new F x e skips g is = absurd (none-some r e)
unless (Some s) r Step turns new F x e skips g is = not_given s r (F turns) x g.0 g.1 skips (is ∙ ap F g.2) e

req_not_given : (ins new : List End) (old duty : Duty) (r : RecvRefusal) (F : List End → Duty → Pattern) (x : RecvOutcome)
    → recv_refusal kind.Req old ≡ Some r → ReqReceives ins old x.steps x.skips x.answer new duty → x.new ≡ F new duty → IsNotGivenAtOnce r (F ins old) x
req_not_given ins new Free duty r F x e g is = not_given recv.Fsm r (F ins Free) x g.0 g.1 g.2 (is ∙ ap (λ t. F t duty) g.3 ∙ ap (F ins) g.4) e
req_not_given ins new (Asked peer) duty r F x e g is = absurd (none-some r e)
req_not_given ins new (Owing peer envelope) duty r F x e g is = elim g [ ]

rep_not_given : (ins new : List End) (old duty : Duty) (r : RecvRefusal) (F : List End → Duty → Pattern) (x : RecvOutcome)
    → recv_refusal kind.Rep old ≡ Some r → RepReceives ins old x.steps x.skips x.answer new duty → x.new ≡ F new duty → IsNotGivenAtOnce r (F ins old) x
rep_not_given ins new Free duty r F x e g is = absurd (none-some r e)
rep_not_given ins new (Asked peer) duty r F x e g is = elim g [ ]
rep_not_given ins new (Owing peer envelope) duty r F x e g is =
    not_given recv.Fsm r (F ins (Owing peer envelope)) x g.0 g.1 g.2 (is ∙ ap (λ t. F t duty) g.3 ∙ ap (F ins) g.4) e

first_receive : (old : Pattern) (x : RecvOutcome) (r : RecvRefusal) → ReceivesSo old x → first_recv_refusal old ≡ Some r → IsNotGivenAtOnce r old x
first_receive (Push outs) x r (n, (t, g, is)) e = unless (recv_refusal kind.Push Free) r (KindReceives kind.Push outs) outs t Push x e n g is
first_receive (Pull ins) x r (n, (t, g, is)) e = unless (recv_refusal kind.Pull Free) r (KindReceives kind.Pull ins) ins t Pull x e n g is
first_receive (Pair turns) x r (n, (t, g, is)) e = unless (recv_refusal kind.Pair Free) r (KindReceives kind.Pair turns.ins) turns.ins t (λ v. Pair (record turns { ins = v })) x e n g is
first_receive (Dealer turns) x r (n, (t, g, is)) e = unless (recv_refusal kind.Dealer Free) r (KindReceives kind.Dealer turns.ins) turns.ins t (λ v. Dealer (record turns { ins = v })) x e n g is
first_receive (Req turns duty) x r (t, v, g, is) e = req_not_given turns.ins t duty v r (λ z d. Req (record turns { ins = z }) d) x e g is
first_receive (Rep ins duty) x r (t, v, g, is) e = rep_not_given ins t duty v r Rep x e g is
first_receive (Router s) x r g e = absurd (none-some r e)
first_receive (Pub p) x r (n, g) e = not_given recv.NotSupported r (Pub p) x g.0 g.1 n g.2 e
first_receive (XPub p) x r g e = absurd (none-some r e)
first_receive (Sub s) x r g e = absurd (none-some r e)
first_receive (XSub s) x r g e = absurd (none-some r e)

-- ---- what is refused behind them

-- whether an answer is a refusal that is judged late, where it is one
abbrev IsLate : RecvAnswer → Type 0
IsLate (got.Got p m) = Unit {0}
IsLate (got.Refused r) = is_late_recv r ≡ true

late_pull : (turns : List End) (steps : List PipeStep) (answer : RecvAnswer) (new : List End) → PullReceives turns steps answer new → IsLate answer
late_pull turns steps (got.Got p m) new g = tt
late_pull turns steps (got.Refused r) new g = ap is_late_recv g.0

late_router : (peers : List ℕ → Option End) (ins : List End) (steps : List PipeStep) (answer : RecvAnswer) (new : List End) → RouterReceives peers ins steps answer new → IsLate answer
late_router peers ins steps (got.Got p m) new g = tt
late_router peers ins steps (got.Refused r) new g = ap is_late_recv g.0

late_end : (gives : End → Frames → Option Given) (count : ℕ) (turns : List End) (steps : List PipeStep) (answer : RecvAnswer) (new : List End) (old duty : Duty)
    → EndsReceive gives count turns steps answer new old duty → IsLate answer
late_end gives count turns steps answer new old duty (given less one) = subst IsLate (sym one.answer_is) tt
late_end gives count turns steps answer new old duty (again less none same) = subst IsLate (sym none.1) refl
late_end gives count turns steps answer new old duty (busy all no_steps refused same_turns same) = subst IsLate (sym refused) refl

late_unless : (first : Option RecvRefusal) (Step : List PipeStep → RecvAnswer → List End → Type 0) (turns new : List End) (steps : List PipeStep) (answer : RecvAnswer)
    → (Step steps answer new → IsLate answer) → first ≡ None → ReceivesUnless first Step turns steps answer new → IsLate answer
late_unless None Step turns new steps answer on e g = on g
late_unless (Some r) Step turns new steps answer on e g = absurd (none-some r (sym e))

late_req : (ins new : List End) (old duty : Duty) (steps : List PipeStep) (skips : List Skip) (answer : RecvAnswer)
    → recv_refusal kind.Req old ≡ None → ReqReceives ins old steps skips answer new duty → IsLate answer
late_req ins new Free duty steps skips answer e g = absurd (none-some recv.Fsm (sym e))
late_req ins new (Asked peer) duty steps skips answer e g = late_end _ _ g.mid g.last answer new (Asked peer) duty g.ends
late_req ins new (Owing peer envelope) duty steps skips answer e g = elim g [ ]

late_rep : (ins new : List End) (old duty : Duty) (steps : List PipeStep) (skips : List Skip) (answer : RecvAnswer)
    → recv_refusal kind.Rep old ≡ None → RepReceives ins old steps skips answer new duty → IsLate answer
late_rep ins new Free duty steps skips answer e g = late_end _ _ g.mid g.last answer new Free duty g.ends
late_rep ins new (Asked peer) duty steps skips answer e g = elim g [ ]
late_rep ins new (Owing peer envelope) duty steps skips answer e g = absurd (none-some recv.Fsm (sym e))

late_gives : (count : ℕ) (p : Publisher) (ns : List Notice) (answer : RecvAnswer) (new : Publisher) → GivesFirst count p ns answer new → IsLate answer
late_gives count p [] answer new g = subst IsLate (sym g.0) (by (nat_le most_heard count))
  where
    by : (b : Bool) → is_late_recv (if b then recv.Busy else recv.Again) ≡ true
    by true = refl
    by false = refl
late_gives count p (n ∷ ns) answer new g = subst IsLate (sym g.0) tt

late_notice : (ns : List Notice) (p : Publisher) (steps : List PipeStep) (answer : RecvAnswer) (new : Publisher) → XPubReceivesWhere ns p steps answer new → IsLate answer
late_notice [] p steps answer new (rounds, mid, hears, gives) = late_gives _ mid mid.inbox answer new gives
late_notice (n ∷ ns) p steps answer new g = late_gives 0 p (n ∷ ns) answer new g.1

late_pattern : (old : Pattern) (x : RecvOutcome) → ReceivesSo old x → first_recv_refusal old ≡ None → IsLate x.answer
late_pattern (Push outs) x g e = absurd (none-some recv.NotSupported (sym e))
late_pattern (Pull ins) x (n, (t, g, is)) e = late_unless (recv_refusal kind.Pull Free) (KindReceives kind.Pull ins) ins t x.steps x.answer (late_pull ins x.steps x.answer t) e g
late_pattern (Pair turns) x (n, (t, g, is)) e = late_unless (recv_refusal kind.Pair Free) (KindReceives kind.Pair turns.ins) turns.ins t x.steps x.answer (late_pull turns.ins x.steps x.answer t) e g
late_pattern (Dealer turns) x (n, (t, g, is)) e = late_unless (recv_refusal kind.Dealer Free) (KindReceives kind.Dealer turns.ins) turns.ins t x.steps x.answer (late_pull turns.ins x.steps x.answer t) e g
late_pattern (Req turns duty) x (t, v, g, is) e = late_req turns.ins t duty v x.steps x.skips x.answer e g
late_pattern (Rep ins duty) x (t, v, g, is) e = late_rep ins t duty v x.steps x.skips x.answer e g
late_pattern (Router r) x (n, (t, g, is)) e = late_router (named r.names) r.ins x.steps x.answer t g
late_pattern (Pub p) x g e = absurd (none-some recv.NotSupported (sym e))
late_pattern (XPub p) x (n, (q, g, is)) e = late_notice p.inbox p x.steps x.answer q g
late_pattern (Sub s) x (t, g, is) e = late_end _ _ g.1.mid g.1.last x.answer g.0 Free Free g.1.ends
late_pattern (XSub s) x (n, (t, g, is)) e = late_pull s.ins x.steps x.answer g.0 g.1

late_receive : (old : Pattern) (x : RecvOutcome) (r : RecvRefusal) → ReceivesSo old x → first_recv_refusal old ≡ None → x.answer ≡ got.Refused r → is_late_recv r ≡ true
late_receive old x r g e is = subst IsLate is (late_pattern old x g e)

pub come_first : RefusalsComeFirst
come_first = record { send = first_send; late_send = late_send; receive = first_receive; late_receive = late_receive }
