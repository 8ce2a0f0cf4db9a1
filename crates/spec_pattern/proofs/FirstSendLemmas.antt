-- The first refusal of a send in their order is its answer, by the kinds.
use Rattle.std.proofs.Common.{◌≡◌, ◌∙◌, ◌+◌, ◌≤◌, inl, inr, ℕ, List, [], ◌∷◌, ◌++◌, Bool, true, false, Option, Some, None, length, nat_le, if◌then◌else◌, refl, sym, subst, ap, arith}
use Rattle.std.proofs.lemmas.Option.{same_Some, none-some}
use Rattle.zq_base.specs.Message.{Frames, max_committed, IsMessage}
use Rattle.zq_base.specs.declared.kind.Kind.TheVariants as kind
use Rattle.spec_pattern.specs.PipeStep.{PipeStep}
use Rattle.spec_pattern.specs.TurnList.{End}
use Rattle.spec_pattern.specs.Duty.{Duty, Free, Asked, Owing}
use Rattle.spec_pattern.specs.Refusals.{send_refusal}
use Rattle.spec_pattern.specs.Pipeline.{PushSends}
use Rattle.spec_pattern.specs.Call.{KindSends, SendsUnless}
use Rattle.spec_pattern.specs.Routes.{GoesTo, Routes}
use Rattle.spec_pattern.specs.RequestReply.{ReqAsks, ReqFreeSends, ReqSends, RepReplies, RepSends}
use Rattle.spec_pattern.specs.Routing.{named, when_missing, when_full, RouterSends}
use Rattle.spec_pattern.specs.Publishing.{PublishesWhere, Saying, Adds, Cancels, Other, saying_of, many_answer}
use Rattle.spec_pattern.specs.Subscribing.{Subscriber, SubAnswer, Subscribes, Unsubscribes, AsSent, XSubSays, XSubSendsWhere}
use Rattle.spec_pattern.specs.Pattern.{Pattern, Push, Pull, Pair, Dealer, Req, Rep, Router, Pub, XPub, Sub, XSub}
use Rattle.spec_pattern.specs.declared.answers.Rule.TheVariants.{ReplyGone, RouteFull}
use Rattle.spec_pattern.specs.declared.answers.SendRefusal.{SendRefusal}
use Rattle.spec_pattern.specs.declared.answers.SendRefusal.TheVariants as send
use Rattle.spec_pattern.specs.declared.answers.SendAnswer.{SendAnswer}
use Rattle.spec_pattern.specs.declared.answers.SendAnswer.TheVariants as sent
use Rattle.spec_pattern.specs.Outcomes.{SendOutcome, SendsSo}
use Rattle.spec_pattern.specs.FirstRefusals.{first_send_refusal, is_late_send, IsRefusedAtOnce}

-- what the last refusal says of the test that it stands behind
too_large : (fits : Bool) (r : SendRefusal) → (if fits then None else Some send.TooLarge) ≡ Some r → (fits ≡ false) × (r ≡ send.TooLarge)
too_large true r e = absurd (none-some r e)
too_large false r e = (refl, sym (same_Some send.TooLarge r e))

it_fits : (fits : Bool) → (if fits then None else Some send.TooLarge) ≡ None → fits ≡ true
it_fits true e = refl
it_fits false e = absurd (none-some send.TooLarge (sym e))

refused : (r s : SendRefusal) (old : Pattern) (x : SendOutcome) → x.answer ≡ sent.Refused r → x.steps ≡ [] → x.new ≡ old → Some r ≡ Some s → IsRefusedAtOnce s old x
refused r s old x answer none stays e = record { answer = answer ∙ ap sent.Refused (same_Some r s e); no_steps = none; stays = stays }

-- a kind that sends by turn
unless : (first : Option SendRefusal) (r : SendRefusal) (Step : List PipeStep → SendAnswer → List End → Type 0) (turns new : List End) (F : List End → Pattern) (x : SendOutcome)
    → first ≡ Some r → SendsUnless first Step turns x.steps x.answer new → x.new ≡ F new → IsRefusedAtOnce r (F turns) x
unless None r Step turns new F x e g is = absurd (none-some r e)
unless (Some s) r Step turns new F x e g is = refused s r (F turns) x g.0 g.1 (is ∙ ap F g.2) e

req_refused : (w : End → Bool) (m : Frames) (outs new : List End) (old duty : Duty) (r : SendRefusal) (F : List End → Duty → Pattern) (x : SendOutcome)
    → send_refusal kind.Req old m ≡ Some r → ReqSends w m outs old x.steps x.answer new duty → x.new ≡ F new duty → IsRefusedAtOnce r (F outs old) x
req_refused w m outs new Free duty r F x e g is =
    let large = too_large (nat_le (length ([] ∷ m)) max_committed) r e in
    let same : length m + 1 ≡ length ([] ∷ m) = omega arith in
    let no = ap (λ n. nat_le n max_committed) same ∙ large.0 in
    let h = subst (λ b. ReqFreeSends w m b outs x.steps x.answer new duty) no g in
    refused send.TooLarge r (F outs Free) x h.0 h.1 (is ∙ ap (λ t. F t duty) h.2 ∙ ap (F outs) h.3) (ap Some (sym large.1))
req_refused w m outs new (Asked peer) duty r F x e g is = refused send.Fsm r (F outs (Asked peer)) x g.0 g.1 (is ∙ ap (λ t. F t duty) g.2 ∙ ap (F outs) g.3) e
req_refused w m outs new (Owing peer envelope) duty r F x e g is = elim g [ ]

rep_refused : (w : End → Bool) (m : Frames) (old duty : Duty) (r : SendRefusal) (F : Duty → Pattern) (x : SendOutcome)
    → send_refusal kind.Rep old m ≡ Some r → RepSends w m old x.steps x.answer duty → x.new ≡ F duty → IsRefusedAtOnce r (F old) x
rep_refused w m Free duty r F x e g is = refused send.Fsm r (F Free) x g.0 g.1 (is ∙ ap F g.2) e
rep_refused w m (Asked peer) duty r F x e g is = elim g [ ]
rep_refused w m (Owing peer envelope) duty r F x e g is =
    let large = too_large (nat_le (length (envelope ++ m)) max_committed) r e in
    let h = subst (λ b. RepReplies w m peer envelope b x.steps x.answer duty) large.0 g in
    refused send.TooLarge r (F (Owing peer envelope)) x h.0 h.1 (is ∙ ap F h.2) (ap Some (sym large.1))

fits : (a b : ℕ) → a ≤ b → nat_le a b ≡ true
fits a b le = grind arith

router_refused : (mandatory : Bool) (w : End → Bool) (peers : List ℕ → Option End) (m : Frames) (r : SendRefusal) (old : Pattern) (x : SendOutcome) → IsMessage m
    → send_refusal kind.Router Free m ≡ Some r → RouterSends mandatory w peers m x.steps x.answer → x.new ≡ old → IsRefusedAtOnce r old x
router_refused mandatory w peers [] r old x whole e g is = elim g [ ]
router_refused mandatory w peers (name ∷ []) r old x whole e g is = refused send.NoBody r old x g.0 g.1 is e
router_refused mandatory w peers (name ∷ (body ∷ frames)) r old x whole e g is =
    let few : nat_le (length (body ∷ frames)) max_committed ≡ true = fits (length (body ∷ frames)) max_committed (omega arith) in
    absurd (none-some r (sym (ap (λ b. if b then None else Some send.TooLarge) few) ∙ e))

pub first_send : (w : End → Bool) (m : Frames) (old : Pattern) (x : SendOutcome) (r : SendRefusal) → IsMessage m
    → SendsSo w m old x → first_send_refusal old m ≡ Some r → IsRefusedAtOnce r old x
first_send w m (Push outs) x r whole (t, g, is) e = unless (send_refusal kind.Push Free m) r (KindSends kind.Push w m outs) outs t Push x e g is
first_send w m (Pull ins) x r whole (t, g, is) e = unless (send_refusal kind.Pull Free m) r (KindSends kind.Pull w m ins) ins t Pull x e g is
first_send w m (Pair turns) x r whole (t, g, is) e = unless (send_refusal kind.Pair Free m) r (KindSends kind.Pair w m turns.outs) turns.outs t (λ v. Pair (record turns { outs = v })) x e g is
first_send w m (Dealer turns) x r whole (t, g, is) e = unless (send_refusal kind.Dealer Free m) r (KindSends kind.Dealer w m turns.outs) turns.outs t (λ v. Dealer (record turns { outs = v })) x e g is
first_send w m (Req turns duty) x r whole (t, v, g, is) e = req_refused w m turns.outs t duty v r (λ z d. Req (record turns { outs = z }) d) x e g is
first_send w m (Rep ins duty) x r whole (v, g, is) e = rep_refused w m duty v r (Rep ins) x e g is
first_send w m (Router s) x r whole (g, is) e = router_refused s.mandatory w (named s.names) m r (Router s) x whole e g is
first_send w m (Pub p) x r whole (g, is) e =
    let large = too_large (nat_le (length m) max_committed) r e in
    let h = subst (λ b. PublishesWhere b w p.subs m x.steps x.answer) large.0 g in
    refused send.TooLarge r (Pub p) x h.0 h.1 is (ap Some (sym large.1))
first_send w m (XPub p) x r whole (g, is) e =
    let large = too_large (nat_le (length m) max_committed) r e in
    let h = subst (λ b. PublishesWhere b w p.subs m x.steps x.answer) large.0 g in
    refused send.TooLarge r (XPub p) x h.0 h.1 is (ap Some (sym large.1))
first_send w m (Sub s) x r whole g e = refused send.NotSupported r (Sub s) x g.0 g.1 g.2 e
first_send w m (XSub s) x r whole (t, g, is) e =
    let large = too_large (nat_le (length m) max_committed) r e in
    let h = subst (λ b. XSubSendsWhere b w m s x.steps x.answer t) large.0 g in
    refused send.TooLarge r (XSub s) x h.0 h.1 (is ∙ ap XSub h.2) (ap Some (sym large.1))

-- ---- what is refused behind them

again : (r : SendRefusal) → r ≡ send.Again → is_late_send r ≡ true
again r same = ap is_late_send same

same_refusal : (a b : SendRefusal) → sent.Refused a ≡ sent.Refused b → a ≡ b
same_refusal a b same = cc

-- whether an answer is a refusal that is judged late, where it is one
abbrev IsLate : SendAnswer → Type 0
IsLate (sent.One p) = Unit {0}
IsLate (sent.Many report) = Unit {0}
IsLate sent.Subscribed = Unit {0}
IsLate (sent.Dropped rule) = Unit {0}
IsLate (sent.Refused r) = is_late_send r ≡ true

late_push : (w : End → Bool) (m : Frames) (turns : List End) (steps : List PipeStep) (answer : SendAnswer) (new : List End) → PushSends w m turns steps answer new → IsLate answer
late_push w m turns steps (sent.One p) new g = tt
late_push w m turns steps (sent.Many report) new g = tt
late_push w m turns steps sent.Subscribed new g = tt
late_push w m turns steps (sent.Dropped rule) new g = tt
late_push w m turns steps (sent.Refused r) new g = again r g.0

late_ask : (w : End → Bool) (m : Frames) (turns : List End) (steps : List PipeStep) (answer : SendAnswer) (new : List End) (duty : Duty) → ReqAsks w m turns steps answer new duty → IsLate answer
late_ask w m turns steps (sent.One p) new duty g = tt
late_ask w m turns steps (sent.Many report) new duty g = tt
late_ask w m turns steps sent.Subscribed new duty g = tt
late_ask w m turns steps (sent.Dropped rule) new duty g = tt
late_ask w m turns steps (sent.Refused r) new duty g = again r g.0

late_route : (missing full : SendAnswer) → IsLate missing → IsLate full → (w : End → Bool) (m : Frames) (peer : Option End) (steps : List PipeStep) (answer : SendAnswer)
    → Routes missing full w m peer steps answer → IsLate answer
late_route missing full one other w m None steps answer g = subst IsLate (sym g.1) one
late_route missing full one other w m (Some e) steps answer g = at (w e) g
  where
    at : (b : Bool) → GoesTo missing full m e b steps answer → IsLate answer
    at false g = subst IsLate (sym g.1) one
    at true (inl (is, to)) = subst IsLate (sym to) other
    at true (inr (is, to)) = subst IsLate (sym to) tt

late_many : (put full : List End) → IsLate (many_answer put full)
late_many [] [] = tt
late_many [] (e ∷ full) = tt
late_many (e ∷ put) full = tt

late_missing : (mandatory : Bool) → IsLate (when_missing mandatory)
late_missing true = refl
late_missing false = tt

late_full : (mandatory : Bool) → IsLate (when_full mandatory)
late_full true = refl
late_full false = tt

late_as : (P : SubAnswer → Type 0) (answer : SendAnswer) → AsSent P answer → IsLate answer
late_as P answer (inl (done, is)) = subst IsLate (sym is) tt
late_as P answer (inr (inl (limit, is))) = subst IsLate (sym is) refl
late_as P answer (inr (inr (none, is))) = subst IsLate (sym is) tt

late_says : (saying : Saying) (w : End → Bool) (m : Frames) (s new : Subscriber) (steps : List PipeStep) (answer : SendAnswer) → XSubSays saying w m s steps answer new → IsLate answer
late_says (Adds topic) w m s new steps answer g = late_as (λ a. Subscribes w topic s steps a new) answer g
late_says (Cancels topic) w m s new steps answer g = late_as (λ a. Unsubscribes w topic s steps a new) answer g
late_says Other w m s new steps answer g = subst IsLate (sym g.0.answer_is) (late_many g.0.put g.0.full)

late_unless : (first : Option SendRefusal) (Step : List PipeStep → SendAnswer → List End → Type 0) (turns new : List End) (steps : List PipeStep) (answer : SendAnswer)
    → (Step steps answer new → IsLate answer) → first ≡ None → SendsUnless first Step turns steps answer new → IsLate answer
late_unless None Step turns new steps answer on e g = on g
late_unless (Some r) Step turns new steps answer on e g = absurd (none-some r (sym e))

late_req : (w : End → Bool) (m : Frames) (outs new : List End) (old duty : Duty) (steps : List PipeStep) (answer : SendAnswer)
    → send_refusal kind.Req old m ≡ None → ReqSends w m outs old steps answer new duty → IsLate answer
late_req w m outs new Free duty steps answer e g =
    let same : length m + 1 ≡ length ([] ∷ m) = omega arith in
    let yes_fits = ap (λ n. nat_le n max_committed) same ∙ it_fits (nat_le (length ([] ∷ m)) max_committed) e in
    late_ask w m outs steps answer new duty (subst (λ b. ReqFreeSends w m b outs steps answer new duty) yes_fits g)
late_req w m outs new (Asked peer) duty steps answer e g = absurd (none-some send.Fsm (sym e))
late_req w m outs new (Owing peer envelope) duty steps answer e g = elim g [ ]

late_rep : (w : End → Bool) (m : Frames) (old duty : Duty) (steps : List PipeStep) (answer : SendAnswer)
    → send_refusal kind.Rep old m ≡ None → RepSends w m old steps answer duty → IsLate answer
late_rep w m Free duty steps answer e g = absurd (none-some send.Fsm (sym e))
late_rep w m (Asked peer) duty steps answer e g = elim g [ ]
late_rep w m (Owing peer envelope) duty steps answer e g =
    let h = subst (λ b. RepReplies w m peer envelope b steps answer duty) (it_fits (nat_le (length (envelope ++ m)) max_committed) e) g in
    late_route (sent.Dropped ReplyGone) (sent.Dropped RouteFull) tt tt w (envelope ++ m) peer steps answer h.0

late_router : (mandatory : Bool) (w : End → Bool) (peers : List ℕ → Option End) (m : Frames) (steps : List PipeStep) (answer : SendAnswer)
    → send_refusal kind.Router Free m ≡ None → RouterSends mandatory w peers m steps answer → IsLate answer
late_router mandatory w peers [] steps answer e g = elim g [ ]
late_router mandatory w peers (name ∷ []) steps answer e g = absurd (none-some send.NoBody (sym e))
late_router mandatory w peers (name ∷ (body ∷ frames)) steps answer e g =
    late_route (when_missing mandatory) (when_full mandatory) (late_missing mandatory) (late_full mandatory) w (body ∷ frames) (peers name) steps answer g

late_pattern : (w : End → Bool) (m : Frames) (old : Pattern) (x : SendOutcome) → SendsSo w m old x → first_send_refusal old m ≡ None → IsLate x.answer
late_pattern w m (Push outs) x (t, g, is) e = late_unless (send_refusal kind.Push Free m) (KindSends kind.Push w m outs) outs t x.steps x.answer (late_push w m outs x.steps x.answer t) e g
late_pattern w m (Pull ins) x g e = absurd (none-some send.NotSupported (sym e))
late_pattern w m (Pair turns) x (t, g, is) e = late_unless (send_refusal kind.Pair Free m) (KindSends kind.Pair w m turns.outs) turns.outs t x.steps x.answer (late_push w m turns.outs x.steps x.answer t) e g
late_pattern w m (Dealer turns) x (t, g, is) e = late_unless (send_refusal kind.Dealer Free m) (KindSends kind.Dealer w m turns.outs) turns.outs t x.steps x.answer (late_push w m turns.outs x.steps x.answer t) e g
late_pattern w m (Req turns duty) x (t, v, g, is) e = late_req w m turns.outs t duty v x.steps x.answer e g
late_pattern w m (Rep ins duty) x (v, g, is) e = late_rep w m duty v x.steps x.answer e g
late_pattern w m (Router r) x (g, is) e = late_router r.mandatory w (named r.names) m x.steps x.answer e g
late_pattern w m (Pub p) x (g, is) e =
    let h = subst (λ b. PublishesWhere b w p.subs m x.steps x.answer) (it_fits (nat_le (length m) max_committed) e) g in
    subst IsLate (sym h.answer_is) (late_many h.put h.full)
late_pattern w m (XPub p) x (g, is) e =
    let h = subst (λ b. PublishesWhere b w p.subs m x.steps x.answer) (it_fits (nat_le (length m) max_committed) e) g in
    subst IsLate (sym h.answer_is) (late_many h.put h.full)
late_pattern w m (Sub s) x g e = absurd (none-some send.NotSupported (sym e))
late_pattern w m (XSub s) x (t, g, is) e =
    late_says (saying_of m) w m s t x.steps x.answer (subst (λ b. XSubSendsWhere b w m s x.steps x.answer t) (it_fits (nat_le (length m) max_committed) e) g)

pub late_send : (w : End → Bool) (m : Frames) (old : Pattern) (x : SendOutcome) (r : SendRefusal) → SendsSo w m old x → first_send_refusal old m ≡ None → x.answer ≡ sent.Refused r → is_late_send r ≡ true
late_send w m old x r g e is = subst IsLate is (late_pattern w m old x g e)
