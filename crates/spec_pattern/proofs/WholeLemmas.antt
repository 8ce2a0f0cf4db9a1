-- A socket stays whole, by the kinds.
use Rattle.std.proofs.Common.{◌≡◌, ◌≢◌, ◌+◌, ℕ, List, ◌++◌, Bool, true, false, Option, Some, None, All, length, nat_le, map, refl, sym, subst, ap}
use Rattle.std.proofs.lemmas.Option.{same_Some, none-some}
use Rattle.std.specs.Option.{option_map}
use Rattle.std.proofs.lemmas.List.Sorted.{All-permutation}
use Rattle.zq_base.specs.Message.{Frames, max_committed}
use Rattle.spec_pattern.specs.PipeStep.{PipeStep}
use Rattle.spec_pattern.specs.TurnList.{End}
use Rattle.spec_pattern.specs.Duty.{Duty, Free, Asked, Owing, is_asked, is_owing}
use Rattle.spec_pattern.specs.Drops.{Given}
use Rattle.spec_pattern.specs.Envelope.{split_envelope}
use Rattle.spec_pattern.specs.RequestReply.{ReqAsks, ReqFreeSends, ReqSends, ReqReceives, RepReceives, RepReplies, RepSends, reply_of, request_of}
use Rattle.spec_pattern.specs.Routing.{named}
use Rattle.spec_pattern.specs.Pattern.{Pattern, Push, Pull, Pair, Dealer, Req, Rep, Router, Pub, XPub, Sub, XSub, attach, detach, duty_without, attach_as, pair_answer}
use Rattle.spec_pattern.specs.PatternCalls.{Change}
use Rattle.zq_base.specs.declared.attached.Attached.{Attached}
use Rattle.zq_base.specs.declared.attached.Attached.TheVariants.{Yes, BadId, Second}
use Rattle.spec_pattern.specs.declared.answers.Rule.TheVariants.{Stray, BadEnv}
use Rattle.spec_pattern.specs.declared.answers.Skip.{Skip}
use Rattle.spec_pattern.specs.declared.answers.SendAnswer.{SendAnswer}
use Rattle.spec_pattern.specs.declared.answers.SendAnswer.TheVariants as sent
use Rattle.spec_pattern.specs.declared.answers.RecvAnswer.{RecvAnswer}
use Rattle.spec_pattern.specs.Peers.{peer_names, named_peer}
use Rattle.spec_pattern.specs.Outcomes.{SendOutcome, RecvOutcome, ChangeOutcome, PumpOutcome, SendsSo, ReceivesSo, ChangesSo, PumpsSo}
use Rattle.spec_pattern.specs.Whole.{IsOwnIdentity, IsWhole, MayDraw, SocketsStayWhole}
use Rattle.spec_pattern.proofs.KeepLemmas.{IsDutyAfter, as_before, from_peer, dropping_turned}
use Rattle.spec_pattern.proofs.KeepCallLemmas.{reply_frees, router_turned}
use Rattle.spec_pattern.proofs.WholeNamesLemmas.{router_comes, router_goes}

-- what is under way at a REQ, and at a REP
abbrev Asks : Duty → Type 0
Asks duty = is_owing duty ≡ false

abbrev Answers : Duty → Type 0
Answers duty = is_asked duty ≡ false

same_as : (P : Duty → Type 0) (old duty : Duty) → duty ≡ old → P old → P duty
same_as P old duty same holds = subst P (sym same) holds

-- ---- REQ

asks_on : (w : End → Bool) (m : Frames) (outs : List End) (steps : List PipeStep) (answer : SendAnswer) (new : List End) (duty : Duty) → ReqAsks w m outs steps answer new duty → Asks duty
asks_on w m outs steps (sent.One to) new duty g = same_as Asks (Asked (Some g.goes.peer)) duty g.duty_is refl
asks_on w m outs steps (sent.Refused r) new duty (again, none, free) = same_as Asks Free duty free refl
asks_on w m outs steps _ new duty g = elim g [ ]

free_on : (fits : Bool) (w : End → Bool) (m : Frames) (outs : List End) (steps : List PipeStep) (answer : SendAnswer) (new : List End) (duty : Duty) → ReqFreeSends w m fits outs steps answer new duty → Asks duty
free_on true w m outs steps answer new duty g = asks_on w m outs steps answer new duty g
free_on false w m outs steps answer new duty g = same_as Asks Free duty g.3 refl

req_sends : (w : End → Bool) (m : Frames) (outs : List End) (old : Duty) (steps : List PipeStep) (answer : SendAnswer) (new : List End) (duty : Duty) → ReqSends w m outs old steps answer new duty → Asks duty
req_sends w m outs Free steps answer new duty g = free_on (nat_le (length m + 1) max_committed) w m outs steps answer new duty g
req_sends w m outs (Asked peer) steps answer new duty g = same_as Asks (Asked peer) duty g.3 refl
req_sends w m outs (Owing peer envelope) steps answer new duty g = elim g [ ]

reply_on : (peer : Option End) (ins : List End) (old duty : Duty) → Asks old → IsDutyAfter (reply_of peer) ins old duty → Asks duty
reply_on peer ins old duty was (as_before same) = same_as Asks old duty same was
reply_on peer ins old duty was (from_peer p m body there is) = same_as Asks Free duty (reply_frees peer p m (record { message = body; duty = duty }) is) refl

req_receives : (ins : List End) (old : Duty) (steps : List PipeStep) (skips : List Skip) (answer : RecvAnswer) (new : List End) (duty : Duty) → ReqReceives ins old steps skips answer new duty → Asks duty
req_receives ins Free steps skips answer new duty g = same_as Asks Free duty g.4 refl
req_receives ins (Asked peer) steps skips answer new duty g = reply_on peer ins (Asked peer) duty refl (dropping_turned (reply_of peer) Stray ins steps skips answer new (Asked peer) duty g).duty_is
req_receives ins (Owing peer envelope) steps skips answer new duty g = elim g [ ]

-- ---- REP

replies_on : (fits : Bool) (w : End → Bool) (m : Frames) (peer : Option End) (envelope : Frames) (steps : List PipeStep) (answer : SendAnswer) (duty : Duty) → RepReplies w m peer envelope fits steps answer duty → Answers duty
replies_on true w m peer envelope steps answer duty g = same_as Answers Free duty g.1 refl
replies_on false w m peer envelope steps answer duty g = same_as Answers (Owing peer envelope) duty g.2 refl

rep_sends : (w : End → Bool) (m : Frames) (old : Duty) (steps : List PipeStep) (answer : SendAnswer) (duty : Duty) → RepSends w m old steps answer duty → Answers duty
rep_sends w m Free steps answer duty g = same_as Answers Free duty g.2 refl
rep_sends w m (Asked peer) steps answer duty g = elim g [ ]
rep_sends w m (Owing peer envelope) steps answer duty g = replies_on (nat_le (length (envelope ++ m)) max_committed) w m peer envelope steps answer duty g

request_answers : (e : End) (m : Frames) (g : Given) → request_of e m ≡ Some g → Answers g.duty
request_answers e m g is = by (split_envelope m) is
  where
    by : (o : Option (Frames × Frames)) → option_map (λ (s : Frames × Frames). record { message = s.1; duty = Owing (Some e) s.0 }) o ≡ Some g → Answers g.duty
    by (Some s) is = ap (λ (z : Given). is_asked z.duty) (sym (same_Some (record { message = s.1; duty = Owing (Some e) s.0 }) g is))
    by None is = absurd (none-some g is)

request_on : (ins : List End) (old duty : Duty) → Answers old → IsDutyAfter request_of ins old duty → Answers duty
request_on ins old duty was (as_before same) = same_as Answers old duty same was
request_on ins old duty was (from_peer p m body there is) = request_answers p m (record { message = body; duty = duty }) is

rep_receives : (ins : List End) (old : Duty) (steps : List PipeStep) (skips : List Skip) (answer : RecvAnswer) (new : List End) (duty : Duty) → RepReceives ins old steps skips answer new duty → Answers duty
rep_receives ins Free steps skips answer new duty g = request_on ins Free duty refl (dropping_turned request_of BadEnv ins steps skips answer new Free duty g).duty_is
rep_receives ins (Asked peer) steps skips answer new duty g = elim g [ ]
rep_receives ins (Owing peer envelope) steps skips answer new duty g = same_as Answers (Owing peer envelope) duty g.4 refl

-- ---- the kinds

on : (p q : Pattern) → p ≡ q → IsWhole q → IsWhole p
on p q is whole = subst IsWhole (sym is) whole

sends_stay : (w : End → Bool) (m : Frames) (old : Pattern) (x : SendOutcome) → SendsSo w m old x → IsWhole old → IsWhole x.new
sends_stay w m (Push outs) x g whole = on x.new _ g.2 tt
sends_stay w m (Pull ins) x g whole = on x.new _ g.2 tt
sends_stay w m (Pair t) x g whole = on x.new _ g.2 tt
sends_stay w m (Dealer t) x g whole = on x.new _ g.2 tt
sends_stay w m (Req t duty) x (u, v, g, is) whole = on x.new _ is (req_sends w m t.outs duty x.steps x.answer u v g)
sends_stay w m (Rep ins duty) x (v, g, is) whole = on x.new _ is (rep_sends w m duty x.steps x.answer v g)
sends_stay w m (Router r) x g whole = on x.new _ g.1 whole
sends_stay w m (Pub p) x g whole = on x.new _ g.1 tt
sends_stay w m (XPub p) x g whole = on x.new _ g.1 tt
sends_stay w m (Sub s) x g whole = on x.new _ g.2 tt
sends_stay w m (XSub s) x g whole = on x.new _ g.2 tt

receives_stay : (old : Pattern) (x : RecvOutcome) → ReceivesSo old x → IsWhole old → IsWhole x.new
receives_stay (Push outs) x (n, g) whole = on x.new _ g.2 tt
receives_stay (Pull ins) x (n, g) whole = on x.new _ g.2 tt
receives_stay (Pair t) x (n, g) whole = on x.new _ g.2 tt
receives_stay (Dealer t) x (n, g) whole = on x.new _ g.2 tt
receives_stay (Req t duty) x (u, v, g, is) whole = on x.new _ is (req_receives t.ins duty x.steps x.skips x.answer u v g)
receives_stay (Rep ins duty) x (u, v, g, is) whole = on x.new _ is (rep_receives ins duty x.steps x.skips x.answer u v g)
receives_stay (Router r) x (n, (t, g, is)) whole = on x.new _ is (record {
  each_named = All-permutation (λ e. (name : List ℕ) × (named r.names name ≡ Some e)) r.ins t (router_turned (named r.names) r.ins x.steps x.answer t g) whole.each_named;
  are_names = whole.are_names;
  names_are = whole.names_are;
})
receives_stay (Pub p) x (n, g) whole = on x.new _ g.2 tt
receives_stay (XPub p) x (n, g) whole = on x.new _ g.2 tt
receives_stay (Sub s) x g whole = on x.new _ g.2 tt
receives_stay (XSub s) x (n, g) whole = on x.new _ g.2 tt

changes_stay : (change : Change) (w : End → Bool) (topic : List ℕ) (old : Pattern) (x : ChangeOutcome) → ChangesSo change w topic old x → IsWhole old → IsWhole x.new
changes_stay change w topic (Sub s) x g whole = on x.new _ g.2 tt
changes_stay change w topic (XSub s) x g whole = on x.new _ g.2 tt
changes_stay change w topic (Push outs) x g whole = on x.new _ g.2 tt
changes_stay change w topic (Pull ins) x g whole = on x.new _ g.2 tt
changes_stay change w topic (Pair t) x g whole = on x.new _ g.2 tt
changes_stay change w topic (Dealer t) x g whole = on x.new _ g.2 tt
changes_stay change w topic (Req t duty) x g whole = on x.new _ g.2 whole
changes_stay change w topic (Rep ins duty) x g whole = on x.new _ g.2 whole
changes_stay change w topic (Router r) x g whole = on x.new _ g.2 whole
changes_stay change w topic (Pub p) x g whole = on x.new _ g.2 tt
changes_stay change w topic (XPub p) x g whole = on x.new _ g.2 tt

pumps_stay : (w : End → Bool) (old : Pattern) (x : PumpOutcome) → PumpsSo w old x → IsWhole old → IsWhole x.new
pumps_stay w (Pub p) x g whole = on x.new _ g.2 tt
pumps_stay w (XPub p) x g whole = on x.new _ g.2 tt
pumps_stay w (Sub s) x g whole = on x.new _ g.2 tt
pumps_stay w (XSub s) x g whole = on x.new _ g.2 tt
pumps_stay w (Push outs) x g whole = on x.new _ g.1 tt
pumps_stay w (Pull ins) x g whole = on x.new _ g.1 tt
pumps_stay w (Pair t) x g whole = on x.new _ g.1 tt
pumps_stay w (Dealer t) x g whole = on x.new _ g.1 tt
pumps_stay w (Req t duty) x g whole = on x.new _ g.1 whole
pumps_stay w (Rep ins duty) x g whole = on x.new _ g.1 whole
pumps_stay w (Router r) x g whole = on x.new _ g.1 whole

-- ---- peers come and go

comes : (e : End) (identity : List ℕ) (old : Pattern) → All (λ p. p ≢ e) (map named_peer (peer_names old)) → IsOwnIdentity identity → MayDraw old → IsWhole old → IsWhole (attach e identity old)
comes e identity (Router r) others own few whole = router_comes e identity r others own few whole
comes e identity (Pair t) others own few whole = by (pair_answer t.outs)
  where
    by : (a : Attached) → IsWhole (attach_as a e identity (Pair t))
    by Yes = tt
    by BadId = tt
    by Second = tt
comes e identity (Push outs) others own few whole = tt
comes e identity (Pull ins) others own few whole = tt
comes e identity (Dealer t) others own few whole = tt
comes e identity (Req t duty) others own few whole = whole
comes e identity (Rep ins duty) others own few whole = whole
comes e identity (Pub p) others own few whole = tt
comes e identity (XPub p) others own few whole = tt
comes e identity (Sub s) others own few whole = tt
comes e identity (XSub s) others own few whole = tt

asks_without : (e : End) (duty : Duty) → Asks duty → Asks (duty_without e duty)
asks_without e Free was = refl
asks_without e (Asked peer) was = refl
asks_without e (Owing peer envelope) was = was

answers_without : (e : End) (duty : Duty) → Answers duty → Answers (duty_without e duty)
answers_without e Free was = refl
answers_without e (Asked peer) was = was
answers_without e (Owing peer envelope) was = refl

goes : (e : End) (old : Pattern) → IsWhole old → IsWhole (detach e old)
goes e (Router r) whole = router_goes e r whole
goes e (Req t duty) whole = asks_without e duty whole
goes e (Rep ins duty) whole = answers_without e duty whole
goes e (Push outs) whole = tt
goes e (Pull ins) whole = tt
goes e (Pair t) whole = tt
goes e (Dealer t) whole = tt
goes e (Pub p) whole = tt
goes e (XPub p) whole = tt
goes e (Sub s) whole = tt
goes e (XSub s) whole = tt

pub stay_whole : SocketsStayWhole
stay_whole = record { sends = sends_stay; receives = receives_stay; changes = changes_stay; pumps = pumps_stay; comes = comes; goes = goes }
