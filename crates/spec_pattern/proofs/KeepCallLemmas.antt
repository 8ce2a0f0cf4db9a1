-- A call of a socket keeps its peers, by the kinds.
use Rattle.std.proofs.Common.{◌≡◌, ◌∙◌, ◌+◌, inl, inr, ◌⊎◌, ℕ, List, [], ◌∷◌, ◌++◌, Bool, true, false, Option, Some, None, Contains, IsPermutation, length, nat_le, refl, sym, subst, ap, if◌then◌else◌}
use Rattle.std.proofs.lemmas.Option.{same_Some, none-some}
use Rattle.std.specs.Option.{option_map}
use Rattle.std.proofs.lemmas.List.Sorted.{IsPermutation-refl}
use Rattle.std.proofs.lemmas.List.Elements.{Contains-append_left, Contains-append_right}
use Rattle.zq_base.specs.Message.{Frames, max_committed}
use Rattle.zq_base.specs.declared.kind.Kind.TheVariants as kind
use Rattle.spec_pattern.specs.PipeStep.{PipeStep}
use Rattle.spec_pattern.specs.TurnList.{End}
use Rattle.spec_pattern.specs.Duty.{Duty, Free, Asked, Owing}
use Rattle.spec_pattern.specs.Drops.{Given}
use Rattle.spec_pattern.specs.Envelope.{behind_empty, split_envelope}
use Rattle.spec_pattern.specs.RequestReply.{same_pair, ReqAsks, ReqFreeSends, ReqSends, reply_of, ReqReceives, request_of, RepReceives, RepReplies, RepSends}
use Rattle.spec_pattern.specs.Routing.{named, RouterReceives}
use Rattle.spec_pattern.specs.Topics.{Topic}
use Rattle.spec_pattern.specs.Publishing.{Publisher}
use Rattle.spec_pattern.specs.Subscribing.{Subscriber}
use Rattle.spec_pattern.specs.Pattern.{BothTurns, Pattern, Push, Pull, Pair, Dealer, Req, Rep, Router, Pub, XPub, Sub, XSub}
use Rattle.spec_pattern.specs.PatternCalls.{Change, Changes, ChangeAnswer, NoTopics, Changed, AsChanged}
use Rattle.spec_pattern.specs.declared.answers.Rule.TheVariants.{Stray, BadEnv, Filtered}
use Rattle.spec_pattern.specs.declared.answers.Skip.{Skip}
use Rattle.spec_pattern.specs.declared.answers.SendAnswer.{SendAnswer}
use Rattle.spec_pattern.specs.declared.answers.SendAnswer.TheVariants as sent
use Rattle.spec_pattern.specs.declared.answers.RecvAnswer.{RecvAnswer}
use Rattle.spec_pattern.specs.declared.answers.RecvAnswer.TheVariants as got
use Rattle.spec_pattern.specs.Peers.{partner_of, KeepsPeers}
use Rattle.spec_pattern.specs.PeersLaw.{CallsKeepPeers}
use Rattle.spec_pattern.specs.Outcomes.{SendOutcome, RecvOutcome, ChangeOutcome, PumpOutcome, SendsSo, ReceivesSo, ChangesSo, PumpsSo}
use Rattle.spec_pattern.proofs.KeepLemmas.{stays, out_turned, in_turned, is_there, pull_turned, send_step_turned, recv_step_turned, IsDutyAfter, as_before, from_peer, Dropping, dropping_turned}
use Rattle.spec_pattern.proofs.KeepTopicLemmas.{PublisherKeeps, SubscriberKeeps, hears_keeps, notice_keeps, tells_keeps, changes_keeps, xsub_keeps}

-- who asked, or is asked, is who was before, or one of these
abbrev IsPartner : List End → Duty → Duty → Type 0
IsPartner ends old duty = (e : End) → partner_of duty ≡ Some e → (partner_of old ≡ Some e) ⊎ Contains ends e

no_partner : (ends : List End) (old : Duty) → IsPartner ends old Free
no_partner ends old e is = absurd (cc)

same_partner : (ends : List End) (old duty : Duty) → duty ≡ old → IsPartner ends old duty
same_partner ends old duty same e is = inl (ap partner_of (sym same) ∙ is)

free_partner : (ends : List End) (old duty : Duty) → duty ≡ Free → IsPartner ends old duty
free_partner ends old duty same = subst (IsPartner ends old) (sym same) (no_partner ends old)

this_partner : (ends : List End) (old duty : Duty) (p : End) → partner_of duty ≡ Some p → Contains ends p → IsPartner ends old duty
this_partner ends old duty p is there e was = inr (subst (Contains ends) (one_end p e (sym is ∙ was)) there)
  where
    one_end : (a b : End) → Some a ≡ Some b → a ≡ b
    one_end a b same = cc

-- ---- the kinds, by what they keep

kept_same : (p : Pattern) → KeepsPeers p p
kept_same p = record {
  kind_is = refl;
  outs = IsPermutation-refl _;
  ins = IsPermutation-refl _;
  names = refl;
  listed = refl;
  partner = λ e is. inl is;
}

kept_as : (old new mid : Pattern) → new ≡ mid → KeepsPeers old mid → KeepsPeers old new
kept_as old new mid is kept = subst (KeepsPeers old) (sym is) kept

no_change : (old new : Pattern) → new ≡ old → KeepsPeers old new
no_change old new is = kept_as old new old is (kept_same old)

kept_push : (t u : List End) → IsPermutation t u → KeepsPeers (Push t) (Push u)
kept_push t u turned = record { kind_is = refl; outs = turned; ins = IsPermutation-refl []; names = refl; listed = refl; partner = no_partner _ Free }

kept_pull : (t u : List End) → IsPermutation t u → KeepsPeers (Pull t) (Pull u)
kept_pull t u turned = record { kind_is = refl; outs = IsPermutation-refl []; ins = turned; names = refl; listed = refl; partner = no_partner _ Free }

kept_pair : (t u : BothTurns) → IsPermutation t.outs u.outs → IsPermutation t.ins u.ins → KeepsPeers (Pair t) (Pair u)
kept_pair t u outs ins = record { kind_is = refl; outs = outs; ins = ins; names = refl; listed = refl; partner = no_partner _ Free }

kept_dealer : (t u : BothTurns) → IsPermutation t.outs u.outs → IsPermutation t.ins u.ins → KeepsPeers (Dealer t) (Dealer u)
kept_dealer t u outs ins = record { kind_is = refl; outs = outs; ins = ins; names = refl; listed = refl; partner = no_partner _ Free }

kept_req : (t u : BothTurns) (old duty : Duty) → IsPermutation t.outs u.outs → IsPermutation t.ins u.ins → IsPartner (t.outs ++ t.ins) old duty → KeepsPeers (Req t old) (Req u duty)
kept_req t u old duty outs ins partner = record { kind_is = refl; outs = outs; ins = ins; names = refl; listed = refl; partner = partner }

kept_rep : (t u : List End) (old duty : Duty) → IsPermutation t u → IsPartner t old duty → KeepsPeers (Rep t old) (Rep u duty)
kept_rep t u old duty turned partner = record { kind_is = refl; outs = IsPermutation-refl []; ins = turned; names = refl; listed = refl; partner = partner }

kept_pub : (p q : Publisher) → PublisherKeeps p q → KeepsPeers (Pub p) (Pub q)
kept_pub p q keeps = record { kind_is = refl; outs = IsPermutation-refl []; ins = keeps.turned; names = refl; listed = keeps.listed; partner = no_partner _ Free }

kept_xpub : (p q : Publisher) → PublisherKeeps p q → KeepsPeers (XPub p) (XPub q)
kept_xpub p q keeps = record { kind_is = refl; outs = IsPermutation-refl []; ins = keeps.turned; names = refl; listed = keeps.listed; partner = no_partner _ Free }

kept_sub : (s t : Subscriber) → SubscriberKeeps s t → KeepsPeers (Sub s) (Sub t)
kept_sub s t keeps = record { kind_is = refl; outs = IsPermutation-refl []; ins = keeps.turned; names = refl; listed = keeps.listed; partner = no_partner _ Free }

kept_xsub : (s t : Subscriber) → SubscriberKeeps s t → KeepsPeers (XSub s) (XSub t)
kept_xsub s t keeps = record { kind_is = refl; outs = IsPermutation-refl []; ins = keeps.turned; names = refl; listed = keeps.listed; partner = no_partner _ Free }

-- ---- REQ and REP

-- what a call of a socket that asks or answers keeps
record Turned (turns new : List End) (old duty : Duty) : Type 0 where
  turned : IsPermutation turns new
  partner : IsPartner turns old duty

asks_turned : (w : End → Bool) (m : Frames) (outs : List End) (steps : List PipeStep) (answer : SendAnswer) (new : List End) (duty : Duty) → ReqAsks w m outs steps answer new duty → Turned outs new Free duty
asks_turned w m outs steps (sent.One to) new duty g = record {
  turned = out_turned w ([] ∷ m) outs steps to new g.goes;
  partner = this_partner outs Free duty g.goes.peer (ap partner_of g.duty_is) (is_there g.goes.before g.goes.peer g.goes.after outs g.goes.turns_are);
}
asks_turned w m outs steps (sent.Refused r) new duty (again_is, none, free) = record { turned = stays outs new none.new_is; partner = free_partner outs Free duty free }
asks_turned w m outs steps _ new duty g = elim g [ ]

free_turned : (fits : Bool) (w : End → Bool) (m : Frames) (outs : List End) (steps : List PipeStep) (answer : SendAnswer) (new : List End) (duty : Duty) → ReqFreeSends w m fits outs steps answer new duty → Turned outs new Free duty
free_turned true w m outs steps answer new duty g = asks_turned w m outs steps answer new duty g
free_turned false w m outs steps answer new duty g = record { turned = stays outs new g.2; partner = same_partner outs Free duty g.3 }

req_send_turned : (w : End → Bool) (m : Frames) (outs : List End) (old : Duty) (steps : List PipeStep) (answer : SendAnswer) (new : List End) (duty : Duty) → ReqSends w m outs old steps answer new duty → Turned outs new old duty
req_send_turned w m outs Free steps answer new duty g = free_turned (nat_le (length m + 1) max_committed) w m outs steps answer new duty g
req_send_turned w m outs (Asked peer) steps answer new duty g = record { turned = stays outs new g.2; partner = same_partner outs (Asked peer) duty g.3 }
req_send_turned w m outs (Owing peer envelope) steps answer new duty g = elim g [ ]

-- a reply frees the REQ, and a request is owed to the peer that it came from
pub reply_frees : (peer : Option End) (e : End) (m : Frames) (g : Given) → reply_of peer e m ≡ Some g → g.duty ≡ Free
reply_frees None e m g is = absurd (none-some g is)
reply_frees (Some p) e m g is = by (same_pair p e) (behind_empty m) is
  where
    by : (b : Bool) (o : Option Frames) → (if b then option_map (λ (f : Frames). record { message = f; duty = Free }) o else None) ≡ Some g → g.duty ≡ Free
    by true (Some f) is = ap (λ (z : Given). z.duty) (sym (same_Some (record { message = f; duty = Free }) g is))
    by true None is = absurd (none-some g is)
    by false o is = absurd (none-some g is)

request_owes : (e : End) (m : Frames) (g : Given) → request_of e m ≡ Some g → partner_of g.duty ≡ Some e
request_owes e m g is = by (split_envelope m) is
  where
    by : (o : Option (Frames × Frames)) → option_map (λ (s : Frames × Frames). record { message = s.1; duty = Owing (Some e) s.0 }) o ≡ Some g → partner_of g.duty ≡ Some e
    by (Some s) is = ap (λ (z : Given). partner_of z.duty) (sym (same_Some (record { message = s.1; duty = Owing (Some e) s.0 }) g is))
    by None is = absurd (none-some g is)

replied : (peer : Option End) (ins new : List End) (old duty : Duty) → Dropping (reply_of peer) ins new old duty → Turned ins new old duty
replied peer ins new old duty g = record { turned = g.turned; partner = by g.duty_is }
  where
    by : IsDutyAfter (reply_of peer) ins old duty → IsPartner ins old duty
    by (as_before same) = same_partner ins old duty same
    by (from_peer p m body there is) = free_partner ins old duty (reply_frees peer p m (record { message = body; duty = duty }) is)

requested : (ins new : List End) (old duty : Duty) → Dropping request_of ins new old duty → Turned ins new old duty
requested ins new old duty g = record { turned = g.turned; partner = by g.duty_is }
  where
    by : IsDutyAfter request_of ins old duty → IsPartner ins old duty
    by (as_before same) = same_partner ins old duty same
    by (from_peer p m body there is) = this_partner ins old duty p (request_owes p m (record { message = body; duty = duty }) is) there

req_recv_turned : (ins : List End) (old : Duty) (steps : List PipeStep) (skips : List Skip) (answer : RecvAnswer) (new : List End) (duty : Duty) → ReqReceives ins old steps skips answer new duty → Turned ins new old duty
req_recv_turned ins Free steps skips answer new duty g = record { turned = stays ins new g.3; partner = same_partner ins Free duty g.4 }
req_recv_turned ins (Asked peer) steps skips answer new duty g = replied peer ins new (Asked peer) duty (dropping_turned (reply_of peer) Stray ins steps skips answer new (Asked peer) duty g)
req_recv_turned ins (Owing peer envelope) steps skips answer new duty g = elim g [ ]

rep_recv_turned : (ins : List End) (old : Duty) (steps : List PipeStep) (skips : List Skip) (answer : RecvAnswer) (new : List End) (duty : Duty) → RepReceives ins old steps skips answer new duty → Turned ins new old duty
rep_recv_turned ins Free steps skips answer new duty g = requested ins new Free duty (dropping_turned request_of BadEnv ins steps skips answer new Free duty g)
rep_recv_turned ins (Asked peer) steps skips answer new duty g = elim g [ ]
rep_recv_turned ins (Owing peer envelope) steps skips answer new duty g = record { turned = stays ins new g.3; partner = same_partner ins (Owing peer envelope) duty g.4 }

replies_partner : (fits : Bool) (w : End → Bool) (m : Frames) (peer : Option End) (envelope : Frames) (ins : List End) (steps : List PipeStep) (answer : SendAnswer) (duty : Duty)
    → RepReplies w m peer envelope fits steps answer duty → IsPartner ins (Owing peer envelope) duty
replies_partner true w m peer envelope ins steps answer duty g = free_partner ins (Owing peer envelope) duty g.1
replies_partner false w m peer envelope ins steps answer duty g = same_partner ins (Owing peer envelope) duty g.2

rep_send_partner : (w : End → Bool) (m : Frames) (old : Duty) (ins : List End) (steps : List PipeStep) (answer : SendAnswer) (duty : Duty) → RepSends w m old steps answer duty → IsPartner ins old duty
rep_send_partner w m Free ins steps answer duty g = same_partner ins Free duty g.2
rep_send_partner w m (Asked peer) ins steps answer duty g = elim g [ ]
rep_send_partner w m (Owing peer envelope) ins steps answer duty g = replies_partner (nat_le (length (envelope ++ m)) max_committed) w m peer envelope ins steps answer duty g

-- a partner among one turn list is among both
in_outs : (t : BothTurns) (old duty : Duty) → IsPartner t.outs old duty → IsPartner (t.outs ++ t.ins) old duty
in_outs t old duty partner e is = by (partner e is)
  where
    by : (partner_of old ≡ Some e) ⊎ Contains t.outs e → (partner_of old ≡ Some e) ⊎ Contains (t.outs ++ t.ins) e
    by (inl was) = inl was
    by (inr there) = inr (Contains-append_left t.outs t.ins e there)

in_ins : (t : BothTurns) (old duty : Duty) → IsPartner t.ins old duty → IsPartner (t.outs ++ t.ins) old duty
in_ins t old duty partner e is = by (partner e is)
  where
    by : (partner_of old ≡ Some e) ⊎ Contains t.ins e → (partner_of old ≡ Some e) ⊎ Contains (t.outs ++ t.ins) e
    by (inl was) = inl was
    by (inr there) = inr (Contains-append_right t.outs t.ins e there)

-- ---- the calls

pub router_turned : (peers : List ℕ → Option End) (ins : List End) (steps : List PipeStep) (answer : RecvAnswer) (new : List End) → RouterReceives peers ins steps answer new → IsPermutation ins new
router_turned peers ins steps (got.Got from_ m) new g = in_turned ins steps g.body from_ new g.by_turn
router_turned peers ins steps (got.Refused r) new (again_is, none) = stays ins new none.new_is

sends_keep : (w : End → Bool) (m : Frames) (old : Pattern) (x : SendOutcome) → SendsSo w m old x → KeepsPeers old x.new
sends_keep w m (Push outs) x (t, g, is) = kept_as (Push outs) x.new (Push t) is (kept_push outs t (send_step_turned kind.Push w m outs x.steps x.answer t g))
sends_keep w m (Pull ins) x (t, g, is) = kept_as (Pull ins) x.new (Pull t) is (kept_pull ins t (send_step_turned kind.Pull w m ins x.steps x.answer t g))
sends_keep w m (Pair b) x (t, g, is) = kept_as (Pair b) x.new _ is (kept_pair b (record b { outs = t }) (send_step_turned kind.Pair w m b.outs x.steps x.answer t g) (IsPermutation-refl b.ins))
sends_keep w m (Dealer b) x (t, g, is) = kept_as (Dealer b) x.new _ is (kept_dealer b (record b { outs = t }) (send_step_turned kind.Dealer w m b.outs x.steps x.answer t g) (IsPermutation-refl b.ins))
sends_keep w m (Req b duty) x (t, v, g, is) =
    let one = req_send_turned w m b.outs duty x.steps x.answer t v g in
    kept_as (Req b duty) x.new _ is (kept_req b (record b { outs = t }) duty v one.turned (IsPermutation-refl b.ins) (in_outs b duty v one.partner))
sends_keep w m (Rep ins duty) x (v, g, is) = kept_as (Rep ins duty) x.new _ is (kept_rep ins ins duty v (IsPermutation-refl ins) (rep_send_partner w m duty ins x.steps x.answer v g))
sends_keep w m (Router r) x g = no_change (Router r) x.new g.1
sends_keep w m (Pub p) x g = no_change (Pub p) x.new g.1
sends_keep w m (XPub p) x g = no_change (XPub p) x.new g.1
sends_keep w m (Sub s) x g = no_change (Sub s) x.new g.2
sends_keep w m (XSub s) x (t, g, is) = kept_as (XSub s) x.new (XSub t) is (kept_xsub s t (xsub_keeps w m s x.steps x.answer t g))

receives_keep : (old : Pattern) (x : RecvOutcome) → ReceivesSo old x → KeepsPeers old x.new
receives_keep (Push outs) x (n, (t, g, is)) = kept_as (Push outs) x.new (Push t) is (kept_push outs t (recv_step_turned kind.Push outs x.steps x.answer t g))
receives_keep (Pull ins) x (n, (t, g, is)) = kept_as (Pull ins) x.new (Pull t) is (kept_pull ins t (recv_step_turned kind.Pull ins x.steps x.answer t g))
receives_keep (Pair b) x (n, (t, g, is)) = kept_as (Pair b) x.new _ is (kept_pair b (record b { ins = t }) (IsPermutation-refl b.outs) (recv_step_turned kind.Pair b.ins x.steps x.answer t g))
receives_keep (Dealer b) x (n, (t, g, is)) = kept_as (Dealer b) x.new _ is (kept_dealer b (record b { ins = t }) (IsPermutation-refl b.outs) (recv_step_turned kind.Dealer b.ins x.steps x.answer t g))
receives_keep (Req b duty) x (t, v, g, is) =
    let one = req_recv_turned b.ins duty x.steps x.skips x.answer t v g in
    kept_as (Req b duty) x.new _ is (kept_req b (record b { ins = t }) duty v (IsPermutation-refl b.outs) one.turned (in_ins b duty v one.partner))
receives_keep (Rep ins duty) x (t, v, g, is) =
    let one = rep_recv_turned ins duty x.steps x.skips x.answer t v g in
    kept_as (Rep ins duty) x.new _ is (kept_rep ins t duty v one.turned one.partner)
receives_keep (Router r) x (n, (t, g, is)) =
    let turned = router_turned (named r.names) r.ins x.steps x.answer t g in
    kept_as (Router r) x.new (Router (record r { ins = t })) is
    (record { kind_is = refl; outs = IsPermutation-refl []; ins = turned; names = refl; listed = refl; partner = no_partner _ Free })
receives_keep (Pub p) x (n, g) = no_change (Pub p) x.new g.2
receives_keep (XPub p) x (n, (q, g, is)) = kept_as (XPub p) x.new (XPub q) is (kept_xpub p q (notice_keeps p.inbox p x.steps x.answer q g))
receives_keep (Sub s) x (t, (turns, g, new_is), is) =
    let one = dropping_turned _ Filtered s.ins x.steps x.skips x.answer turns Free Free g in
    kept_as (Sub s) x.new (Sub (record s { ins = turns })) (is ∙ ap Sub new_is) (kept_sub s (record s { ins = turns }) (record { turned = one.turned; listed = refl }))
receives_keep (XSub s) x (n, (t, (turns, g, new_is), is)) =
    kept_as (XSub s) x.new (XSub (record s { ins = turns })) (is ∙ ap XSub new_is) (kept_xsub s (record s { ins = turns }) (record { turned = pull_turned s.ins x.steps x.answer turns g; listed = refl }))

changed_keeps : (change : Change) (w : End → Bool) (topic : Topic) (s : Subscriber) (steps : List PipeStep) (answer : ChangeAnswer) (new : Subscriber)
    → AsChanged (λ a. Changes change w topic s steps a new) answer → SubscriberKeeps s new
changed_keeps change w topic s steps NoTopics new g = elim g [ ]
changed_keeps change w topic s steps (Changed a) new g = changes_keeps change w topic s steps a new g

changes_keep : (change : Change) (w : End → Bool) (topic : Topic) (old : Pattern) (x : ChangeOutcome) → ChangesSo change w topic old x → KeepsPeers old x.new
changes_keep change w topic (Sub s) x (t, g, is) = kept_as (Sub s) x.new (Sub t) is (kept_sub s t (changed_keeps change w topic s x.steps x.answer t g))
changes_keep change w topic (XSub s) x (t, g, is) = kept_as (XSub s) x.new (XSub t) is (kept_xsub s t (changed_keeps change w topic s x.steps x.answer t g))
changes_keep change w topic (Push outs) x g = no_change (Push outs) x.new g.2
changes_keep change w topic (Pull ins) x g = no_change (Pull ins) x.new g.2
changes_keep change w topic (Pair b) x g = no_change (Pair b) x.new g.2
changes_keep change w topic (Dealer b) x g = no_change (Dealer b) x.new g.2
changes_keep change w topic (Req b duty) x g = no_change (Req b duty) x.new g.2
changes_keep change w topic (Rep ins duty) x g = no_change (Rep ins duty) x.new g.2
changes_keep change w topic (Router r) x g = no_change (Router r) x.new g.2
changes_keep change w topic (Pub p) x g = no_change (Pub p) x.new g.2
changes_keep change w topic (XPub p) x g = no_change (XPub p) x.new g.2

pumps_keep : (w : End → Bool) (old : Pattern) (x : PumpOutcome) → PumpsSo w old x → KeepsPeers old x.new
pumps_keep w (Pub p) x (q, (rs, g), is) = kept_as (Pub p) x.new (Pub q) is (kept_pub p q (hears_keeps 0 p rs x.steps q g))
pumps_keep w (XPub p) x (q, (rs, g), is) = kept_as (XPub p) x.new (XPub q) is (kept_xpub p q (hears_keeps 0 p rs x.steps q g))
pumps_keep w (Sub s) x (t, g, is) = kept_as (Sub s) x.new (Sub t) is (kept_sub s t (tells_keeps w s x.steps t g))
pumps_keep w (XSub s) x (t, g, is) = kept_as (XSub s) x.new (XSub t) is (kept_xsub s t (tells_keeps w s x.steps t g))
pumps_keep w (Push outs) x g = no_change (Push outs) x.new g.1
pumps_keep w (Pull ins) x g = no_change (Pull ins) x.new g.1
pumps_keep w (Pair b) x g = no_change (Pair b) x.new g.1
pumps_keep w (Dealer b) x g = no_change (Dealer b) x.new g.1
pumps_keep w (Req b duty) x g = no_change (Req b duty) x.new g.1
pumps_keep w (Rep ins duty) x g = no_change (Rep ins duty) x.new g.1
pumps_keep w (Router r) x g = no_change (Router r) x.new g.1

pub calls_keep_peers : CallsKeepPeers
calls_keep_peers = record { sends = sends_keep; receives = receives_keep; changes = changes_keep; pumps = pumps_keep }
