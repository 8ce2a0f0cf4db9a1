-- Each receive, each subscription and cancel, and what is heard or told, has an outcome, by the kinds.
use Rattle.std.proofs.Common.{◌≡◌, inl, inr, ◌⊎◌, ℕ, List, [], ◌∷◌, Bool, true, false, Option, Some, None, All, length, nat_le, if◌then◌else◌, refl, sym, subst, ap, true≢false}
use Rattle.std.proofs.lemmas.Option.{same_Some, none-some}
use Rattle.std.proofs.lemmas.List.Elements.{All-contains}
use Rattle.zq_base.specs.Message.{Frames}
use Rattle.zq_base.specs.Ends.{PipeId}
use Rattle.zq_base.specs.declared.kind.Kind.{Kind}
use Rattle.zq_base.specs.declared.kind.Kind.TheVariants as kind
use Rattle.spec_pattern.specs.PipeStep.{PipeStep}
use Rattle.spec_pattern.specs.TurnList.{End, NoneHasMessage}
use Rattle.spec_pattern.specs.Duty.{Duty, Free, Asked, Owing, is_asked, is_owing}
use Rattle.spec_pattern.specs.Drops.{Given, ReceivesDropping}
use Rattle.spec_pattern.specs.Wanted.{Wanted, matches_wanted}
use Rattle.spec_pattern.specs.Refusals.{recv_refusal}
use Rattle.spec_pattern.specs.Pipeline.{PullReceives}
use Rattle.spec_pattern.specs.Call.{KindReceives, ReceivesUnless, RecvStep}
use Rattle.spec_pattern.specs.RequestReply.{ReqReceives, RepReceives, reply_of, request_of}
use Rattle.spec_pattern.specs.Routing.{named, RouterReceives}
use Rattle.spec_pattern.specs.Topics.{Topic}
use Rattle.spec_pattern.specs.Publishing.{Publisher, Notice, most_heard, GivesFirst, XPubReceivesWhere}
use Rattle.spec_pattern.specs.Subscribing.{Subscriber, wanted_of}
use Rattle.spec_pattern.specs.Pattern.{Pattern, Push, Pull, Pair, Dealer, Req, Rep, Router, Pub, XPub, Sub, XSub}
use Rattle.spec_pattern.specs.PatternCalls.{Change, NoTopics, Changed}
use Rattle.spec_pattern.specs.declared.answers.Rule.TheVariants.{Stray, BadEnv, Filtered}
use Rattle.spec_pattern.specs.declared.answers.Skip.{Skip}
use Rattle.spec_pattern.specs.declared.answers.RecvRefusal.{RecvRefusal}
use Rattle.spec_pattern.specs.declared.answers.RecvRefusal.TheVariants as recv
use Rattle.spec_pattern.specs.declared.answers.RecvAnswer.{RecvAnswer}
use Rattle.spec_pattern.specs.declared.answers.RecvAnswer.TheVariants as got
use Rattle.spec_pattern.specs.Outcomes.{RecvOutcome, ChangeOutcome, PumpOutcome, ReceivesSo, ChangesSo, PumpsSo}
use Rattle.spec_pattern.specs.Whole.{IsWhole}
use Rattle.spec_pattern.specs.Existence.{IsLive, GoesOn, CallsHaveOutcomes}
use Rattle.spec_pattern.proofs.OutLemmas.{turns_from}
use Rattle.spec_pattern.proofs.ByTurnLemmas.{ReceivesBy}
use Rattle.spec_pattern.proofs.DropLemmas.{Ended, DropsBy}
use Rattle.spec_pattern.proofs.AskLemmas.{HearsBy}
use Rattle.spec_pattern.proofs.NoticeLemmas.{GivesBy}
use Rattle.spec_pattern.proofs.KeepLemmas.{is_there, IsDutyAfter, as_before, from_peer, dropping_turned}
use Rattle.spec_pattern.proofs.LiveLemmas.{unwritten, Made, made_none, made_as}
use Rattle.spec_pattern.proofs.MadeTurnLemmas.{InAt, in_made, comes_in}
use Rattle.spec_pattern.proofs.MadeDropLemmas.{dropping_made}
use Rattle.spec_pattern.proofs.MadeTopicLemmas.{HearsAlong, heard_made, tells_made}
use Rattle.spec_pattern.proofs.MadeSendLemmas.{goes_on, idle, changes_made, send_made}

-- what waits first is given
record GivesSome (count : ℕ) (p : Publisher) (ns : List Notice) : Type 0 where
  answer : RecvAnswer
  new : Publisher
  gives : GivesFirst count p ns answer new

gives_some : (count : ℕ) (p : Publisher) (ns : List Notice) → GivesSome count p ns
gives_some count p [] = record { answer = got.Refused (if nat_le most_heard count then recv.Busy else recv.Again); new = p; gives = (refl, refl) }
gives_some count p (n ∷ ns) = record { answer = got.Got n.pair n.message; new = record p { inbox = ns }; gives = (refl, refl) }

-- a SUB that gives a message has nothing under way
wanted_free : (wanted : Wanted) (e : End) (m : Frames) (g : Given) → wanted_of wanted e m ≡ Some g → g.duty ≡ Free
wanted_free wanted e [] g is = absurd (none-some g is)
wanted_free wanted e (frame ∷ frames) g is = by (matches_wanted wanted frame) is
  where
    by : (b : Bool) → (if b then Some (record { message = frame ∷ frames; duty = Free }) else None) ≡ Some g → g.duty ≡ Free
    by true is = ap (λ (z : Given). z.duty) (sym (same_Some (record { message = frame ∷ frames; duty = Free }) g is))
    by false is = absurd (none-some g is)

after_free : (wanted : Wanted) (ins : List End) (duty : Duty) → IsDutyAfter (wanted_of wanted) ins Free duty → duty ≡ Free
after_free wanted ins duty (as_before same) = same
after_free wanted ins duty (from_peer p m body there is) = wanted_free wanted p m (record { message = body; duty = duty }) is

-- what a receive of a SUB leaves
abbrev FiltersTo : Subscriber → List PipeStep → List Skip × Ended → Type 0
FiltersTo s steps o = ReceivesDropping (wanted_of s.wanted) Filtered s.ins steps o.0 o.1.answer o.1.turns Free Free

filters_to : (s : Subscriber) (steps : List PipeStep) (o : List Skip × Ended) → DropsBy (wanted_of s.wanted) Filtered Free s.ins steps o → FiltersTo s steps o
filters_to s steps o holds =
    let kept = dropping_turned (wanted_of s.wanted) Filtered s.ins steps o.0 o.1.answer o.1.turns Free o.1.duty holds in
    subst (ReceivesDropping (wanted_of s.wanted) Filtered s.ins steps o.0 o.1.answer o.1.turns Free) (after_free s.wanted s.ins o.1.duty kept.duty_is) holds

module _ (c : PipeId → ℕ) (w : End → Bool) (past : List PipeStep) (live : IsLive c w past) where
  pull_made : (turns : List End) → Made c past (ReceivesBy (PullReceives turns))
  pull_made turns = by (in_made c w turns past live)
    where
      by : Made c past (InAt turns) ⊎ Made c past (NoneHasMessage turns) → Made c past (ReceivesBy (PullReceives turns))
      by (inl r) = made_as c past (InAt turns) (ReceivesBy (PullReceives turns)) r (got.Got r.end_.place.peer.pair r.end_.message, turns_from r.end_.place) (comes_in turns r.steps r.end_ r.holds)
      by (inr r) = made_as c past (NoneHasMessage turns) (ReceivesBy (PullReceives turns)) r (got.Refused recv.Again, r.end_) (refl, r.holds)

  unless_made : (first : Option RecvRefusal) (Step : List PipeStep → RecvAnswer → List End → Type 0) (turns : List End) → Made c past (ReceivesBy Step) → Made c past (ReceivesBy (ReceivesUnless first Step turns))
  unless_made None Step turns r = made_as c past (ReceivesBy Step) (ReceivesBy (ReceivesUnless None Step turns)) r r.end_ r.holds
  unless_made (Some refusal) Step turns r = made_none c past (ReceivesBy (ReceivesUnless (Some refusal) Step turns)) (got.Refused refusal, turns) (refl, refl, refl)

  kind_made : (k : Kind) (turns : List End) → ((steps : List PipeStep) (a : RecvAnswer) (t : List End) → PullReceives turns steps a t → KindReceives k turns steps a t)
      → Made c past (ReceivesBy (RecvStep k turns))
  kind_made k turns up =
      let r = pull_made turns in
      let s = unless_made (recv_refusal k Free) (KindReceives k turns) turns (made_as c past (ReceivesBy (PullReceives turns)) (ReceivesBy (KindReceives k turns)) r r.end_ (up r.steps r.end_.0 r.end_.1 r.holds)) in
      made_as c past (ReceivesBy (ReceivesUnless (recv_refusal k Free) (KindReceives k turns) turns)) (ReceivesBy (RecvStep k turns)) s s.end_ s.holds

  req_made : (ins : List End) (old : Duty) → is_owing old ≡ false → Made c past (HearsBy (ReqReceives ins old))
  req_made ins Free whole =
      made_none c past (HearsBy (ReqReceives ins Free)) ([], record { answer = got.Refused recv.Fsm; turns = ins; duty = Free }) (refl, refl, refl, refl, refl)
  req_made ins (Asked peer) whole =
      let r = dropping_made c w (reply_of peer) Stray (Asked peer) ins past live in
      made_as c past (DropsBy (reply_of peer) Stray (Asked peer) ins) (HearsBy (ReqReceives ins (Asked peer))) r r.end_ r.holds
  req_made ins (Owing peer envelope) whole = absurd (true≢false whole)

  rep_made : (ins : List End) (old : Duty) → is_asked old ≡ false → Made c past (HearsBy (RepReceives ins old))
  rep_made ins Free whole =
      let r = dropping_made c w request_of BadEnv Free ins past live in
      made_as c past (DropsBy request_of BadEnv Free ins) (HearsBy (RepReceives ins Free)) r r.end_ r.holds
  rep_made ins (Asked peer) whole = absurd (true≢false whole)
  rep_made ins (Owing peer envelope) whole =
      made_none c past (HearsBy (RepReceives ins (Owing peer envelope))) ([], record { answer = got.Refused recv.Fsm; turns = ins; duty = Owing peer envelope }) (refl, refl, refl, refl, refl)

  router_made : (peers : List ℕ → Option End) (ins : List End) → All (λ e. (name : List ℕ) × (peers name ≡ Some e)) ins → Made c past (ReceivesBy (RouterReceives peers ins))
  router_made peers ins whole = by (in_made c w ins past live)
    where
      by : Made c past (InAt ins) ⊎ Made c past (NoneHasMessage ins) → Made c past (ReceivesBy (RouterReceives peers ins))
      by (inl r) =
          let place = r.end_.place in
          let name = All-contains (λ e. (n : List ℕ) × (peers n ≡ Some e)) ins place.peer whole (is_there place.before place.peer place.after ins r.holds.turns_are) in
          made_as c past (InAt ins) (ReceivesBy (RouterReceives peers ins)) r (got.Got place.peer.pair (name.0 ∷ r.end_.message), turns_from place)
          (record { body = r.end_.message; by_turn = comes_in ins r.steps r.end_ r.holds; name = name.0; name_is = name.1; message_is = refl })
      by (inr r) = made_as c past (NoneHasMessage ins) (ReceivesBy (RouterReceives peers ins)) r (got.Refused recv.Again, r.end_) (refl, r.holds)

  notice_made : (ns : List Notice) (p : Publisher) → Made c past (GivesBy (XPubReceivesWhere ns p))
  notice_made [] p =
      let r = heard_made c w p past live in
      let g = gives_some (length r.end_.rounds) r.end_.new r.end_.new.inbox in
      made_as c past (HearsAlong 0 p) (GivesBy (XPubReceivesWhere [] p)) r (g.answer, g.new) (r.end_.rounds, r.end_.new, r.holds, g.gives)
  notice_made (n ∷ ns) p = made_none c past (GivesBy (XPubReceivesWhere (n ∷ ns) p)) (got.Got n.pair n.message, record p { inbox = ns }) (refl, (refl, refl))

  -- ---- the kinds

  abbrev ReceivesOn : Pattern → Type 0
  ReceivesOn old = (x : RecvOutcome) × ReceivesSo old x × GoesOn c past x.steps

  receives_by : {A : Type 0} (old : Pattern) (R : List PipeStep → A → Type 0) → (r : Made c past R) (skips : List Skip) (a : RecvAnswer) (new : Pattern)
      → ReceivesSo old (record { steps = r.steps; skips = skips; answer = a; new = new }) → ReceivesOn old
  receives_by old R r skips a new holds = (record { steps = r.steps; skips = skips; answer = a; new = new }, holds, goes_on c past R r)

  receive_made : (old : Pattern) → IsWhole old → ReceivesOn old
  receive_made (Push outs) whole =
      let r = made_none c past (ReceivesBy (RecvStep kind.Push outs)) (got.Refused recv.NotSupported, outs) (refl, refl, refl) in
      receives_by (Push outs) _ r [] r.end_.0 (Push r.end_.1) (refl, (r.end_.1, r.holds, refl))
  receive_made (Pull ins) whole =
      let r = kind_made kind.Pull ins (λ s a t h. h) in
      receives_by (Pull ins) _ r [] r.end_.0 (Pull r.end_.1) (refl, (r.end_.1, r.holds, refl))
  receive_made (Pair t) whole =
      let r = kind_made kind.Pair t.ins (λ s a u h. h) in
      receives_by (Pair t) _ r [] r.end_.0 (Pair (record t { ins = r.end_.1 })) (refl, (r.end_.1, r.holds, refl))
  receive_made (Dealer t) whole =
      let r = kind_made kind.Dealer t.ins (λ s a u h. h) in
      receives_by (Dealer t) _ r [] r.end_.0 (Dealer (record t { ins = r.end_.1 })) (refl, (r.end_.1, r.holds, refl))
  receive_made (Req t duty) whole =
      let r = req_made t.ins duty whole in
      receives_by (Req t duty) _ r r.end_.0 r.end_.1.answer (Req (record t { ins = r.end_.1.turns }) r.end_.1.duty) (r.end_.1.turns, r.end_.1.duty, r.holds, refl)
  receive_made (Rep ins duty) whole =
      let r = rep_made ins duty whole in
      receives_by (Rep ins duty) _ r r.end_.0 r.end_.1.answer (Rep r.end_.1.turns r.end_.1.duty) (r.end_.1.turns, r.end_.1.duty, r.holds, refl)
  receive_made (Router s) whole =
      let r = router_made (named s.names) s.ins whole.each_named in
      receives_by (Router s) _ r [] r.end_.0 (Router (record s { ins = r.end_.1 })) (refl, (r.end_.1, r.holds, refl))
  receive_made (Pub p) whole = (record { steps = []; skips = []; answer = got.Refused recv.NotSupported; new = Pub p }, (refl, (refl, refl, refl)), idle c past)
  receive_made (XPub p) whole =
      let r = notice_made p.inbox p in
      receives_by (XPub p) _ r [] r.end_.0 (XPub r.end_.1) (refl, (r.end_.1, r.holds, refl))
  receive_made (Sub s) whole =
      let r = dropping_made c w (wanted_of s.wanted) Filtered Free s.ins past live in
      receives_by (Sub s) _ r r.end_.0 r.end_.1.answer (Sub (record s { ins = r.end_.1.turns })) (record s { ins = r.end_.1.turns }, (r.end_.1.turns, filters_to s r.steps r.end_ r.holds, refl), refl)
  receive_made (XSub s) whole =
      let r = pull_made s.ins in
      receives_by (XSub s) _ r [] r.end_.0 (XSub (record s { ins = r.end_.1 })) (refl, (record s { ins = r.end_.1 }, (r.end_.1, r.holds, refl), refl))

  -- ---- what else is asked, and what comes before each call

  abbrev ChangesOn : Change → Topic → Pattern → Type 0
  ChangesOn change topic old = (x : ChangeOutcome) × ChangesSo change w topic old x × GoesOn c past x.steps

  change_made : (change : Change) (topic : Topic) (old : Pattern) → ChangesOn change topic old
  change_made change topic (Sub s) =
      let r = changes_made c w past live change topic s in
      (record { steps = r.steps; answer = Changed r.end_.0; new = Sub r.end_.1 }, (r.end_.1, r.holds, refl), goes_on c past _ r)
  change_made change topic (XSub s) =
      let r = changes_made c w past live change topic s in
      (record { steps = r.steps; answer = Changed r.end_.0; new = XSub r.end_.1 }, (r.end_.1, r.holds, refl), goes_on c past _ r)
  change_made change topic (Push outs) = (record { steps = []; answer = NoTopics; new = Push outs }, (refl, refl, refl), idle c past)
  change_made change topic (Pull ins) = (record { steps = []; answer = NoTopics; new = Pull ins }, (refl, refl, refl), idle c past)
  change_made change topic (Pair t) = (record { steps = []; answer = NoTopics; new = Pair t }, (refl, refl, refl), idle c past)
  change_made change topic (Dealer t) = (record { steps = []; answer = NoTopics; new = Dealer t }, (refl, refl, refl), idle c past)
  change_made change topic (Req t duty) = (record { steps = []; answer = NoTopics; new = Req t duty }, (refl, refl, refl), idle c past)
  change_made change topic (Rep ins duty) = (record { steps = []; answer = NoTopics; new = Rep ins duty }, (refl, refl, refl), idle c past)
  change_made change topic (Router s) = (record { steps = []; answer = NoTopics; new = Router s }, (refl, refl, refl), idle c past)
  change_made change topic (Pub p) = (record { steps = []; answer = NoTopics; new = Pub p }, (refl, refl, refl), idle c past)
  change_made change topic (XPub p) = (record { steps = []; answer = NoTopics; new = XPub p }, (refl, refl, refl), idle c past)

  abbrev PumpsOn : Pattern → Type 0
  PumpsOn old = (x : PumpOutcome) × PumpsSo w old x × GoesOn c past x.steps

  pump_made : (old : Pattern) → PumpsOn old
  pump_made (Pub p) =
      let r = heard_made c w p past live in
      (record { steps = r.steps; new = Pub r.end_.new }, (r.end_.new, (r.end_.rounds, r.holds), refl), goes_on c past _ r)
  pump_made (XPub p) =
      let r = heard_made c w p past live in
      (record { steps = r.steps; new = XPub r.end_.new }, (r.end_.new, (r.end_.rounds, r.holds), refl), goes_on c past _ r)
  pump_made (Sub s) =
      let r = tells_made c w s past live in
      (record { steps = r.steps; new = Sub r.end_ }, (r.end_, r.holds, refl), goes_on c past _ r)
  pump_made (XSub s) =
      let r = tells_made c w s past live in
      (record { steps = r.steps; new = XSub r.end_ }, (r.end_, r.holds, refl), goes_on c past _ r)
  pump_made (Push outs) = (record { steps = []; new = Push outs }, (refl, refl), idle c past)
  pump_made (Pull ins) = (record { steps = []; new = Pull ins }, (refl, refl), idle c past)
  pump_made (Pair t) = (record { steps = []; new = Pair t }, (refl, refl), idle c past)
  pump_made (Dealer t) = (record { steps = []; new = Dealer t }, (refl, refl), idle c past)
  pump_made (Req t duty) = (record { steps = []; new = Req t duty }, (refl, refl), idle c past)
  pump_made (Rep ins duty) = (record { steps = []; new = Rep ins duty }, (refl, refl), idle c past)
  pump_made (Router s) = (record { steps = []; new = Router s }, (refl, refl), idle c past)

pub calls_have_outcomes : CallsHaveOutcomes
calls_have_outcomes = record {
  sends = λ c past w m old live message whole. send_made c w past live m old message whole;
  receives = λ c past old exact whole. receive_made c (λ _. false) past (unwritten c past exact) old whole;
  changes = λ c past change w topic old live. change_made c w past live change topic old;
  pumps = λ c past w old live. pump_made c w past live old;
}
