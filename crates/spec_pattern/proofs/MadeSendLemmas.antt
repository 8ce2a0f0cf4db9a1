-- Each send of a socket has an outcome, by the kinds.
use Rattle.std.proofs.Common.{◌≡◌, ◌+◌, inl, inr, ◌⊎◌, ℕ, List, [], ◌∷◌, ◌++◌, Bool, true, false, Option, Some, None, All, length, nat_le, refl, arith, true≢false}
use Rattle.std.specs.Prelude.{filter}
use Rattle.std.specs.Map.{keys_of}
use Rattle.std.proofs.lemmas.List.Elements.{All-nil, filter_passes}
use Rattle.zq_base.specs.Message.{Frames, max_committed, IsMessage}
use Rattle.zq_base.specs.Ends.{PipeId}
use Rattle.zq_base.specs.declared.kind.Kind.{Kind}
use Rattle.zq_base.specs.declared.kind.Kind.TheVariants as kind
use Rattle.spec_pattern.specs.PipeStep.{PipeStep, Commit, FullLook, Follows, same_pipe}
use Rattle.spec_pattern.specs.TurnList.{End, NoneHasRoom}
use Rattle.spec_pattern.specs.Duty.{Duty, Free, Asked, Owing, is_asked, is_owing}
use Rattle.spec_pattern.specs.Refusals.{send_refusal}
use Rattle.spec_pattern.specs.Pipeline.{PushSends}
use Rattle.spec_pattern.specs.Call.{KindSends, SendsUnless, SendStep}
use Rattle.spec_pattern.specs.Routes.{GoesTo, Routes}
use Rattle.spec_pattern.specs.RequestReply.{ReqAsks, ReqFreeSends, ReqSends, RepReplies, RepSends}
use Rattle.spec_pattern.specs.Routing.{named, when_missing, when_full, RouterSends}
use Rattle.spec_pattern.specs.Topics.{Topic, Subscribers, matching}
use Rattle.spec_pattern.specs.Wanted.{wants, with_one_more, with_one_less}
use Rattle.spec_pattern.specs.Publishing.{Saying, Adds, Cancels, Other, saying_of, takers, PublishesWhere}
use Rattle.spec_pattern.specs.Subscribing.{Subscriber, SubAnswer, Done, Limit, NotSub, is_refused, SubscribesWhere, UnsubscribesWhere, AsSent, XSubSays, XSubSendsWhere}
use Rattle.spec_pattern.specs.Pattern.{Pattern, Push, Pull, Pair, Dealer, Req, Rep, Router, Pub, XPub, Sub, XSub}
use Rattle.spec_pattern.specs.PatternCalls.{Change, Subscribe, Unsubscribe, Changes}
use Rattle.spec_pattern.specs.declared.answers.Rule.TheVariants.{ReplyGone, RouteFull}
use Rattle.spec_pattern.specs.declared.answers.SendRefusal.{SendRefusal}
use Rattle.spec_pattern.specs.declared.answers.SendRefusal.TheVariants as send
use Rattle.spec_pattern.specs.declared.answers.SendAnswer.{SendAnswer}
use Rattle.spec_pattern.specs.declared.answers.SendAnswer.TheVariants as sent
use Rattle.spec_pattern.specs.Outcomes.{SendOutcome, SendsSo}
use Rattle.spec_pattern.specs.Whole.{IsWhole}
use Rattle.spec_pattern.specs.Existence.{IsLive, GoesOn}
use Rattle.spec_pattern.proofs.OutLemmas.{turns_from}
use Rattle.spec_pattern.proofs.ByTurnLemmas.{SendsBy}
use Rattle.spec_pattern.proofs.AskLemmas.{AsksBy, RepliesBy}
use Rattle.spec_pattern.proofs.TellLemmas.{ChangesBy}
use Rattle.spec_pattern.proofs.SubscribeLemmas.{SaysBy, sent_of}
use Rattle.spec_pattern.proofs.LiveLemmas.{look_out, Made, made_none, made_one, made_as}
use Rattle.spec_pattern.proofs.MadeTurnLemmas.{OutAt, out_made, goes_out}
use Rattle.spec_pattern.proofs.MadeTopicLemmas.{many_made, tells_made}

pub goes_on : {A : Type 0} (c : PipeId → ℕ) (past : List PipeStep) (R : List PipeStep → A → Type 0) → (r : Made c past R) → GoesOn c past r.steps
goes_on c past R r = record { exact = r.exact; no_seal = r.unsealing }

-- no step at all
pub idle : (c : PipeId → ℕ) (past : List PipeStep) → GoesOn c past []
idle c past = record { exact = tt; no_seal = λ p. refl }

-- a subscription that is answered so is sent so
as_sent : (P : SubAnswer → Type 0) (a : SubAnswer) → P a → AsSent P (sent_of a)
as_sent P Done p = inl (p, refl)
as_sent P Limit p = inr (inl (p, refl))
as_sent P NotSub p = inr (inr (p, refl))

takers_open : (w : End → Bool) (subs : Subscribers End) (m : Frames) → All (λ e. w e ≡ true) (takers w subs m)
takers_open w subs [] = All-nil (λ e. w e ≡ true)
takers_open w subs (frame ∷ frames) = filter_passes w (matching same_pipe subs frame)

module _ (c : PipeId → ℕ) (w : End → Bool) (past : List PipeStep) (live : IsLive c w past) where
  push_made : (m : Frames) (turns : List End) → Made c past (SendsBy (PushSends w m turns))
  push_made m turns = by (out_made c w m turns past live)
    where
      by : Made c past (OutAt w m turns) ⊎ Made c past (NoneHasRoom w turns) → Made c past (SendsBy (PushSends w m turns))
      by (inl r) = made_as c past (OutAt w m turns) (SendsBy (PushSends w m turns)) r (sent.One r.end_.peer.pair, turns_from r.end_) (goes_out w m turns r.steps r.end_ r.holds)
      by (inr r) = made_as c past (NoneHasRoom w turns) (SendsBy (PushSends w m turns)) r (sent.Refused send.Again, r.end_) (refl, r.holds)

  unless_made : (first : Option SendRefusal) (Step : List PipeStep → SendAnswer → List End → Type 0) (turns : List End) → Made c past (SendsBy Step) → Made c past (SendsBy (SendsUnless first Step turns))
  unless_made None Step turns r = made_as c past (SendsBy Step) (SendsBy (SendsUnless None Step turns)) r r.end_ r.holds
  unless_made (Some refusal) Step turns r = made_none c past (SendsBy (SendsUnless (Some refusal) Step turns)) (sent.Refused refusal, turns) (refl, refl, refl)

  by_turn_made : (k : Kind) (m : Frames) (turns : List End) → Made c past (SendsBy (KindSends k w m turns)) → Made c past (SendsBy (SendStep k w m turns))
  by_turn_made k m turns r =
      let s = unless_made (send_refusal k Free m) (KindSends k w m turns) turns r in
      made_as c past (SendsBy (SendsUnless (send_refusal k Free m) (KindSends k w m turns) turns)) (SendsBy (SendStep k w m turns)) s s.end_ s.holds

  kind_made : (k : Kind) (m : Frames) (turns : List End) → ((steps : List PipeStep) (a : SendAnswer) (t : List End) → PushSends w m turns steps a t → KindSends k w m turns steps a t)
      → Made c past (SendsBy (SendStep k w m turns))
  kind_made k m turns up =
      let r = push_made m turns in
      by_turn_made k m turns (made_as c past (SendsBy (PushSends w m turns)) (SendsBy (KindSends k w m turns)) r r.end_ (up r.steps r.end_.0 r.end_.1 r.holds))

  -- ---- REQ and REP

  asks_made : (m : Frames) (outs : List End) → Made c past (AsksBy (ReqAsks w m outs))
  asks_made m outs = by (out_made c w ([] ∷ m) outs past live)
    where
      by : Made c past (OutAt w ([] ∷ m) outs) ⊎ Made c past (NoneHasRoom w outs) → Made c past (AsksBy (ReqAsks w m outs))
      by (inl r) = made_as c past (OutAt w ([] ∷ m) outs) (AsksBy (ReqAsks w m outs)) r
          (record { answer = sent.One r.end_.peer.pair; turns = turns_from r.end_; duty = Asked (Some r.end_.peer) })
          (record { goes = goes_out w ([] ∷ m) outs r.steps r.end_ r.holds; duty_is = refl })
      by (inr r) = made_as c past (NoneHasRoom w outs) (AsksBy (ReqAsks w m outs)) r
          (record { answer = sent.Refused send.Again; turns = r.end_; duty = Free }) (refl, r.holds, refl)

  free_made : (fits : Bool) (m : Frames) (outs : List End) → Made c past (AsksBy (ReqFreeSends w m fits outs))
  free_made true m outs = let r = asks_made m outs in made_as c past (AsksBy (ReqAsks w m outs)) (AsksBy (ReqFreeSends w m true outs)) r r.end_ r.holds
  free_made false m outs = made_none c past (AsksBy (ReqFreeSends w m false outs)) (record { answer = sent.Refused send.TooLarge; turns = outs; duty = Free }) (refl, refl, refl, refl)

  req_made : (m : Frames) (outs : List End) (old : Duty) → is_owing old ≡ false → Made c past (AsksBy (ReqSends w m outs old))
  req_made m outs Free whole =
      let r = free_made (nat_le (length m + 1) max_committed) m outs in
      made_as c past (AsksBy (ReqFreeSends w m (nat_le (length m + 1) max_committed) outs)) (AsksBy (ReqSends w m outs Free)) r r.end_ r.holds
  req_made m outs (Asked peer) whole =
      made_none c past (AsksBy (ReqSends w m outs (Asked peer))) (record { answer = sent.Refused send.Fsm; turns = outs; duty = Asked peer }) (refl, refl, refl, refl)
  req_made m outs (Owing peer envelope) whole = absurd (true≢false whole)

  routes_made : (missing full : SendAnswer) (m : Frames) (peer : Option End) → Made c past (Routes missing full w m peer)
  routes_made missing full m None = made_none c past (Routes missing full w m None) missing (refl, refl)
  routes_made missing full m (Some e) = by (w e) refl
    where
      looked : w e ≡ true → Follows c past (Commit e m) ⊎ Follows c past (FullLook e) → Made c past (GoesTo missing full m e true)
      looked can (inl now) = made_one c past (GoesTo missing full m e true) (sent.One e.pair) (Commit e m) (inr (refl, refl)) now (λ p. refl)
      looked can (inr now) = made_one c past (GoesTo missing full m e true) full (FullLook e) (inl (refl, refl)) now (λ p. refl)

      by : (b : Bool) → w e ≡ b → Made c past (GoesTo missing full m e b)
      by false can = made_none c past (GoesTo missing full m e false) missing (refl, refl)
      by true can = looked can (look_out c past e m live.exact (live.unsealed e can))

  replies_made : (fits : Bool) (m : Frames) (peer : Option End) (envelope : Frames) → Made c past (RepliesBy (RepReplies w m peer envelope fits))
  replies_made true m peer envelope =
      let r = routes_made (sent.Dropped ReplyGone) (sent.Dropped RouteFull) (envelope ++ m) peer in
      made_as c past (Routes (sent.Dropped ReplyGone) (sent.Dropped RouteFull) w (envelope ++ m) peer) (RepliesBy (RepReplies w m peer envelope true)) r
      (record { answer = r.end_; duty = Free }) (r.holds, refl)
  replies_made false m peer envelope =
      made_none c past (RepliesBy (RepReplies w m peer envelope false)) (record { answer = sent.Refused send.TooLarge; duty = Owing peer envelope }) (refl, refl, refl)

  rep_made : (m : Frames) (old : Duty) → is_asked old ≡ false → Made c past (RepliesBy (RepSends w m old))
  rep_made m Free whole = made_none c past (RepliesBy (RepSends w m Free)) (record { answer = sent.Refused send.Fsm; duty = Free }) (refl, refl, refl)
  rep_made m (Asked peer) whole = absurd (true≢false whole)
  rep_made m (Owing peer envelope) whole =
      let r = replies_made (nat_le (length (envelope ++ m)) max_committed) m peer envelope in
      made_as c past (RepliesBy (RepReplies w m peer envelope (nat_le (length (envelope ++ m)) max_committed))) (RepliesBy (RepSends w m (Owing peer envelope))) r r.end_ r.holds

  router_made : (mandatory : Bool) (peers : List ℕ → Option End) (m : Frames) → IsMessage m → Made c past (RouterSends mandatory w peers m)
  router_made mandatory peers [] whole = absurd (omega (arith, whole.0))
  router_made mandatory peers (name ∷ []) whole = made_none c past (RouterSends mandatory w peers (name ∷ [])) (sent.Refused send.NoBody) (refl, refl)
  router_made mandatory peers (name ∷ (body ∷ frames)) whole =
      let r = routes_made (when_missing mandatory) (when_full mandatory) (body ∷ frames) (peers name) in
      made_as c past (Routes (when_missing mandatory) (when_full mandatory) w (body ∷ frames) (peers name)) (RouterSends mandatory w peers (name ∷ (body ∷ frames))) r r.end_ r.holds

  -- ---- publishers and subscribers

  publishes_made : (fits : Bool) (subs : Subscribers End) (m : Frames) → Made c past (PublishesWhere fits w subs m)
  publishes_made true subs m = many_made c w m (takers w subs m) (takers_open w subs m) past live
  publishes_made false subs m = made_none c past (PublishesWhere false w subs m) (sent.Refused send.TooLarge) (refl, refl)

  subscribes_made : (refused : Bool) (topic : Topic) (s : Subscriber) → Made c past (ChangesBy (SubscribesWhere refused w topic s))
  subscribes_made true topic s = made_none c past (ChangesBy (SubscribesWhere true w topic s)) (Limit, s) (refl, refl, refl)
  subscribes_made false topic s =
      let r = tells_made c w (record s { wanted = with_one_more topic s.wanted }) past live in
      made_as c past _ (ChangesBy (SubscribesWhere false w topic s)) r (Done, r.end_) (refl, r.holds)

  unsubscribes_made : (wanted : Bool) (topic : Topic) (s : Subscriber) → Made c past (ChangesBy (UnsubscribesWhere wanted w topic s))
  unsubscribes_made true topic s =
      let r = tells_made c w (record s { wanted = with_one_less topic s.wanted }) past live in
      made_as c past _ (ChangesBy (UnsubscribesWhere true w topic s)) r (Done, r.end_) (refl, r.holds)
  unsubscribes_made false topic s = made_none c past (ChangesBy (UnsubscribesWhere false w topic s)) (NotSub, s) (refl, refl, refl)

  pub changes_made : (change : Change) (topic : Topic) (s : Subscriber) → Made c past (ChangesBy (Changes change w topic s))
  changes_made Subscribe topic s =
      let r = subscribes_made (is_refused s.wanted topic) topic s in
      made_as c past (ChangesBy (SubscribesWhere (is_refused s.wanted topic) w topic s)) (ChangesBy (Changes Subscribe w topic s)) r r.end_ r.holds
  changes_made Unsubscribe topic s =
      let r = unsubscribes_made (wants s.wanted topic) topic s in
      made_as c past (ChangesBy (UnsubscribesWhere (wants s.wanted topic) w topic s)) (ChangesBy (Changes Unsubscribe w topic s)) r r.end_ r.holds

  says_made : (saying : Saying) (m : Frames) (s : Subscriber) → Made c past (SaysBy (XSubSays saying w m s))
  says_made (Adds topic) m s =
      let r = changes_made Subscribe topic s in
      made_as c past (ChangesBy (Changes Subscribe w topic s)) (SaysBy (XSubSays (Adds topic) w m s)) r (sent_of r.end_.0, r.end_.1)
      (as_sent (λ a. Changes Subscribe w topic s r.steps a r.end_.1) r.end_.0 r.holds)
  says_made (Cancels topic) m s =
      let r = changes_made Unsubscribe topic s in
      made_as c past (ChangesBy (Changes Unsubscribe w topic s)) (SaysBy (XSubSays (Cancels topic) w m s)) r (sent_of r.end_.0, r.end_.1)
      (as_sent (λ a. Changes Unsubscribe w topic s r.steps a r.end_.1) r.end_.0 r.holds)
  says_made Other m s =
      let r = many_made c w m (filter w (keys_of s.followers)) (filter_passes w (keys_of s.followers)) past live in
      made_as c past _ (SaysBy (XSubSays Other w m s)) r (r.end_, s) (r.holds, refl)

  xsub_made : (fits : Bool) (m : Frames) (s : Subscriber) → Made c past (SaysBy (XSubSendsWhere fits w m s))
  xsub_made true m s =
      let r = says_made (saying_of m) m s in
      made_as c past (SaysBy (XSubSays (saying_of m) w m s)) (SaysBy (XSubSendsWhere true w m s)) r r.end_ r.holds
  xsub_made false m s = made_none c past (SaysBy (XSubSendsWhere false w m s)) (sent.Refused send.TooLarge, s) (refl, refl, refl)

  -- ---- the kinds

  abbrev SendsOn : Frames → Pattern → Type 0
  SendsOn m old = (x : SendOutcome) × SendsSo w m old x × GoesOn c past x.steps

  sends_by : {A : Type 0} (m : Frames) (old : Pattern) (R : List PipeStep → A → Type 0) → (r : Made c past R) (a : SendAnswer) (new : Pattern)
      → SendsSo w m old (record { steps = r.steps; answer = a; new = new }) → SendsOn m old
  sends_by m old R r a new holds = (record { steps = r.steps; answer = a; new = new }, holds, goes_on c past R r)

  pub send_made : (m : Frames) (old : Pattern) → IsMessage m → IsWhole old → SendsOn m old
  send_made m (Push outs) message whole =
      let r = kind_made kind.Push m outs (λ s a t h. h) in
      sends_by m (Push outs) _ r r.end_.0 (Push r.end_.1) (r.end_.1, r.holds, refl)
  send_made m (Pull ins) message whole =
      let r = made_none c past (SendsBy (SendStep kind.Pull w m ins)) (sent.Refused send.NotSupported, ins) (refl, refl, refl) in
      sends_by m (Pull ins) _ r r.end_.0 (Pull r.end_.1) (r.end_.1, r.holds, refl)
  send_made m (Pair t) message whole =
      let r = kind_made kind.Pair m t.outs (λ s a u h. h) in
      sends_by m (Pair t) _ r r.end_.0 (Pair (record t { outs = r.end_.1 })) (r.end_.1, r.holds, refl)
  send_made m (Dealer t) message whole =
      let r = kind_made kind.Dealer m t.outs (λ s a u h. h) in
      sends_by m (Dealer t) _ r r.end_.0 (Dealer (record t { outs = r.end_.1 })) (r.end_.1, r.holds, refl)
  send_made m (Req t duty) message whole =
      let r = req_made m t.outs duty whole in
      sends_by m (Req t duty) _ r r.end_.answer (Req (record t { outs = r.end_.turns }) r.end_.duty) (r.end_.turns, r.end_.duty, r.holds, refl)
  send_made m (Rep ins duty) message whole =
      let r = rep_made m duty whole in
      sends_by m (Rep ins duty) _ r r.end_.answer (Rep ins r.end_.duty) (r.end_.duty, r.holds, refl)
  send_made m (Router s) message whole =
      let r = router_made s.mandatory (named s.names) m message in
      sends_by m (Router s) _ r r.end_ (Router s) (r.holds, refl)
  send_made m (Pub p) message whole =
      let r = publishes_made (nat_le (length m) max_committed) p.subs m in
      sends_by m (Pub p) _ r r.end_ (Pub p) (r.holds, refl)
  send_made m (XPub p) message whole =
      let r = publishes_made (nat_le (length m) max_committed) p.subs m in
      sends_by m (XPub p) _ r r.end_ (XPub p) (r.holds, refl)
  send_made m (Sub s) message whole = (record { steps = []; answer = sent.Refused send.NotSupported; new = Sub s }, (refl, refl, refl), idle c past)
  send_made m (XSub s) message whole =
      let r = xsub_made (nat_le (length m) max_committed) m s in
      sends_by m (XSub s) _ r r.end_.0 (XSub r.end_.1) (r.end_.1, r.holds, refl)
