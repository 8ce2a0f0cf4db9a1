-- The steps of a call are at the socket's own ends, by the kinds.
use Rattle.std.proofs.Common.{◌≡◌, ◌+◌, inl, inr, ℕ, List, [], ◌∷◌, ◌++◌, Bool, true, false, Option, Some, All, Contains, cond, length, nat_le, refl}
use Rattle.std.specs.Prelude.{filter}
use Rattle.std.specs.Map.{keys_of}
use Rattle.std.proofs.lemmas.List.Elements.{All-nil, All-cons, All-head, All-tail, All-filter, All-weaker, All-contains_itself}
use Rattle.zq_base.specs.Message.{Frames, max_committed}
use Rattle.zq_base.specs.declared.kind.Kind.TheVariants as kind
use Rattle.spec_pattern.specs.PipeStep.{PipeStep, same_pipe}
use Rattle.spec_pattern.specs.TurnList.{End}
use Rattle.spec_pattern.specs.Duty.{Duty, Free, Asked, Owing}
use Rattle.spec_pattern.specs.RequestReply.{ReqAsks, ReqFreeSends, ReqSends, ReqReceives, RepReceives, RepReplies, RepSends, reply_of, request_of}
use Rattle.spec_pattern.specs.Routing.{named, when_missing, when_full, RouterSends, RouterReceives}
use Rattle.spec_pattern.specs.Topics.{Topic, Subscribers, matches, topics_of, matching}
use Rattle.spec_pattern.specs.Wanted.{wants, with_one_more, with_one_less}
use Rattle.spec_pattern.specs.Publishing.{Publisher, Notice, Saying, Adds, Cancels, Other, saying_of, takers, PublishesWhere, XPubReceivesWhere}
use Rattle.spec_pattern.specs.Subscribing.{Subscriber, SubAnswer, wanted_of, is_refused, SubscribesWhere, UnsubscribesWhere, AsSent, XSubSays, XSubSendsWhere}
use Rattle.spec_pattern.specs.Pattern.{Pattern, Push, Pull, Pair, Dealer, Req, Rep, Router, Pub, XPub, Sub, XSub}
use Rattle.spec_pattern.specs.PatternCalls.{Change, Subscribe, Unsubscribe, Changes, ChangeAnswer, NoTopics, Changed, AsChanged}
use Rattle.spec_pattern.specs.declared.answers.Rule.TheVariants.{ReplyGone, RouteFull, Stray, BadEnv, Filtered}
use Rattle.spec_pattern.specs.declared.answers.Skip.{Skip}
use Rattle.spec_pattern.specs.declared.answers.SendAnswer.{SendAnswer}
use Rattle.spec_pattern.specs.declared.answers.SendAnswer.TheVariants as sent
use Rattle.spec_pattern.specs.declared.answers.RecvAnswer.{RecvAnswer}
use Rattle.spec_pattern.specs.declared.answers.RecvAnswer.TheVariants as got
use Rattle.spec_pattern.specs.Peers.{partner_of, in_turns, written_ends}
use Rattle.spec_pattern.specs.Outcomes.{SendOutcome, RecvOutcome, ChangeOutcome, PumpOutcome, SendsSo, ReceivesSo, ChangesSo, PumpsSo}
use Rattle.spec_pattern.specs.OwnSteps.{IsStepAt, MayWrite, MayRead, NoEnd, CallsStepAtOwnEnds}
use Rattle.spec_pattern.proofs.PeerLemmas.{of_partner, of_named}
use Rattle.spec_pattern.proofs.OwnLemmas.{none_at, out_at, room_at, send_step_at, routes_at, tells_at, many_at, in_at, empty_at, pull_at, recv_step_at, dropping_at, hears_at}

-- those of a list that pass a test, where each that passes it is so
of_passing : (P : End → Type 0) (w : End → Bool) (ends : List End) → All (λ e. w e ≡ true → P e) ends → All P (filter w ends)
of_passing P w [] all = All-nil P
of_passing P w (e ∷ es) all = by (w e) refl (of_passing P w es (All-tail (λ k. w k ≡ true → P k) e es all))
  where
    by : (b : Bool) → w e ≡ b → All P (filter w es) → All P (cond b (e ∷ filter w es) (filter w es))
    by true can rest = All-cons P e (filter w es) (All-head (λ k. w k ≡ true → P k) e es all can) rest
    by false can rest = rest

module _ (w : End → Bool) (Writes Reads : End → Type 0) where
  abbrev At : PipeStep → Type 0
  At s = IsStepAt Writes Reads s

  abbrev IsOpen : End → Type 0
  IsOpen e = w e ≡ true → Writes e

  asks_at : (m : Frames) (outs : List End) (steps : List PipeStep) (answer : SendAnswer) (new : List End) (duty : Duty) → All IsOpen outs → ReqAsks w m outs steps answer new duty → All At steps
  asks_at m outs steps (sent.One to) new duty open_to g = out_at Writes Reads w ([] ∷ m) outs steps to new open_to g.goes
  asks_at m outs steps (sent.Refused r) new duty open_to (again, none, free) = room_at Writes Reads w outs steps new open_to none
  asks_at m outs steps _ new duty open_to g = elim g [ ]

  free_at : (fits : Bool) (m : Frames) (outs : List End) (steps : List PipeStep) (answer : SendAnswer) (new : List End) (duty : Duty) → All IsOpen outs → ReqFreeSends w m fits outs steps answer new duty → All At steps
  free_at true m outs steps answer new duty open_to g = asks_at m outs steps answer new duty open_to g
  free_at false m outs steps answer new duty open_to g = none_at Writes Reads steps g.1

  req_send_at : (m : Frames) (outs : List End) (old : Duty) (steps : List PipeStep) (answer : SendAnswer) (new : List End) (duty : Duty) → All IsOpen outs → ReqSends w m outs old steps answer new duty → All At steps
  req_send_at m outs Free steps answer new duty open_to g = free_at (nat_le (length m + 1) max_committed) m outs steps answer new duty open_to g
  req_send_at m outs (Asked peer) steps answer new duty open_to g = none_at Writes Reads steps g.1
  req_send_at m outs (Owing peer envelope) steps answer new duty open_to g = elim g [ ]

  replies_at : (fits : Bool) (m : Frames) (peer : Option End) (envelope : Frames) (steps : List PipeStep) (answer : SendAnswer) (duty : Duty) → ((e : End) → peer ≡ Some e → IsOpen e) → RepReplies w m peer envelope fits steps answer duty → All At steps
  replies_at true m peer envelope steps answer duty open_to g = routes_at Writes Reads w (sent.Dropped ReplyGone) (sent.Dropped RouteFull) (envelope ++ m) peer steps answer open_to g.0
  replies_at false m peer envelope steps answer duty open_to g = none_at Writes Reads steps g.1

  rep_send_at : (m : Frames) (old : Duty) (steps : List PipeStep) (answer : SendAnswer) (duty : Duty) → ((e : End) → partner_of old ≡ Some e → IsOpen e) → RepSends w m old steps answer duty → All At steps
  rep_send_at m Free steps answer duty open_to g = none_at Writes Reads steps g.1
  rep_send_at m (Asked peer) steps answer duty open_to g = elim g [ ]
  rep_send_at m (Owing peer envelope) steps answer duty open_to g = replies_at (nat_le (length (envelope ++ m)) max_committed) m peer envelope steps answer duty open_to g

  router_send_at : (mandatory : Bool) (peers : List ℕ → Option End) (m : Frames) (steps : List PipeStep) (answer : SendAnswer) → ((name : List ℕ) (e : End) → peers name ≡ Some e → IsOpen e) → RouterSends mandatory w peers m steps answer → All At steps
  router_send_at mandatory peers [] steps answer open_to g = elim g [ ]
  router_send_at mandatory peers (name ∷ []) steps answer open_to g = none_at Writes Reads steps g.1
  router_send_at mandatory peers (name ∷ (body ∷ frames)) steps answer open_to g = routes_at Writes Reads w (when_missing mandatory) (when_full mandatory) (body ∷ frames) (peers name) steps answer (open_to name) g

  taken_open : (subs : Subscribers End) (m : Frames) → All IsOpen (keys_of subs) → All Writes (takers w subs m)
  taken_open subs [] open_to = All-nil Writes
  taken_open subs (frame ∷ frames) open_to = of_passing Writes w (matching same_pipe subs frame) (All-filter (λ p. matches (topics_of same_pipe subs p) frame) IsOpen (keys_of subs) open_to)

  publishes_at : (fits : Bool) (subs : Subscribers End) (m : Frames) (steps : List PipeStep) (answer : SendAnswer) → All IsOpen (keys_of subs) → PublishesWhere fits w subs m steps answer → All At steps
  publishes_at true subs m steps answer open_to g = many_at Writes Reads m (takers w subs m) steps answer (taken_open subs m open_to) g
  publishes_at false subs m steps answer open_to g = none_at Writes Reads steps g.1

  subscribes_at : (refused : Bool) (topic : Topic) (s : Subscriber) (steps : List PipeStep) (answer : SubAnswer) (new : Subscriber) → All IsOpen (keys_of s.followers) → SubscribesWhere refused w topic s steps answer new → All At steps
  subscribes_at true topic s steps answer new open_to g = none_at Writes Reads steps g.1
  subscribes_at false topic s steps answer new open_to g = tells_at Writes Reads w (with_one_more topic s.wanted) s.followers steps g.1.followers open_to g.1.tells

  unsubscribes_at : (wanted : Bool) (topic : Topic) (s : Subscriber) (steps : List PipeStep) (answer : SubAnswer) (new : Subscriber) → All IsOpen (keys_of s.followers) → UnsubscribesWhere wanted w topic s steps answer new → All At steps
  unsubscribes_at true topic s steps answer new open_to g = tells_at Writes Reads w (with_one_less topic s.wanted) s.followers steps g.1.followers open_to g.1.tells
  unsubscribes_at false topic s steps answer new open_to g = none_at Writes Reads steps g.1

  change_at : (change : Change) (topic : Topic) (s : Subscriber) (steps : List PipeStep) (answer : SubAnswer) (new : Subscriber) → All IsOpen (keys_of s.followers) → Changes change w topic s steps answer new → All At steps
  change_at Subscribe topic s steps answer new open_to g = subscribes_at (is_refused s.wanted topic) topic s steps answer new open_to g
  change_at Unsubscribe topic s steps answer new open_to g = unsubscribes_at (wants s.wanted topic) topic s steps answer new open_to g

  as_at : (P : SubAnswer → Type 0) (steps : List PipeStep) (answer : SendAnswer) → ((a : SubAnswer) → P a → All At steps) → AsSent P answer → All At steps
  as_at P steps answer so (inl (done, is)) = so _ done
  as_at P steps answer so (inr (inl (limit, is))) = so _ limit
  as_at P steps answer so (inr (inr (none, is))) = so _ none

  says_at : (saying : Saying) (m : Frames) (s : Subscriber) (steps : List PipeStep) (answer : SendAnswer) (new : Subscriber) → All IsOpen (keys_of s.followers) → XSubSays saying w m s steps answer new → All At steps
  says_at (Adds topic) m s steps answer new open_to g = as_at (λ a. Changes Subscribe w topic s steps a new) steps answer (λ a. change_at Subscribe topic s steps a new open_to) g
  says_at (Cancels topic) m s steps answer new open_to g = as_at (λ a. Changes Unsubscribe w topic s steps a new) steps answer (λ a. change_at Unsubscribe topic s steps a new open_to) g
  says_at Other m s steps answer new open_to g = many_at Writes Reads m (filter w (keys_of s.followers)) steps answer (of_passing Writes w (keys_of s.followers) open_to) g.0

  xsub_at : (fits : Bool) (m : Frames) (s : Subscriber) (steps : List PipeStep) (answer : SendAnswer) (new : Subscriber) → All IsOpen (keys_of s.followers) → XSubSendsWhere fits w m s steps answer new → All At steps
  xsub_at true m s steps answer new open_to g = says_at (saying_of m) m s steps answer new open_to g
  xsub_at false m s steps answer new open_to g = none_at Writes Reads steps g.1

module _ (Writes Reads : End → Type 0) where
  req_recv_at : (ins : List End) (old : Duty) (steps : List PipeStep) (skips : List Skip) (answer : RecvAnswer) (new : List End) (duty : Duty) → All Reads ins → ReqReceives ins old steps skips answer new duty → All (IsStepAt Writes Reads) steps
  req_recv_at ins Free steps skips answer new duty own g = none_at Writes Reads steps g.1
  req_recv_at ins (Asked peer) steps skips answer new duty own g = dropping_at Writes Reads (reply_of peer) Stray ins steps skips answer new (Asked peer) duty own g
  req_recv_at ins (Owing peer envelope) steps skips answer new duty own g = elim g [ ]

  rep_recv_at : (ins : List End) (old : Duty) (steps : List PipeStep) (skips : List Skip) (answer : RecvAnswer) (new : List End) (duty : Duty) → All Reads ins → RepReceives ins old steps skips answer new duty → All (IsStepAt Writes Reads) steps
  rep_recv_at ins Free steps skips answer new duty own g = dropping_at Writes Reads request_of BadEnv ins steps skips answer new Free duty own g
  rep_recv_at ins (Asked peer) steps skips answer new duty own g = elim g [ ]
  rep_recv_at ins (Owing peer envelope) steps skips answer new duty own g = none_at Writes Reads steps g.1

  router_recv_at : (peers : List ℕ → Option End) (ins : List End) (steps : List PipeStep) (answer : RecvAnswer) (new : List End) → All Reads ins → RouterReceives peers ins steps answer new → All (IsStepAt Writes Reads) steps
  router_recv_at peers ins steps (got.Got from_ m) new own g = in_at Writes Reads ins steps g.body from_ new own g.by_turn
  router_recv_at peers ins steps (got.Refused r) new own (again, none) = empty_at Writes Reads ins steps new own none

  notice_at : (ns : List Notice) (p : Publisher) (steps : List PipeStep) (answer : RecvAnswer) (new : Publisher) → All Reads p.ins → XPubReceivesWhere ns p steps answer new → All (IsStepAt Writes Reads) steps
  notice_at [] p steps answer new own (rs, mid, hears, gives) = hears_at Writes Reads 0 p rs steps mid own hears
  notice_at (n ∷ ns) p steps answer new own g = none_at Writes Reads steps g.0

-- an end of a list that can be written is so
own_open : (w : End → Bool) (old : Pattern) → All (λ e. w e ≡ true → MayWrite w old e) (written_ends old)
own_open w old = All-weaker (Contains (written_ends old)) (λ e. w e ≡ true → MayWrite w old e) (λ e here can. (here, can)) (written_ends old) (All-contains_itself (written_ends old))

own_read : (old : Pattern) → All (MayRead old) (in_turns old)
own_read old = All-contains_itself (in_turns old)

sends_own : (w : End → Bool) (m : Frames) (old : Pattern) (x : SendOutcome) → SendsSo w m old x → All (IsStepAt (MayWrite w old) NoEnd) x.steps
sends_own w m (Push outs) x (t, g, is) = send_step_at (MayWrite w (Push outs)) NoEnd w kind.Push m outs x.steps x.answer t (own_open w (Push outs)) g
sends_own w m (Pull ins) x (t, g, is) = none_at (MayWrite w (Pull ins)) NoEnd x.steps g.1
sends_own w m (Pair b) x (t, g, is) = send_step_at (MayWrite w (Pair b)) NoEnd w kind.Pair m b.outs x.steps x.answer t (own_open w (Pair b)) g
sends_own w m (Dealer b) x (t, g, is) = send_step_at (MayWrite w (Dealer b)) NoEnd w kind.Dealer m b.outs x.steps x.answer t (own_open w (Dealer b)) g
sends_own w m (Req b duty) x (t, v, g, is) = req_send_at w (MayWrite w (Req b duty)) NoEnd m b.outs duty x.steps x.answer t v (own_open w (Req b duty)) g
sends_own w m (Rep ins duty) x (v, g, is) =
    rep_send_at w (MayWrite w (Rep ins duty)) NoEnd m duty x.steps x.answer v
    (of_partner (λ e. w e ≡ true → MayWrite w (Rep ins duty) e) (partner_of duty) (own_open w (Rep ins duty))) g
sends_own w m (Router r) x (g, is) =
    router_send_at w (MayWrite w (Router r)) NoEnd r.mandatory (named r.names) m x.steps x.answer
    (λ name e. of_named (λ k. w k ≡ true → MayWrite w (Router r) k) r.names name e (own_open w (Router r))) g
sends_own w m (Pub p) x (g, is) = publishes_at w (MayWrite w (Pub p)) NoEnd (nat_le (length m) max_committed) p.subs m x.steps x.answer (own_open w (Pub p)) g
sends_own w m (XPub p) x (g, is) = publishes_at w (MayWrite w (XPub p)) NoEnd (nat_le (length m) max_committed) p.subs m x.steps x.answer (own_open w (XPub p)) g
sends_own w m (Sub s) x g = none_at (MayWrite w (Sub s)) NoEnd x.steps g.1
sends_own w m (XSub s) x (t, g, is) = xsub_at w (MayWrite w (XSub s)) NoEnd (nat_le (length m) max_committed) m s x.steps x.answer t (own_open w (XSub s)) g

receives_own : (old : Pattern) (x : RecvOutcome) → ReceivesSo old x → All (IsStepAt NoEnd (MayRead old)) x.steps
receives_own (Push outs) x (n, (t, g, is)) = none_at NoEnd (MayRead (Push outs)) x.steps g.1
receives_own (Pull ins) x (n, (t, g, is)) = recv_step_at NoEnd (MayRead (Pull ins)) kind.Pull ins x.steps x.answer t (own_read (Pull ins)) g
receives_own (Pair b) x (n, (t, g, is)) = recv_step_at NoEnd (MayRead (Pair b)) kind.Pair b.ins x.steps x.answer t (own_read (Pair b)) g
receives_own (Dealer b) x (n, (t, g, is)) = recv_step_at NoEnd (MayRead (Dealer b)) kind.Dealer b.ins x.steps x.answer t (own_read (Dealer b)) g
receives_own (Req b duty) x (t, v, g, is) = req_recv_at NoEnd (MayRead (Req b duty)) b.ins duty x.steps x.skips x.answer t v (own_read (Req b duty)) g
receives_own (Rep ins duty) x (t, v, g, is) = rep_recv_at NoEnd (MayRead (Rep ins duty)) ins duty x.steps x.skips x.answer t v (own_read (Rep ins duty)) g
receives_own (Router r) x (n, (t, g, is)) = router_recv_at NoEnd (MayRead (Router r)) (named r.names) r.ins x.steps x.answer t (own_read (Router r)) g
receives_own (Pub p) x (n, g) = none_at NoEnd (MayRead (Pub p)) x.steps g.1
receives_own (XPub p) x (n, (q, g, is)) = notice_at NoEnd (MayRead (XPub p)) p.inbox p x.steps x.answer q (own_read (XPub p)) g
receives_own (Sub s) x (t, (turns, g, new), is) = dropping_at NoEnd (MayRead (Sub s)) (wanted_of s.wanted) Filtered s.ins x.steps x.skips x.answer turns Free Free (own_read (Sub s)) g
receives_own (XSub s) x (n, (t, (turns, g, new), is)) = pull_at NoEnd (MayRead (XSub s)) s.ins x.steps x.answer turns (own_read (XSub s)) g

changed_own : (w : End → Bool) (Writes : End → Type 0) (change : Change) (topic : Topic) (s : Subscriber) (steps : List PipeStep) (answer : ChangeAnswer) (new : Subscriber)
    → All (λ e. w e ≡ true → Writes e) (keys_of s.followers) → AsChanged (λ a. Changes change w topic s steps a new) answer → All (IsStepAt Writes NoEnd) steps
changed_own w Writes change topic s steps NoTopics new open_to g = elim g [ ]
changed_own w Writes change topic s steps (Changed a) new open_to g = change_at w Writes NoEnd change topic s steps a new open_to g

changes_own : (change : Change) (w : End → Bool) (topic : Topic) (old : Pattern) (x : ChangeOutcome) → ChangesSo change w topic old x → All (IsStepAt (MayWrite w old) NoEnd) x.steps
changes_own change w topic (Sub s) x (t, g, is) = changed_own w (MayWrite w (Sub s)) change topic s x.steps x.answer t (own_open w (Sub s)) g
changes_own change w topic (XSub s) x (t, g, is) = changed_own w (MayWrite w (XSub s)) change topic s x.steps x.answer t (own_open w (XSub s)) g
changes_own change w topic (Push outs) x g = none_at (MayWrite w (Push outs)) NoEnd x.steps g.1
changes_own change w topic (Pull ins) x g = none_at (MayWrite w (Pull ins)) NoEnd x.steps g.1
changes_own change w topic (Pair b) x g = none_at (MayWrite w (Pair b)) NoEnd x.steps g.1
changes_own change w topic (Dealer b) x g = none_at (MayWrite w (Dealer b)) NoEnd x.steps g.1
changes_own change w topic (Req b duty) x g = none_at (MayWrite w (Req b duty)) NoEnd x.steps g.1
changes_own change w topic (Rep ins duty) x g = none_at (MayWrite w (Rep ins duty)) NoEnd x.steps g.1
changes_own change w topic (Router r) x g = none_at (MayWrite w (Router r)) NoEnd x.steps g.1
changes_own change w topic (Pub p) x g = none_at (MayWrite w (Pub p)) NoEnd x.steps g.1
changes_own change w topic (XPub p) x g = none_at (MayWrite w (XPub p)) NoEnd x.steps g.1

pumps_own : (w : End → Bool) (old : Pattern) (x : PumpOutcome) → PumpsSo w old x → All (IsStepAt (MayWrite w old) (MayRead old)) x.steps
pumps_own w (Pub p) x (q, (rs, g), is) = hears_at (MayWrite w (Pub p)) (MayRead (Pub p)) 0 p rs x.steps q (own_read (Pub p)) g
pumps_own w (XPub p) x (q, (rs, g), is) = hears_at (MayWrite w (XPub p)) (MayRead (XPub p)) 0 p rs x.steps q (own_read (XPub p)) g
pumps_own w (Sub s) x (t, g, is) = tells_at (MayWrite w (Sub s)) (MayRead (Sub s)) w s.wanted s.followers x.steps g.followers (own_open w (Sub s)) g.tells
pumps_own w (XSub s) x (t, g, is) = tells_at (MayWrite w (XSub s)) (MayRead (XSub s)) w s.wanted s.followers x.steps g.followers (own_open w (XSub s)) g.tells
pumps_own w (Push outs) x g = none_at (MayWrite w (Push outs)) (MayRead (Push outs)) x.steps g.0
pumps_own w (Pull ins) x g = none_at (MayWrite w (Pull ins)) (MayRead (Pull ins)) x.steps g.0
pumps_own w (Pair b) x g = none_at (MayWrite w (Pair b)) (MayRead (Pair b)) x.steps g.0
pumps_own w (Dealer b) x g = none_at (MayWrite w (Dealer b)) (MayRead (Dealer b)) x.steps g.0
pumps_own w (Req b duty) x g = none_at (MayWrite w (Req b duty)) (MayRead (Req b duty)) x.steps g.0
pumps_own w (Rep ins duty) x g = none_at (MayWrite w (Rep ins duty)) (MayRead (Rep ins duty)) x.steps g.0
pumps_own w (Router r) x g = none_at (MayWrite w (Router r)) (MayRead (Router r)) x.steps g.0

pub step_at_own_ends : CallsStepAtOwnEnds
step_at_own_ends = record { sends = sends_own; receives = receives_own; changes = changes_own; pumps = pumps_own }
