-- A call that meets want of memory keeps the socket's peers.
use Rattle.std.specs.Prelude.{◌≡◌, ◌⊎◌, ◌||◌, ◌++◌, ◌∷◌, [], ℕ, suc, Bool, true, false, List, Option, IsPermutation, if◌then◌else◌, refl}
use Rattle.std.specs.Map.{keys_of, set_value}
use Rattle.std.proofs.Common.{sym, ap, ◌∙◌, subst, inl, inr}
use Rattle.std.proofs.lemmas.List.{map-append}
use Rattle.std.proofs.lemmas.List.Sorted.{IsPermutation-refl, IsPermutation-trans}
use Rattle.std.proofs.lemmas.Map.{keys-set_value}
use Rattle.zq_base.specs.Message.{Frames}
use Rattle.spec_pattern.specs.AtPlaces.{TellsWritable as TellsOf}
use Rattle.spec_pattern.specs.PipeStep.{PipeStep, same_pipe}
use Rattle.spec_pattern.specs.TurnList.{End}
use Rattle.spec_pattern.specs.Drops.{Round, ComeByTurn}
use Rattle.spec_pattern.specs.Topics.{Topic, Subscribers, with_topic, without_topic, topics_of, has_topic, is_full}
use Rattle.spec_pattern.specs.Wanted.{Wanted}
use Rattle.spec_pattern.specs.Publishing.{Saying, Adds, Cancels, Other, saying_of, subs_after, Publisher, heard, Hears}
use Rattle.spec_pattern.specs.Subscribing.{Subscriber}
use Rattle.spec_pattern.specs.Pattern.{BothTurns, Pattern, Push, Pull, Pair, Dealer, Req, Rep, Router, Pub, XPub, Sub, XSub}
use Rattle.spec_pattern.specs.PatternCalls.{Change, Subscribe, Unsubscribe}
use Rattle.spec_pattern.specs.declared.answers.Skip.{Skip}
use Rattle.spec_pattern.specs.declared.answers.RecvAnswer.TheVariants as got
use Rattle.spec_pattern.proofs.KeepLemmas.{stays, comes_turned}
use Rattle.spec_pattern.proofs.KeepTopicLemmas.{PublisherKeeps, SubscriberKeeps, hears_keeps, tells_keeps}
use Rattle.spec_pattern.proofs.KeepCallLemmas.{calls_keep_peers}
use Rattle.router_dealer.specs.Named.{Kept}
use Rattle.pub_sub.specs.Hearing.{HearsThrough}
use Rattle.pub_sub.specs.Subscribing.{wanted_by}
use Rattle.any_sock.specs.Stopped.{HeardSome, TellsSome, ToldSome, ToldOfChange, SaysSome, StopsReceive, StopsPump, StopsChange, StopsSend}
use Rattle.socket_laws.specs.Wants.{KeepsTheirs, StopsKeepPeers}
use Rattle.socket_laws.proofs.JoinLemmas.{calls_draw_none}

-- ---- of each kind
kept_as : (old new mid : Pattern) → new ≡ mid → KeepsTheirs old mid → KeepsTheirs old new
kept_as old new mid is keeps = subst (KeepsTheirs old) (sym is) keeps

kept_req : (t : BothTurns) (ins : List End) (duty : _) → IsPermutation t.ins ins → KeepsTheirs (Req t duty) (Req (record t { ins = ins }) duty)
kept_req t ins duty turned = record { peers = record { kind_is = refl; outs = IsPermutation-refl t.outs; ins = turned; names = refl; listed = refl; partner = λ e is. inl is }; drawn = refl }

kept_rep : (ins new : List End) (duty : _) → IsPermutation ins new → KeepsTheirs (Rep ins duty) (Rep new duty)
kept_rep ins new duty turned = record { peers = record { kind_is = refl; outs = IsPermutation-refl []; ins = turned; names = refl; listed = refl; partner = λ e is. inl is }; drawn = refl }

kept_pub : (p q : Publisher) → PublisherKeeps p q → KeepsTheirs (Pub p) (Pub q)
kept_pub p q keeps = record { peers = record { kind_is = refl; outs = IsPermutation-refl []; ins = keeps.turned; names = refl; listed = keeps.listed; partner = λ e is. inl is }; drawn = refl }

kept_xpub : (p q : Publisher) → PublisherKeeps p q → KeepsTheirs (XPub p) (XPub q)
kept_xpub p q keeps = record { peers = record { kind_is = refl; outs = IsPermutation-refl []; ins = keeps.turned; names = refl; listed = keeps.listed; partner = λ e is. inl is }; drawn = refl }

kept_sub : (s t : Subscriber) → SubscriberKeeps s t → KeepsTheirs (Sub s) (Sub t)
kept_sub s t keeps = record { peers = record { kind_is = refl; outs = IsPermutation-refl []; ins = keeps.turned; names = refl; listed = keeps.listed; partner = λ e is. inl is }; drawn = refl }

kept_xsub : (s t : Subscriber) → SubscriberKeeps s t → KeepsTheirs (XSub s) (XSub t)
kept_xsub s t keeps = record { peers = record { kind_is = refl; outs = IsPermutation-refl []; ins = keeps.turned; names = refl; listed = keeps.listed; partner = λ e is. inl is }; drawn = refl }

-- ---- what was dropped, heard and told
dropped_turned : (turns : List End) (rs : List Round) (steps : List PipeStep) (new : List End) → ComeByTurn turns rs steps new → IsPermutation turns new
dropped_turned turns [] steps new g = stays turns new g.1
dropped_turned turns (r ∷ rs) steps new (first, rest, mid, comes, on, whole) = IsPermutation-trans turns mid new (comes_turned turns r first mid comes) (dropped_turned mid rs rest new on)

said_keys : (e : End) (saying : Saying) (subs : Subscribers End) → keys_of (subs_after e saying subs) ≡ keys_of subs
said_keys e (Adds topic) subs = by (has_topic same_pipe subs e topic || is_full same_pipe subs e)
  where
    by : (b : Bool) → keys_of (if b then subs else set_value (same_pipe e) subs (with_topic topic (topics_of same_pipe subs e))) ≡ keys_of subs
    by true = refl
    by false = keys-set_value (same_pipe e) subs (with_topic topic (topics_of same_pipe subs e))
said_keys e (Cancels topic) subs = keys-set_value (same_pipe e) subs (without_topic topic (topics_of same_pipe subs e))
said_keys e Other subs = refl

heard_keeps : (count : ℕ) (p : Publisher) (rs : List Round) (steps : List PipeStep) (new : Publisher) → HearsThrough count p rs steps new → PublisherKeeps p new
heard_keeps count p [] steps new g = record { turned = stays p.ins new.ins (ap (λ (q : Publisher). q.ins) g.1); listed = ap (λ (q : Publisher). keys_of q.subs) g.1 }
heard_keeps count p (r ∷ rs) steps new (on, turns, first, rest, comes, others, whole) =
    let more = heard_keeps (suc count) (heard r turns p) rs rest new others in
    record {
      turned = IsPermutation-trans p.ins turns new.ins (comes_turned p.ins r first turns comes) more.turned;
      listed = more.listed ∙ said_keys r.peer (saying_of r.message) p.subs;
    }

-- the followers that were told all, the one that was told some, and those behind it
told_keys : (w : End → Bool) (wanted : Wanted) (followers : Subscribers End) (steps : List PipeStep) (followers' : Subscribers End) → TellsSome w wanted followers steps followers' → keys_of followers' ≡ keys_of followers
told_keys w wanted followers steps followers' g =
    ap keys_of g.followers_new ∙ map-append (λ s. s.0) g.before' ((g.peer, g.told') ∷ g.behind)
    ∙ ap (λ (es : List End). es ++ (g.peer ∷ keys_of g.behind)) front
    ∙ sym (ap keys_of g.followers_are ∙ map-append (λ s. s.0) g.before ((g.peer, g.told) ∷ g.behind))
  where
    -- a subscriber with those that were told all
    had : Subscribers End → Subscriber
    had fs = record { ins = []; wanted = wanted; followers = fs }

    front : keys_of g.before' ≡ keys_of g.before
    front = (tells_keeps w (had g.before) g.first (had g.before') (record { followers = g.before'; tells = g.tells; new_is = refl })).listed

module _ (ends : ℕ → End) (writable : ℕ → Bool) (places : List ℕ) (can_write : End → Bool) (tell : TellsOf can_write ends writable places) where
  abbrev Reads : (End → Bool) → Type 0
  Reads w = TellsOf w ends writable places

  some_keeps : (s : Subscriber) (steps : List PipeStep) (new : Subscriber) → ToldSome Reads s steps new → SubscriberKeeps s new
  some_keeps s steps new (followers, tells, is) = record {
    turned = stays s.ins new.ins (ap (λ (t : Subscriber). t.ins) is);
    listed = ap (λ (t : Subscriber). keys_of t.followers) is ∙ told_keys can_write s.wanted s.followers steps followers (tells can_write tell);
  }

  change_keeps : (change : Change) (topic : Topic) (s : Subscriber) (steps : List PipeStep) (new : Subscriber) → ToldOfChange Reads change topic s steps new → SubscriberKeeps s new
  change_keeps change topic s steps new g =
      let one = some_keeps (record s { wanted = wanted_by change topic s.wanted }) steps new g.1 in
      record { turned = one.turned; listed = one.listed }

  says_keeps : (saying : Saying) (s : Subscriber) (steps : List PipeStep) (new : Subscriber) → SaysSome Reads saying s steps new → SubscriberKeeps s new
  says_keeps (Adds topic) s steps new g = change_keeps Subscribe topic s steps new g
  says_keeps (Cancels topic) s steps new g = change_keeps Unsubscribe topic s steps new g
  says_keeps Other s steps new g = absurd g

  pub pumps_stopped : (old : Pattern) (steps : List PipeStep) (new : Pattern) → StopsPump Reads old steps new → KeepsTheirs old new
  pumps_stopped (Pub p) steps new (q, (rs, g), is) = kept_as (Pub p) new (Pub q) is (kept_pub p q (heard_keeps 0 p rs steps q g))
  pumps_stopped (XPub p) steps new (q, (rs, g), is) = kept_as (XPub p) new (XPub q) is (kept_xpub p q (heard_keeps 0 p rs steps q g))
  pumps_stopped (Sub s) steps new (t, g, is) = kept_as (Sub s) new (Sub t) is (kept_sub s t (some_keeps s steps t g))
  pumps_stopped (XSub s) steps new (t, g, is) = kept_as (XSub s) new (XSub t) is (kept_xsub s t (some_keeps s steps t g))
  pumps_stopped (Push outs) steps new g = absurd g
  pumps_stopped (Pull ins) steps new g = absurd g
  pumps_stopped (Pair t) steps new g = absurd g
  pumps_stopped (Dealer t) steps new g = absurd g
  pumps_stopped (Req t duty) steps new g = absurd g
  pumps_stopped (Rep ins duty) steps new g = absurd g
  pumps_stopped (Router r) steps new g = absurd g

  pub changes_stopped : (change : Change) (topic : Topic) (old : Pattern) (steps : List PipeStep) (new : Pattern) → StopsChange Reads change topic old steps new → KeepsTheirs old new
  changes_stopped change topic (Sub s) steps new (t, g, is) = kept_as (Sub s) new (Sub t) is (kept_sub s t (change_keeps change topic s steps t g))
  changes_stopped change topic (XSub s) steps new (t, g, is) = kept_as (XSub s) new (XSub t) is (kept_xsub s t (change_keeps change topic s steps t g))
  changes_stopped change topic (Push outs) steps new g = absurd g
  changes_stopped change topic (Pull ins) steps new g = absurd g
  changes_stopped change topic (Pair t) steps new g = absurd g
  changes_stopped change topic (Dealer t) steps new g = absurd g
  changes_stopped change topic (Req t duty) steps new g = absurd g
  changes_stopped change topic (Rep ins duty) steps new g = absurd g
  changes_stopped change topic (Router r) steps new g = absurd g
  changes_stopped change topic (Pub p) steps new g = absurd g
  changes_stopped change topic (XPub p) steps new g = absurd g

  pub sends_stopped : (m : Frames) (old : Pattern) (steps : List PipeStep) (new : Pattern) → StopsSend Reads m old steps new → KeepsTheirs old new
  sends_stopped m (XSub s) steps new (t, g, is) = kept_as (XSub s) new (XSub t) is (kept_xsub s t (says_keeps (saying_of m) s steps t g))
  sends_stopped m (Push outs) steps new g = absurd g
  sends_stopped m (Pull ins) steps new g = absurd g
  sends_stopped m (Pair t) steps new g = absurd g
  sends_stopped m (Dealer t) steps new g = absurd g
  sends_stopped m (Req t duty) steps new g = absurd g
  sends_stopped m (Rep ins duty) steps new g = absurd g
  sends_stopped m (Router r) steps new g = absurd g
  sends_stopped m (Pub p) steps new g = absurd g
  sends_stopped m (XPub p) steps new g = absurd g
  sends_stopped m (Sub s) steps new g = absurd g

-- ---- a receive
hearing_keeps : (p : Publisher) (steps : List PipeStep) (q : Publisher) → HeardSome p steps q ⊎ Hears p steps q → PublisherKeeps p q
hearing_keeps p steps q (inl (rs, g)) = heard_keeps 0 p rs steps q g
hearing_keeps p steps q (inr (rs, g)) = hears_keeps 0 p rs steps q g

receives_stopped : (old : Pattern) (steps : List PipeStep) (skips : List Skip) (kept : Option Kept) (new : Pattern) → StopsReceive old steps skips kept new → KeepsTheirs old new
receives_stopped (Req t duty) steps skips kept new (none, ins, drops, is) =
    kept_as (Req t duty) new (Req (record t { ins = ins }) duty) is (kept_req t ins duty (dropped_turned t.ins drops.dropped steps ins drops.drops.came))
receives_stopped (Rep ins duty) steps skips kept new (none, turns, drops, is) = kept_as (Rep ins duty) new (Rep turns duty) is (kept_rep ins turns duty (dropped_turned ins drops.dropped steps turns drops.drops.came))
receives_stopped (Router r) steps skips kept new (k, is, g) = record {
  peers = calls_keep_peers.receives (Router r) (record { steps = steps; skips = skips; answer = got.Got k.pair k.message; new = new }) g;
  drawn = calls_draw_none.receives (Router r) (record { steps = steps; skips = skips; answer = got.Got k.pair k.message; new = new }) g;
}
receives_stopped (XPub p) steps skips kept new (none, no_skips, q, g, is) = kept_as (XPub p) new (XPub q) is (kept_xpub p q (hearing_keeps p steps q g))
receives_stopped (Sub s) steps skips kept new (none, ins, drops, is) =
    kept_as (Sub s) new (Sub (record s { ins = ins })) is (kept_sub s (record s { ins = ins }) (record { turned = dropped_turned s.ins drops.dropped steps ins drops.drops.came; listed = refl }))
receives_stopped (Push outs) steps skips kept new g = absurd g
receives_stopped (Pull ins) steps skips kept new g = absurd g
receives_stopped (Pair t) steps skips kept new g = absurd g
receives_stopped (Dealer t) steps skips kept new g = absurd g
receives_stopped (Pub p) steps skips kept new g = absurd g
receives_stopped (XSub s) steps skips kept new g = absurd g

pub stops_keep_peers : StopsKeepPeers
stops_keep_peers = record { receives = receives_stopped; pumps = pumps_stopped; changes = changes_stopped; sends = sends_stopped }
