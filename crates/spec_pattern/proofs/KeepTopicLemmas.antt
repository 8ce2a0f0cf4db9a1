-- What publishers hear and subscribers tell keeps their peers, in the order of their attachment.
use Rattle.std.proofs.Common.{◌≡◌, ◌∙◌, inl, inr, ℕ, suc, List, [], ◌∷◌, Bool, true, false, ◌||◌, IsPermutation, cond, length, nat_le, refl, ap, if◌then◌else◌}
use Rattle.std.specs.Map.{keys_of, set_value}
use Rattle.std.proofs.lemmas.List.Sorted.{IsPermutation-trans}
use Rattle.zq_base.specs.Message.{Frames, max_committed}
use Rattle.spec_pattern.specs.PipeStep.{PipeStep, same_pipe}
use Rattle.spec_pattern.specs.TurnList.{End}
use Rattle.spec_pattern.specs.Drops.{Round}
use Rattle.spec_pattern.specs.Topics.{Topic, Subscribers, with_topic, without_topic, topics_of, has_topic, is_full}
use Rattle.spec_pattern.specs.Wanted.{Wanted, wants, with_one_more, with_one_less}
use Rattle.spec_pattern.specs.Publishing.{Saying, Adds, Cancels, Other, saying_of, subs_after, Publisher, Notice, heard, stops_hearing, EndsHearing, HearsFrom, GivesFirst, XPubReceivesWhere}
use Rattle.spec_pattern.specs.Subscribing.{Subscriber, SubAnswer, TellsAll, Tells, TellsWanted, is_refused, SubscribesWhere, UnsubscribesWhere, AsSent, XSubSays, XSubSendsWhere, XSubSends}
use Rattle.spec_pattern.specs.PatternCalls.{Change, Subscribe, Unsubscribe, Changes}
use Rattle.spec_pattern.specs.declared.answers.SendAnswer.{SendAnswer}
use Rattle.spec_pattern.specs.declared.answers.RecvAnswer.{RecvAnswer}
use Rattle.spec_pattern.proofs.KeepLemmas.{stays, comes_turned}

-- a publisher, and a subscriber, keeps its peers
pub record PublisherKeeps (old new : Publisher) : Type 0 where
  pub turned : IsPermutation old.ins new.ins
  pub listed : keys_of new.subs ≡ keys_of old.subs

pub record SubscriberKeeps (old new : Subscriber) : Type 0 where
  pub turned : IsPermutation old.ins new.ins
  pub listed : keys_of new.followers ≡ keys_of old.followers

publisher_same : (old new : Publisher) → new ≡ old → PublisherKeeps old new
publisher_same old new same = record { turned = stays old.ins new.ins (ap (λ (p : Publisher). p.ins) same); listed = ap (λ (p : Publisher). keys_of p.subs) same }

subscriber_same : (old new : Subscriber) → new ≡ old → SubscriberKeeps old new
subscriber_same old new same = record { turned = stays old.ins new.ins (ap (λ (s : Subscriber). s.ins) same); listed = ap (λ (s : Subscriber). keys_of s.followers) same }

-- ---- hearing

keys_set : (test : End → Bool) (subs : Subscribers End) (topics : List Topic) → keys_of (set_value test subs topics) ≡ keys_of subs
keys_set test [] topics = refl
keys_set test (s ∷ subs) topics = by (test s.0) (keys_set test subs topics)
  where
    by : (b : Bool) → keys_of (set_value test subs topics) ≡ keys_of subs → keys_of (cond b ((s.0, topics) ∷ subs) (s ∷ set_value test subs topics)) ≡ s.0 ∷ keys_of subs
    by true same = refl
    by false same = ap (λ l. s.0 ∷ l) same

keys_after : (e : End) (saying : Saying) (subs : Subscribers End) → keys_of (subs_after e saying subs) ≡ keys_of subs
keys_after e (Adds topic) subs = by (has_topic same_pipe subs e topic || is_full same_pipe subs e)
  where
    by : (b : Bool) → keys_of (if b then subs else set_value (same_pipe e) subs (with_topic topic (topics_of same_pipe subs e))) ≡ keys_of subs
    by true = refl
    by false = keys_set (same_pipe e) subs (with_topic topic (topics_of same_pipe subs e))
keys_after e (Cancels topic) subs = keys_set (same_pipe e) subs (without_topic topic (topics_of same_pipe subs e))
keys_after e Other subs = refl

ends_keeps : (stops : Bool) (p : Publisher) (steps : List PipeStep) (new : Publisher) → EndsHearing stops p steps new → PublisherKeeps p new
ends_keeps true p steps new g = publisher_same p new g.1
ends_keeps false p steps new (turns, none, is) = record {
  turned = stays p.ins new.ins (ap (λ (q : Publisher). q.ins) is ∙ none.new_is);
  listed = ap (λ (q : Publisher). keys_of q.subs) is;
}

pub hears_keeps : (count : ℕ) (p : Publisher) (rs : List Round) (steps : List PipeStep) (new : Publisher) → HearsFrom count p rs steps new → PublisherKeeps p new
hears_keeps count p [] steps new g = ends_keeps (stops_hearing count p) p steps new g
hears_keeps count p (r ∷ rs) steps new (on, turns, first, rest, comes, others, whole) =
    let more = hears_keeps (suc count) (heard r turns p) rs rest new others in
    record {
      turned = IsPermutation-trans p.ins turns new.ins (comes_turned p.ins r first turns comes) more.turned;
      listed = more.listed ∙ keys_after r.peer (saying_of r.message) p.subs;
    }

gives_keeps : (count : ℕ) (p : Publisher) (ns : List Notice) (answer : RecvAnswer) (new : Publisher) → GivesFirst count p ns answer new → PublisherKeeps p new
gives_keeps count p [] answer new g = publisher_same p new g.1
gives_keeps count p (n ∷ ns) answer new g = record { turned = stays p.ins new.ins (ap (λ (q : Publisher). q.ins) g.1); listed = ap (λ (q : Publisher). keys_of q.subs) g.1 }

pub notice_keeps : (ns : List Notice) (p : Publisher) (steps : List PipeStep) (answer : RecvAnswer) (new : Publisher) → XPubReceivesWhere ns p steps answer new → PublisherKeeps p new
notice_keeps [] p steps answer new (rs, mid, hears, gives) =
    let one = hears_keeps 0 p rs steps mid hears in
    let two = gives_keeps (length rs) mid mid.inbox answer new gives in
    record { turned = IsPermutation-trans p.ins mid.ins new.ins one.turned two.turned; listed = two.listed ∙ one.listed }
notice_keeps (n ∷ ns) p steps answer new g = gives_keeps 0 p (n ∷ ns) answer new g.1

-- ---- telling

tells_keys : (w : End → Bool) (wanted : Wanted) (fs : Subscribers End) (steps : List PipeStep) (new : Subscribers End) → TellsAll w wanted fs steps new → keys_of new ≡ keys_of fs
tells_keys w wanted [] steps new g = ap keys_of g.1
tells_keys w wanted (f ∷ fs) steps new (told, others, first, rest, one, on, whole, is) = ap keys_of is ∙ ap (λ l. f.0 ∷ l) (tells_keys w wanted fs rest others on)

pub tells_keeps : (w : End → Bool) (s : Subscriber) (steps : List PipeStep) (new : Subscriber) → Tells w s steps new → SubscriberKeeps s new
tells_keeps w s steps new g = record {
  turned = stays s.ins new.ins (ap (λ (t : Subscriber). t.ins) g.new_is);
  listed = ap (λ (t : Subscriber). keys_of t.followers) g.new_is ∙ tells_keys w s.wanted s.followers steps g.followers g.tells;
}

wanted_keeps : (w : End → Bool) (wanted : Wanted) (s : Subscriber) (steps : List PipeStep) (new : Subscriber) → TellsWanted w wanted s steps new → SubscriberKeeps s new
wanted_keeps w wanted s steps new g =
    let one = tells_keeps w (record s { wanted = wanted }) steps new g in
    record { turned = one.turned; listed = one.listed }

subscribes_keeps : (refused : Bool) (w : End → Bool) (topic : Topic) (s : Subscriber) (steps : List PipeStep) (answer : SubAnswer) (new : Subscriber) → SubscribesWhere refused w topic s steps answer new → SubscriberKeeps s new
subscribes_keeps true w topic s steps answer new g = subscriber_same s new g.2
subscribes_keeps false w topic s steps answer new g = wanted_keeps w (with_one_more topic s.wanted) s steps new g.1

unsubscribes_keeps : (wanted : Bool) (w : End → Bool) (topic : Topic) (s : Subscriber) (steps : List PipeStep) (answer : SubAnswer) (new : Subscriber) → UnsubscribesWhere wanted w topic s steps answer new → SubscriberKeeps s new
unsubscribes_keeps true w topic s steps answer new g = wanted_keeps w (with_one_less topic s.wanted) s steps new g.1
unsubscribes_keeps false w topic s steps answer new g = subscriber_same s new g.2

pub changes_keeps : (change : Change) (w : End → Bool) (topic : Topic) (s : Subscriber) (steps : List PipeStep) (answer : SubAnswer) (new : Subscriber) → Changes change w topic s steps answer new → SubscriberKeeps s new
changes_keeps Subscribe w topic s steps answer new g = subscribes_keeps (is_refused s.wanted topic) w topic s steps answer new g
changes_keeps Unsubscribe w topic s steps answer new g = unsubscribes_keeps (wants s.wanted topic) w topic s steps answer new g

as_keeps : (P : SubAnswer → Type 0) (old new : Subscriber) (answer : SendAnswer) → ((a : SubAnswer) → P a → SubscriberKeeps old new) → AsSent P answer → SubscriberKeeps old new
as_keeps P old new answer keeps (inl (done, is)) = keeps _ done
as_keeps P old new answer keeps (inr (inl (limit, is))) = keeps _ limit
as_keeps P old new answer keeps (inr (inr (none, is))) = keeps _ none

says_keeps : (saying : Saying) (w : End → Bool) (m : Frames) (s : Subscriber) (steps : List PipeStep) (answer : SendAnswer) (new : Subscriber) → XSubSays saying w m s steps answer new → SubscriberKeeps s new
says_keeps (Adds topic) w m s steps answer new g = as_keeps (λ a. Changes Subscribe w topic s steps a new) s new answer (λ a. changes_keeps Subscribe w topic s steps a new) g
says_keeps (Cancels topic) w m s steps answer new g = as_keeps (λ a. Changes Unsubscribe w topic s steps a new) s new answer (λ a. changes_keeps Unsubscribe w topic s steps a new) g
says_keeps Other w m s steps answer new g = subscriber_same s new g.1

says_where : (fits : Bool) (w : End → Bool) (m : Frames) (s : Subscriber) (steps : List PipeStep) (answer : SendAnswer) (new : Subscriber) → XSubSendsWhere fits w m s steps answer new → SubscriberKeeps s new
says_where true w m s steps answer new g = says_keeps (saying_of m) w m s steps answer new g
says_where false w m s steps answer new g = subscriber_same s new g.2

pub xsub_keeps : (w : End → Bool) (m : Frames) (s : Subscriber) (steps : List PipeStep) (answer : SendAnswer) (new : Subscriber) → XSubSends w m s steps answer new → SubscriberKeeps s new
xsub_keeps w m s steps answer new g = says_where (nat_le (length m) max_committed) w m s steps answer new g
