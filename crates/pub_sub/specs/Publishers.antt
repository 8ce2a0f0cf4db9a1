-- A PUB or an XPUB by its places (RFC 29, "The PUB Socket Type", "The XPUB Socket Type").
use Rattle.std.specs.Prelude.{◌≡◌, ◌==◌, ◌&&◌, ◌||◌, ℕ, Bool, true, not, List, [], ◌∷◌, ◌++◌, Option, Some, None, map, nat_eq, if◌then◌else◌}
use Rattle.std.specs.Map.{keys_of}
use Rattle.zq_base.specs.Message.{Frames}
use Rattle.zq_base.specs.declared.ids.PairId.{PairId}
use Rattle.spec_pattern.specs.PipeStep.{PipeStep}
use Rattle.spec_pattern.specs.TurnList.{End}
use Rattle.spec_pattern.specs.Topics.{Topic, Subscribers, has_topic, is_full, others_have, topics_gone, with_peer, without_peer, after_add, after_cancel}
use Rattle.spec_pattern.specs.Publishing.{Saying, Adds, Cancels, Other, Notice, Publisher, saying_of, PubSends, with_subscriber, without_subscriber}
use Rattle.spec_pattern.specs.declared.answers.SendAnswer.{SendAnswer}
use Rattle.msg_pipe.specs.Turns.{without_place}
use Rattle.pub_sub.specs.Places.{subs_at, is_place, AreApart, TellsOf}
use Rattle.pub_sub.specs.Notes.{notice, cancel}

-- the turns of the peers, and their topics, in the order of their attachment; a message that came when memory wanted, with its place; what waits for the user; whether a user hears each add, and whether there is a user at all, as an XPUB's
pub record PubState : Type 0 where
  pub ins : List ℕ
  pub subs : Subscribers ℕ
  pub kept : Option (ℕ × Frames)
  pub inbox : List Notice
  pub verbose : Bool
  pub tells : Bool

-- the publisher over the ends at its places
abbrev pub publisher_at : (ℕ → End) → PubState → Publisher
publisher_at ends p =
    record { ins = map ends p.ins; subs = subs_at ends p.subs; inbox = p.inbox; verbose = p.verbose; tells = p.tells }

-- no peers, and nothing waits
abbrev pub no_subscribers : Bool → Bool → PubState
no_subscribers verbose tells =
    record { ins = []; subs = []; kept = None; inbox = []; verbose = verbose; tells = tells }

-- a further peer, without a topic
abbrev pub with_subscriber_at : ℕ → PubState → PubState
with_subscriber_at place p = record p { ins = p.ins ++ place ∷ []; subs = with_peer place p.subs }

-- what is kept of a peer goes with it
abbrev pub kept_without : ℕ → Option (ℕ × Frames) → Option (ℕ × Frames)
kept_without place None = None
kept_without place (Some k) = if k.0 == place then None else Some k

-- a peer goes, with its topics
abbrev pub without_subscriber_at : ℕ → PubState → PubState
without_subscriber_at place p = record p {
  ins = without_place place p.ins;
  subs = without_peer nat_eq place p.subs;
  kept = kept_without place p.kept;
}

-- the cancels of these topics, which a pair's peer had
abbrev pub cancels_of : PairId → List Topic → List Notice
cancels_of pair topics = map (λ t. notice pair (cancel t)) topics

-- a peer goes, and the user is told of the topics that nobody else has, in order
abbrev pub without_and_told : PairId → ℕ → PubState → PubState
without_and_told pair place p = record (without_subscriber_at place p) {
  inbox = p.inbox ++ cancels_of pair (topics_gone nat_eq p.subs place);
}

-- the peer at this place came, over the ends that are there
abbrev pub Attaches : (ℕ → End) → ℕ → PubState → PubState → Type 0
Attaches ends place p p' = publisher_at ends p' ≡ with_subscriber (ends place) (publisher_at ends p)

-- the peer at this place went, over the ends that are there, no two of which are the same
abbrev pub Detaches : (ℕ → End) → ℕ → PubState → PubState → Type 0
Detaches ends place p p' =
    AreApart ends (keys_of p.subs) → is_place (keys_of p.subs) place ≡ true
    → publisher_at ends p' ≡ without_subscriber (ends place) (publisher_at ends p)

-- ---- what a peer says

-- the subscriptions once the peer at this place said this
abbrev pub subs_after_at : ℕ → Saying → Subscribers ℕ → Subscribers ℕ
subs_after_at place (Adds topic) subs = after_add nat_eq place topic subs
subs_after_at place (Cancels topic) subs = after_cancel nat_eq place topic subs
subs_after_at place Other subs = subs

-- whether a user hears what the peer at this place said: one who hears each add, or news alone
abbrev pub is_news_at : Bool → Subscribers ℕ → ℕ → Saying → Bool
is_news_at verbose subs place (Adds topic) =
    not (has_topic nat_eq subs place topic || is_full nat_eq subs place) && (verbose || not (others_have nat_eq subs place topic))
is_news_at verbose subs place (Cancels topic) =
    has_topic nat_eq subs place topic && not (others_have nat_eq subs place topic)
is_news_at verbose subs place Other = true

-- what waits for the user once the peer at this place, of this pair, sent this
abbrev pub inbox_after_at : PairId → ℕ → Frames → PubState → List Notice
inbox_after_at pair place m p =
    if p.tells && is_news_at p.verbose p.subs place (saying_of m) then p.inbox ++ notice pair m ∷ [] else p.inbox

-- the publisher once the peer at this place, of this pair, said this
abbrev pub obeyed : PairId → ℕ → Frames → PubState → PubState
obeyed pair place m p = record p {
  subs = subs_after_at place (saying_of m) p.subs;
  kept = None;
  inbox = inbox_after_at pair place m p;
}

-- the publisher once it obeyed what it had to keep
abbrev pub resumed : (ℕ → End) → Option (ℕ × Frames) → PubState → PubState
resumed ends None p = p
resumed ends (Some k) p = obeyed (ends k.0).pair k.0 k.1 p

abbrev pub meant : (ℕ → End) → PubState → PubState
meant ends p = resumed ends p.kept p

-- the peers stay, and what the user asked to hear
pub record KeepsPeers (p p' : PubState) : Type 0 where
  pub peers : keys_of p'.subs ≡ keys_of p.subs
  pub verbose_is : p'.verbose ≡ p.verbose
  pub tells_is : p'.tells ≡ p.tells

-- ---- sending

-- the calls between the two states made the steps of a send of the publisher
pub record Publishes {S : Type 0} (runs : S → List PipeStep → S → Type 0) (ends : ℕ → End) (writable : ℕ → Bool) (m : Frames)
    (old new : S) (p : PubState) (answer : SendAnswer) : Type 0 where
  pub steps : List PipeStep
  pub runs_are : runs old steps new
  pub step : (can_write : End → Bool) → TellsOf can_write ends writable (keys_of p.subs) → AreApart ends (keys_of p.subs)
      → PubSends can_write m (publisher_at ends p) steps answer
