-- Who subscribed to what (RFC 29, "The PUB Socket Type" and "The XPUB Socket Type"): a message goes to each subscriber of which a topic is a prefix of the message's first frame. The most topics of a subscriber are an own choice.
use Rattle.std.specs.Prelude.{◌<◌, ℕ, Bool, not, ◌&&◌, ◌||◌, List, [], ◌∷◌, ◌++◌, length, filter, nat_eq, nat_le, if◌then◌else◌}
use Rattle.std.specs.List.{list_any, starts_with}
use Rattle.std.specs.List.Sorted.{IsStrictlySortedBy}
use Rattle.std.specs.Map.{keys_of, lookup, set_value, remove_entry}
use Rattle.std.specs.Option.{unwrap_or}
use Rattle.std.specs.Ordering.{nat_cmp}
use Rattle.std.specs.declared.cmp.Ordering.{Ordering}
use Rattle.std.specs.Cmp.Lexicographic.{slice_cmp}
use Rattle.std.specs.Str.{bytes_eq}
use Rattle.std.specs.BTreeSet.{insert_key}
use Rattle.zq_base.specs.Message.{max_octets}
use Rattle.std.specs.Set.{remove_key}

-- ---- topics

-- the octets that a message's first frame begins with
abbrev pub Topic : Type 0
Topic = List ℕ

-- a topic leaves room in a frame for the octet before it
abbrev pub IsTopic : Topic → Type 0
IsTopic topic = length topic < max_octets

-- the order of topics is that of their octets
abbrev pub topic_cmp : Topic → Topic → Ordering
topic_cmp s t = slice_cmp nat_cmp s t

-- the topics are in order, each once
abbrev pub AreInOrder : List Topic → Type 0
AreInOrder topics = IsStrictlySortedBy topic_cmp topics

-- the topic is one of these
abbrev pub is_among : List Topic → Topic → Bool
is_among topics t = list_any (bytes_eq t) topics

-- the topics with one more, in its place
abbrev pub with_topic : Topic → List Topic → List Topic
with_topic t topics = insert_key topic_cmp topics t

-- the topics without this one
abbrev pub without_topic : Topic → List Topic → List Topic
without_topic t topics = remove_key (bytes_eq t) topics

-- one of the topics is a prefix of the octets
abbrev pub matches : List Topic → List ℕ → Bool
matches topics octets = list_any (λ t. starts_with nat_eq octets t) topics

-- the most topics of a subscriber
abbrev pub max_topics : ℕ
max_topics = 65536

-- ---- subscribers

-- peers with their topics, in the order in which they came; a peer stands once, its topics in order
abbrev pub Subscribers : Type 0 → Type 0
Subscribers X = List (X × List Topic)

-- a peer came, without a topic
abbrev pub with_peer : {X : Type 0} → X → Subscribers X → Subscribers X
with_peer p subs = subs ++ (p, []) ∷ []

module _ {X : Type 0} (same : X → X → Bool) where
  -- the peer's topics
  abbrev pub topics_of : Subscribers X → X → List Topic
  topics_of subs p = unwrap_or (lookup (same p) subs) []

  -- the peer has the topic
  abbrev pub has_topic : Subscribers X → X → Topic → Bool
  has_topic subs p t = is_among (topics_of subs p) t

  -- a peer other than this one has the topic
  abbrev pub others_have : Subscribers X → X → Topic → Bool
  others_have subs p t = list_any (λ q. not (same p q) && has_topic subs q t) (keys_of subs)

  -- the peer has as many topics as it may
  abbrev pub is_full : Subscribers X → X → Bool
  is_full subs p = nat_le max_topics (length (topics_of subs p))

  -- the peer went
  abbrev pub without_peer : X → Subscribers X → Subscribers X
  without_peer p subs = remove_entry (same p) subs

  -- the peer subscribed to the topic, which adds nothing where it has it, or as many as it may
  abbrev pub after_add : X → Topic → Subscribers X → Subscribers X
  after_add p t subs =
      if has_topic subs p t || is_full subs p then subs else set_value (same p) subs (with_topic t (topics_of subs p))

  -- the peer cancelled the topic
  abbrev pub after_cancel : X → Topic → Subscribers X → Subscribers X
  after_cancel p t subs = set_value (same p) subs (without_topic t (topics_of subs p))

  -- the topics that go with the peer, since nobody else has them, in order
  abbrev pub topics_gone : Subscribers X → X → List Topic
  topics_gone subs p = filter (λ t. not (others_have subs p t)) (topics_of subs p)

  -- the peers that have a topic which is a prefix of the octets, in their order
  abbrev pub matching : Subscribers X → List ℕ → List X
  matching subs octets = filter (λ p. matches (topics_of subs p) octets) (keys_of subs)
