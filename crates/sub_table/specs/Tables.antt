-- How a table of topics is kept: each peer's topics, and each topic's peers, which say the same (own choice).
use Rattle.std.specs.Prelude.{◌≡◌, ◌∷◌, ℕ, List, nat_eq}
use Rattle.std.specs.List.Sorted.{IsStrictlySortedBy}
use Rattle.std.specs.Map.{keys_of, set_value}
use Rattle.std.specs.Ordering.{nat_cmp}
use Rattle.spec_pattern.specs.Topics.{Topic, Subscribers, AreInOrder, topics_of, has_topic, topics_gone}
use Rattle.sub_table.specs.Lengths.{AreLengths}
use Rattle.sub_table.specs.View.{holds}

-- a topic's peers are those that have it, and peers stand in the order of their numbers
pub record AreTied (subs : Subscribers ℕ) (held : List (Topic × List ℕ)) : Type 0 where
  pub same : (t : Topic) (p : ℕ) → holds held t p ≡ has_topic nat_eq subs p t
  pub order : IsStrictlySortedBy nat_cmp (keys_of subs)

-- only the peer's topics change
abbrev pub ChangesOnly : ℕ → Subscribers ℕ → Subscribers ℕ → Type 0
ChangesOnly peer old new = new ≡ set_value (nat_eq peer) old (topics_of nat_eq new peer)

-- the first of the peer's topics is taken out
pub record TakesFirst (peer : ℕ) (topic : Topic) (old new : Subscribers ℕ) : Type 0 where
  pub first : topics_of nat_eq old peer ≡ topic ∷ topics_of nat_eq new peer
  pub only : ChangesOnly peer old new

-- the next topic that goes with the peer is taken out, and those before it, which others have
pub record TakesGone (peer : ℕ) (topic : Topic) (old new : Subscribers ℕ) : Type 0 where
  pub gone : topics_gone nat_eq old peer ≡ topic ∷ topics_gone nat_eq new peer
  pub only : ChangesOnly peer old new

-- topics stand in order, and these are the counts of their lengths
pub record AreCounts {X : Type 0} (entries : List (Topic × X)) (counts : List (ℕ × ℕ)) : Type 0 where
  pub lengths : AreLengths (keys_of entries) counts
  pub order : AreInOrder (keys_of entries)
