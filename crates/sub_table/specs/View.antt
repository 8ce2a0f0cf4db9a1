-- How topics that are kept in trees are seen as lists in order (own choice).
use Rattle.std.specs.Prelude.{◌≡◌, ◌&&◌, ◌||◌, ℕ, Bool, not, List, [], map, nat_eq}
use Rattle.std.specs.List.{list_any}
use Rattle.std.specs.Map.{lookup}
use Rattle.std.specs.Option.{unwrap_or}
use Rattle.std.specs.Str.{bytes_eq}
use Rattle.std.specs.declared.vec.Vec.{Vec}
use Rattle.spec_pattern.specs.Topics.{Topic}

module _ {A X : Type 0} where
  -- each topic's octets, with what is kept of it
  abbrev pub entries_of : List (Vec ℕ A × X) → List (Topic × X)
  entries_of entries = map (λ e. (e.0.items, e.1)) entries

module _ {A : Type 0} where
  -- each topic's octets
  abbrev pub topics_in : List (Vec ℕ A) → List Topic
  topics_in keys = map (λ k. k.items) keys

-- peers by topic: the peers of the topic
abbrev pub holders_of : List (Topic × List ℕ) → Topic → List ℕ
holders_of holders t = unwrap_or (lookup (bytes_eq t) holders) []

-- the peer is one of them
abbrev pub is_peer : List ℕ → ℕ → Bool
is_peer peers p = list_any (nat_eq p) peers

-- the topic's peers have this one among them
abbrev pub holds : List (Topic × List ℕ) → Topic → ℕ → Bool
holds holders t p = is_peer (holders_of holders t) p

-- the peer has the topic beside what was held before
abbrev pub Gains : Topic → ℕ → List (Topic × List ℕ) → List (Topic × List ℕ) → Type 0
Gains topic peer old new =
    (t : Topic) (q : ℕ) → holds new t q ≡ ((bytes_eq topic t && nat_eq peer q) || holds old t q)

-- the peer has the topic no longer, and all else that was held before is
abbrev pub Loses : Topic → ℕ → List (Topic × List ℕ) → List (Topic × List ℕ) → Type 0
Loses topic peer old new =
    (t : Topic) (q : ℕ) → holds new t q ≡ (not (bytes_eq topic t && nat_eq peer q) && holds old t q)
