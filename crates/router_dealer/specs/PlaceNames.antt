-- The names of a ROUTER's peers, by their places (RFC 28, "The ROUTER Socket Type").
use Rattle.std.specs.Prelude.{◌≡◌, ℕ, List, [], ◌∷◌, map, filter, not, nat_eq, Option, Some, None, if◌then◌else◌}
use Rattle.std.specs.Str.{bytes_eq}
use Rattle.spec_pattern.specs.TurnList.{End}
use Rattle.spec_pattern.specs.Routing.{Names}

-- the place of a peer, and its name
pub record PlaceName : Type 0 where
  pub name : List ℕ
  pub place : ℕ

-- the names in the order of attachment, with the ends at their places
abbrev pub names_at : (ℕ → End) → List PlaceName → Names
names_at ends names = map (λ n. record { name = n.name; peer = ends n.place }) names

-- the place of the first peer of this name
abbrev pub place_named : List PlaceName → List ℕ → Option ℕ
place_named [] name = None
place_named (n ∷ ns) name = if bytes_eq name n.name then Some n.place else place_named ns name

-- the name of the first peer at this place
abbrev pub name_placed : List PlaceName → ℕ → Option (List ℕ)
name_placed [] place = None
name_placed (n ∷ ns) place = if nat_eq place n.place then Some n.name else name_placed ns place

-- no name and no place occurs twice
abbrev pub AreApart : List PlaceName → Type 0
AreApart [] = Unit {0}
AreApart (n ∷ ns) = (place_named ns n.name ≡ None) × (name_placed ns n.place ≡ None) × AreApart ns

-- the names but that of the peer at this place
abbrev pub without_name_at : ℕ → List PlaceName → List PlaceName
without_name_at place names = filter (λ n. not (nat_eq place n.place)) names

-- the names but the first that is this one
abbrev pub without_named : List ℕ → List PlaceName → List PlaceName
without_named name [] = []
without_named name (n ∷ ns) = if bytes_eq name n.name then ns else n ∷ without_named name ns
