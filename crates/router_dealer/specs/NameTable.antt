-- How the tables of a ROUTER are seen: the names in order, the name of each place, and the message that is kept (own choice).
use Rattle.std.specs.Prelude.{◌≡◌, ◌≤◌, ℕ, Bool, List, [], ◌∷◌, map, length, Option, Some, nat_eq}
use Rattle.std.specs.Option.{option_map}
use Rattle.std.specs.Map.{lookup}
use Rattle.std.specs.declared.vec.Vec.{Vec}
use Rattle.zq_base.specs.Message.{Frames}
use Rattle.zq_base.specs.declared.ids.PairId.{PairId}
use Rattle.router_dealer.specs.PlaceNames.{PlaceName, AreApart, place_named, name_placed}
use Rattle.router_dealer.specs.Named.{Kept, RouterState, IsRouter}

module _ {A : Type 0} where
  -- the names that the entries are, in their order
  abbrev pub names_of : List (Vec ℕ A × ℕ) → List PlaceName
  names_of entries = map (λ e. record { name = e.0.items; place = e.1 }) entries

-- the name that the entries have at a place
abbrev pub name_at : List (ℕ × List ℕ) → ℕ → Option (List ℕ)
name_at entries place = lookup (nat_eq place) entries

-- no name and no place occurs twice, and the names by their places are the same
pub record IsNameTable (names : List PlaceName) (name_of : ℕ → Option (List ℕ)) : Type 0 where
  pub apart : AreApart names
  pub told : (place : ℕ) → name_of place ≡ name_placed names place

-- a message that may be kept, and for how long a name there is room
pub record HeldState : Type 0 where
  pub kept : Option Kept
  pub room : ℕ

-- the message that these are, with its pair and behind its name
abbrev pub kept_of : List ℕ → Option (PairId × Frames) → Option Kept
kept_of name rest = option_map (λ p. record { pair = p.0; message = name ∷ p.1 }) rest

-- the state that these are
abbrev pub state_of : List ℕ → List PlaceName → ℕ → Bool → Option Kept → RouterState
state_of ins names drawn mandatory kept = record { ins = ins; names = names; drawn = drawn; mandatory = mandatory; kept = kept }

-- there is room for each name
abbrev pub HasRoom : ℕ → List PlaceName → Type 0
HasRoom room names = (name : List ℕ) (place : ℕ) → place_named names name ≡ Some place → length name ≤ room

-- the state is a ROUTER's, and what is kept ready is empty and has room
pub record IsReady (r : RouterState) (room : ℕ) (back : List (List ℕ)) : Type 0 where
  pub router : IsRouter r
  pub has_room : HasRoom room r.names
  pub no_frames : back ≡ []
