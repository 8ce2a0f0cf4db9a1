-- Peers by their places, seen as the ends that are there (own choice).
use Rattle.std.specs.Prelude.{◌≡◌, ℕ, Bool, true, false, List, All, map, nat_eq}
use Rattle.std.specs.List.{list_any}
use Rattle.spec_pattern.specs.PipeStep.{same_pipe}
use Rattle.spec_pattern.specs.TurnList.{End}
use Rattle.spec_pattern.specs.Topics.{Subscribers}

-- the ends at these places, with their topics
abbrev pub subs_at : (ℕ → End) → Subscribers ℕ → Subscribers End
subs_at ends subs = map (λ s. (ends s.0, s.1)) subs

-- the place is one of these
abbrev pub is_place : List ℕ → ℕ → Bool
is_place places p = list_any (nat_eq p) places

-- these are other places than this one
abbrev pub AreOthers : ℕ → List ℕ → Type 0
AreOthers place places = All (λ other. nat_eq place other ≡ false) places

-- no two of these places have one end
abbrev pub AreApart : (ℕ → End) → List ℕ → Type 0
AreApart ends places = (p q : ℕ) → is_place places p ≡ true → is_place places q ≡ true → same_pipe (ends p) (ends q) ≡ nat_eq p q

-- the test says of the end at each of these places whether it can be written
abbrev pub TellsOf : (End → Bool) → (ℕ → End) → (ℕ → Bool) → List ℕ → Type 0
TellsOf can_write ends writable places = (p : ℕ) → is_place places p ≡ true → can_write (ends p) ≡ writable p
