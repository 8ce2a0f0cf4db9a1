-- Sources and sinks in memory: what they hold, and the plan by which their calls move octets or fail (own choice).
use Rattle.std.specs.Prelude.{ℕ, ◌+◌, ◌-◌, ◌^◌, List, [], ◌∷◌, min, max, Contains}

-- how many octets the next call moves at most: the first size, and all that fit where there is none
abbrev pub piece_size : List ℕ → ℕ → ℕ
piece_size [] room = room
piece_size (size ∷ sizes) room = max 1 (min size room)

-- the sizes of the calls after the next one: the last size goes on
abbrev pub sizes_after : List ℕ → List ℕ
sizes_after [] = []
sizes_after (size ∷ []) = size ∷ []
sizes_after (size ∷ next ∷ sizes) = next ∷ sizes

-- the numbers of the calls that fail, and how many calls were made
pub record Calls : Type 0 where
  pub fails : List ℕ
  pub made : ℕ

-- the number of the next call, from 1
abbrev pub next_call : Calls → ℕ
next_call calls = min (calls.made + 1) (2 ^ 64 - 1)

-- the next call fails
abbrev pub FailsNext : Calls → Type 0
FailsNext calls = Contains calls.fails (next_call calls)

-- the same plan after one call
abbrev pub after_call : Calls → Calls
after_call calls = record calls { made = next_call calls }

-- a source in memory: what is left, its plan, and how often it failed and ended
pub record Stored : Type 0 where
  pub left : List ℕ
  pub calls : Calls
  pub sizes : List ℕ
  pub faults : ℕ
  pub ends : ℕ

-- a sink in memory: what it took, its plan, and how often it failed
pub record Kept : Type 0 where
  pub taken : List ℕ
  pub calls : Calls
  pub sizes : List ℕ
  pub faults : ℕ

-- the same of a source that never fails
pub record SureStored : Type 0 where
  pub left : List ℕ
  pub sizes : List ℕ
  pub ends : ℕ

-- a sink that never fails: what it kept, and its plan
pub record SureKept : Type 0 where
  pub kept : List ℕ
  pub sizes : List ℕ
