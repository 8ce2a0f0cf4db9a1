-- The ends of a socket that read on to their delimiters, from a place in the order of attachment on (own choice).
use Rattle.std.specs.Prelude.{◌≡◌, ◌+◌, ◌<◌, ◌^◌, ℕ, List, [], ◌∷◌, Option, Some, None}
use Rattle.zq_base.specs.declared.ids.EndId.{EndId}
use Rattle.line_calls.specs.declared.found.Found.{Found}
use Rattle.line_calls.specs.declared.found.Found.TheVariants.{Letter, Nothing}
use Rattle.line_calls.specs.declared.found.Reader.{Reader}

-- this one is the first of them from its place on
abbrev pub ReadsOnAt : (reading : ℕ → List EndId) → Reader → Type 0
ReadsOnAt reading at = reading at.place ≡ at.end ∷ reading (at.place + 1)

-- the first of them from this place on, if any
abbrev pub IsNextReader : (reading : ℕ → List EndId) → ℕ → Option Reader → Type 0
IsNextReader reading n None = reading n ≡ []
IsNextReader reading n (Some at) = (at.place + 1 < 2 ^ 64) × (reading n ≡ reading at.place) × ReadsOnAt reading at

-- an end that a letter leaves to read on is one of them
abbrev pub LeavesReader : (reading : ℕ → List EndId) → Found → Type 0
LeavesReader reading (Letter None) = Unit {0}
LeavesReader reading (Letter (Some at)) = ReadsOnAt reading at
LeavesReader reading Nothing = Unit {0}

-- they stay
abbrev pub ReadingStays : (old new : ℕ → List EndId) → Type 0
ReadingStays old new = (n : ℕ) → new n ≡ old n
