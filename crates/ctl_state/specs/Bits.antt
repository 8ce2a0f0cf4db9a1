-- Bits in a row of words, 64 in each (own choice).
use Rattle.std.specs.Prelude.{◌/◌, ◌%◌, ℕ, Bool, true, false, List, [], ◌∷◌, slice_index_or}
use Rattle.std.specs.Int.{bit_at}

-- the bit at a place
abbrev pub bit_in : List ℕ → ℕ → ℕ
bit_in words k = bit_at (slice_index_or words (k / 64) 0) (k % 64)

-- 1 where it is so
abbrev pub as_bit : Bool → ℕ
as_bit true = 1
as_bit false = 0

-- 1 where something is there
abbrev pub some_bit : {X : Type 0} → List X → ℕ
some_bit [] = 0
some_bit (x ∷ xs) = 1
