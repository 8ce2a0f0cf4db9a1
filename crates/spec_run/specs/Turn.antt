-- In which order the workers take their steps in a turn (own choice). The seed 0 keeps one order; another seed draws it anew for each turn.
use Rattle.std.specs.Prelude.{◌≡◌, ◌≢◌, ◌⊎◌, ◌+◌, ◌*◌, ◌/◌, ◌%◌, ◌^◌, ℕ, List, [], ◌∷◌, Some, length, slice_get}
use Rattle.std.specs.List.{remove}

-- the number behind x
abbrev pub next_number : ℕ → ℕ
next_number x = (x * 6364136223846793005 + 1442695040888963407) % (2 ^ 64)

-- of so many, the one that the number chooses, from 0
abbrev pub choice : ℕ → ℕ → ℕ
choice x count = (x / (2 ^ 33)) % count

-- Of the workers left, one after another is chosen, each by the next number; the last number drawn is `after`.
abbrev pub Chooses : ℕ → List ℕ → List ℕ → ℕ → Type 0
Chooses x left [] after = (left ≡ []) × (after ≡ x)
Chooses x left (w ∷ ws) after =
    (slice_get left (choice (next_number x) (length left)) ≡ Some w)
    × Chooses (next_number x) (remove left (choice (next_number x) (length left))) ws after

-- the order of a turn, where the last number drawn is x
abbrev pub IsOrder : ℕ → ℕ → List ℕ → List ℕ → ℕ → Type 0
IsOrder seed x workers order after =
    ((seed ≡ 0) × (order ≡ workers) × (after ≡ x))
    ⊎ ((seed ≢ 0) × Chooses x workers order after)
