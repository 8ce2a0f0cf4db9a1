-- How many topics there are of each length (own choice).
use Rattle.std.specs.Prelude.{◌≡◌, ◌+◌, ◌-◌, ◌≤◌, ◌<◌, ℕ, List, [], ◌∷◌, cond, length, nat_eq}
use Rattle.std.specs.Map.{lookup}
use Rattle.std.specs.Option.{unwrap_or}
use Rattle.spec_pattern.specs.Topics.{Topic}

-- how many of the topics are so long
abbrev pub so_long : ℕ → List Topic → ℕ
so_long n [] = 0
so_long n (t ∷ ts) = cond (nat_eq (length t) n) 1 0 + so_long n ts

-- how many of this length were counted
abbrev pub number_of : List (ℕ × ℕ) → ℕ → ℕ
number_of counts n = unwrap_or (lookup (nat_eq n) counts) 0

-- these are the counts of these topics
abbrev pub AreLengths : List Topic → List (ℕ × ℕ) → Type 0
AreLengths topics counts = (n : ℕ) → number_of counts n ≡ so_long n topics

-- one more of this length, or one less
abbrev pub OneMore : ℕ → List (ℕ × ℕ) → List (ℕ × ℕ) → Type 0
OneMore l old new = (n : ℕ) → number_of new n ≡ cond (nat_eq l n) 1 0 + number_of old n

abbrev pub OneLess : ℕ → List (ℕ × ℕ) → List (ℕ × ℕ) → Type 0
OneLess l old new = (n : ℕ) → number_of new n ≡ number_of old n - cond (nat_eq l n) 1 0

-- none of the lengths from one to below another was counted
abbrev pub NoneBetween : ℕ → ℕ → List (ℕ × ℕ) → Type 0
NoneBetween from end counts = (n : ℕ) → from ≤ n → n < end → number_of counts n ≡ 0
