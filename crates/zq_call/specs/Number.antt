-- Numbers as the values of options.
use Rattle.std.specs.Prelude.{ℕ, List, Option, Some, None}
use Rattle.zq_base.specs.Number.{number_in}

-- the number that an option's value is, or its default where it isn't given
abbrev pub number_or : ℕ → ℕ → ℕ → Option (List ℕ) → Option ℕ
number_or default least most None = Some default
number_or default least most (Some word) = number_in least most word
