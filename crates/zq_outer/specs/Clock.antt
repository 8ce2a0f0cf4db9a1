-- The readings of a clock that ticks at each read (own choice).
use Rattle.std.specs.Prelude.{ℕ, ◌+◌, ◌-◌, ◌^◌, min, Option, Some, None}

-- the reading after this one, or the first
abbrev pub next_tick : Option ℕ → ℕ
next_tick None = 0
next_tick (Some last) = last + 1

-- the n-th of the readings after this one: each is one more, up to 2^64 - 1
abbrev pub tick_to_come : Option ℕ → ℕ → ℕ
tick_to_come last n = min (next_tick last + n) (2 ^ 64 - 1)
