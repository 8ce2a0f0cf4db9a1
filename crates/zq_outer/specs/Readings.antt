-- What a clock tells at a moment, and the readings that it gave (own choice).
use Rattle.std.specs.Prelude.{◌≡◌, ◌≤◌, ◌<◌, ◌+◌, ℕ, List, [], ◌∷◌, length, Option, Some, slice_get, unwrap_or}
use Rattle.zq_outer.specs.Clock.{tick_to_come}

-- its last reading, and the n-th of those to come where it tells it
pub record ClockAt : Type 0 where
  pub last : ℕ
  pub to_come : ℕ → Option ℕ

abbrev pub clock_at : ℕ → (ℕ → Option ℕ) → ClockAt
clock_at last to_come = record { last = last; to_come = to_come }

-- a clock that ticks, behind this reading or before the first
abbrev pub tick_at : Option ℕ → ClockAt
tick_at last = clock_at (unwrap_or last 0) (λ n. Some (tick_to_come last n))

-- the last of these readings, or the one before them
abbrev pub last_of : ℕ → List ℕ → ℕ
last_of x [] = x
last_of x (y ∷ ys) = last_of y ys

-- A clock gave these readings, in order.
pub record ReadsClock (before : ClockAt) (readings : List ℕ) (after : ClockAt) : Type 0 where
  -- none is below the one before it
  pub rising : (n x y : ℕ) → slice_get (before.last ∷ readings) n ≡ Some x → slice_get readings n ≡ Some y → x ≤ y
  pub last_is : after.last ≡ last_of before.last readings
  -- those that were told to come are those that came
  pub told : (n x : ℕ) → n < length readings → before.to_come n ≡ Some x → slice_get readings n ≡ Some x
  pub next : (n : ℕ) → after.to_come n ≡ before.to_come (n + length readings)

-- it went on by some readings
abbrev pub GoesOn : ClockAt → ClockAt → Type 0
GoesOn before after = (readings : List ℕ) × ReadsClock before readings after
