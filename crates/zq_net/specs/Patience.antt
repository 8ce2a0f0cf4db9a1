-- How long a socket that isn't known to be ready is left alone (own choice).
use Rattle.std.specs.Prelude.{◌≡◌, ℕ, ◌==◌, if◌then◌else◌}

-- how many calls were left out since this many looks at all sockets had been made
pub record Skipped : Type 0 where
  pub calls : ℕ
  pub looks : ℕ

-- the calls that were left out since the last look: a look forgets those before it
abbrev pub skipped_since : Skipped → ℕ → ℕ
skipped_since s looks = if s.looks == looks then s.calls else 0

-- so many calls in a row are left out at most
abbrev pub most_skipped : ℕ
most_skipped = 31

-- the next call is made although nothing told of readiness
abbrev pub RunsOut : Skipped → ℕ → Type 0
RunsOut s looks = skipped_since s looks ≡ most_skipped
