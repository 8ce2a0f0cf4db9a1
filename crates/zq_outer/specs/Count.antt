-- When a count of the outside rose (own choice: a count that reaches 2^64 - 1 stays there).
use Rattle.std.specs.Prelude.{◌≤◌, ◌+◌, ◌-◌, ◌^◌, ℕ, min}

-- a count rose, or stands at its last value
abbrev pub Rose : ℕ → ℕ → Type 0
Rose before now = min (before + 1) (2 ^ 64 - 1) ≤ now

-- a count doesn't fall, and it rose where this was answered
pub record RoseIf (before now : ℕ) (answered : Type 0) : Type 0 where
  pub kept : before ≤ now
  pub rose : answered → Rose before now
