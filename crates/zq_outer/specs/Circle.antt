-- Octets that are given over and over (own choice).
use Rattle.std.specs.Prelude.{ℕ, List, length, drop, ◌==◌, if◌then◌else◌}

-- all of them, and those before they begin anew
pub record Circle : Type 0 where
  pub all : List ℕ
  pub rest : List ℕ

-- so many of those before the end were given
abbrev pub after_part : ℕ → Circle → Circle
after_part n c = record c { rest = if n == length c.rest then c.all else drop n c.rest }
