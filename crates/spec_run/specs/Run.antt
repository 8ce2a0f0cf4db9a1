-- What a run of a script is told beforehand (own choice).
use Rattle.std.specs.Prelude.{ℕ}

-- the seed of a run, and how many turns it may take
pub record Schedule : Type 0 where
  pub seed : ℕ
  pub turns : ℕ
