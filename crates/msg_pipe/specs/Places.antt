-- Ends by place, before and after a call (own choice).
use Rattle.std.specs.Prelude.{◌≡◌, ℕ, Bool}
use Rattle.zq_base.specs.Ends.{PipeId}

-- each end is where it was, and can be written as before
pub record KeepsPlaces {S : Type 0} (here : S → ℕ → Type 0) (end_at : S → ℕ → PipeId) (writable : S → ℕ → Bool) (old new : S) : Type 0 where
  pub stay : (k : ℕ) → here old k → here new k
  pub ends : end_at new ≡ end_at old
  pub states : writable new ≡ writable old
