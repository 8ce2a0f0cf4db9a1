-- How a table of dropped messages goes on, and what a table and the steps past say of the rows of pipes (own choice).
use Rattle.std.specs.Prelude.{◌≡◌, ◌+◌, ◌==◌, ◌&&◌, ℕ, Bool, List, if◌then◌else◌, slice_index_or}
use Rattle.zq_base.specs.Ends.{PipeId}
use Rattle.spec_pattern.specs.declared.answers.Skip.{Skip}
use Rattle.spec_control.specs.Control.{Control}
use Rattle.spec_run.specs.OwnedRun.{AreCountedBy}
use Rattle.zq_world.specs.Piece.{Piece, pipe_steps}
use Rattle.core_laws.specs.Drops.{drops_at, drops_told}
use Rattle.core_laws.specs.Table.{drops_in}

-- the same counts
abbrev pub CountsAlike : (old new : List ℕ) → Type 0
CountsAlike old new = (k : ℕ) → slice_index_or new k 0 ≡ slice_index_or old k 0

-- one more at this place, where it is so
abbrev pub CountsOne : Bool → ℕ → (old new : List ℕ) → Type 0
CountsOne so place old new = (k : ℕ) → slice_index_or new k 0 ≡ slice_index_or old k 0 + (if so && (k == place) then 1 else 0)

-- what these drops of an object's call tell of each pipe
abbrev pub CountsTold : Control → (object : ℕ) → List Skip → (old new : List ℕ) → Type 0
CountsTold c o skips old new = (p : PipeId) → drops_in new p ≡ drops_in old p + drops_told c o p skips

module _ {N S : Type 0} where
  -- a table has what these calls dropped of each pipe, and they settled each pipe as it was settled
  pub record AreShownBy (c : Control) (drops : List ℕ) (pieces : List (Piece N S)) : Type 0 where
    pub dropped : (p : PipeId) → drops_in drops p ≡ drops_at p pieces
    pub counted : AreCountedBy (pipe_steps pieces) c.settlements
