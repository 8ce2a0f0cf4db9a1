-- One change of the pipe of an end, at the only place (own choice).
use Rattle.std.specs.Prelude.{◌≡◌, ◌++◌, ℕ, Bool, true, List, [], ◌∷◌, Some}
use Rattle.zq_base.specs.declared.ids.EndId.{EndId}
use Rattle.msg_pipe.specs.Known.{Known}
use Rattle.end_table.specs.declared.changes.PipeChange.{PipeChange}
use Rattle.end_table.specs.declared.changes.PipeChange.TheVariants.{Kept, Made, Sealed, SealedAgain, Parted, Settled}
use Rattle.end_table.specs.declared.table.Place.{Place}
use Rattle.end_table.specs.Halving.{StandsAt, WritesAt}
use Rattle.end_table.specs.Changes.{sealing_of, DoesChange}

module _ {N I : Type 0} where
  -- no pipe was made; what was done to one was done to that of an end that stood there, with its writing half where that was lent
  abbrev pub StoodFirst : {O : Type 0} → List (Place N I) → PipeChange O I → Type 0
  StoodFirst ps Kept = Unit {0}
  StoodFirst ps (Made e capacity halves) = ⊥
  StoodFirst ps (Sealed k e half) = WritesAt ps k
  StoodFirst ps (SealedAgain k e) = WritesAt ps k
  StoodFirst ps (Parted k e half) = WritesAt ps k
  StoodFirst ps (Settled k e) = StandsAt ps k

-- one change of the pipe of an end was noted, with the end at the only place; of what was to be sealed this
pub record ChangesOnce {N O I S : Type 0} (K : Known S O I N) (p : Place N I) (sealings : List (EndId × Bool)) (xs : List (PipeChange O I × S)) (old : S) (ys : List (PipeChange O I × S)) (new : S) : Type 0 where
  pub change : PipeChange O I
  pub noted : ys ≡ xs ++ (change, new) ∷ []
  pub does : DoesChange K (p ∷ []) change old new
  pub wrote : StoodFirst (p ∷ []) change
  pub sealings_are : sealing_of change ≡ sealings
