-- Rows by place, after one of them was lent.
use Rattle.std.proofs.Common.{◌≡◌, ◌≢◌, ℕ, zero, suc, ◌<◌, [], ◌∷◌, length, set, Option, Some, None, refl, sym, ap, ◌∙◌, arith}
use Rattle.std.specs.Prelude.{Box, slice_index_or}
use Rattle.std.specs.declared.alloc.Global.{Global}
use Rattle.end_table.specs.declared.row.EndRow.{EndRow}
use Rattle.end_table.specs.Rows.{Rows, unboxed, row_at}

some_or : {A : Type 0} → A → Option A → A
some_or d (Some a) = a
some_or d None = d

pub some_same : {A : Type 0} (a b : A) → Some a ≡ Some b → a ≡ b
unfolding some_or
some_same a b e = ap (some_or a) e

module _ {O I : Type 0} where
  -- the row that was lent is back
  pub at_place : (rows : Rows O I) (place : ℕ) (row : EndRow O I) (b : Box (EndRow O I) Global) → row_at rows place ≡ Some row
      → row_at (set rows place (Some b)) place ≡ Some b.value
  at_place [] place row b here = cc
  at_place (x ∷ xs) zero row b here = refl
  at_place (x ∷ xs) (suc place) row b here = at_place xs place row b here

  -- all others are as they were
  pub at_else : (rows : Rows O I) (place k : ℕ) (b : Box (EndRow O I) Global) → k ≢ place
      → row_at (set rows place (Some b)) k ≡ row_at rows k
  at_else [] place k b ne = refl
  at_else (x ∷ xs) zero zero b ne = absurd (ne refl)
  at_else (x ∷ xs) zero (suc k) b ne = refl
  at_else (x ∷ xs) (suc place) zero b ne = refl
  at_else (x ∷ xs) (suc place) (suc k) b ne = at_else xs place k b (λ e. ne (ap suc e))

  -- a view of rows that the lent one keeps is kept everywhere
  pub view_kept : {V : Type 0} (view : Option (EndRow O I) → V) (rows : Rows O I) (place k : ℕ) (row : EndRow O I) (b : Box (EndRow O I) Global)
      → row_at rows place ≡ Some row → view (Some b.value) ≡ view (Some row) → view (row_at (set rows place (Some b)) k) ≡ view (row_at rows k)
  view_kept view [] place k row b here same = refl
  view_kept view (x ∷ xs) zero zero row b here same = same ∙ ap view (sym here)
  view_kept view (x ∷ xs) zero (suc k) row b here same = refl
  view_kept view (x ∷ xs) (suc place) zero row b here same = refl
  view_kept view (x ∷ xs) (suc place) (suc k) row b here same = view_kept view xs place k row b here same

  -- what the code finds at a place
  pub found_at : (rows : Rows O I) (place : ℕ) (x : Option (Box (EndRow O I) Global)) (row : EndRow O I)
      → x ≡ slice_index_or rows place x → row_at rows place ≡ Some row → unboxed x ≡ Some row
  found_at [] place x row e here = cc
  found_at (y ∷ ys) zero x row e here = ap unboxed e ∙ here
  found_at (y ∷ ys) (suc place) x row e here = found_at ys place x row e here

  pub place_within : (rows : Rows O I) (place : ℕ) (row : EndRow O I) → row_at rows place ≡ Some row → place < length rows
  place_within [] place row here = cc
  place_within (y ∷ ys) zero row here = omega arith
  place_within (y ∷ ys) (suc place) row here = let r = place_within ys place row here in omega (arith, r)
