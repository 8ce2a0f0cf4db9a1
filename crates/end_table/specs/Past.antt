-- Read exactly: the steps past of pipes whose looks are exact, by the names of pipes (own choice).
use Rattle.std.specs.Prelude.{◌≡◌, ℕ, List, [], Option, Some}
use Rattle.zq_base.specs.Ends.{PipeId}
use Rattle.spec_pattern.specs.PipeStep.{PipeStep, committed_to, taken_from, sealed_in, read_through, AreExact}
use Rattle.msg_pipe.specs.Known.{Known, IsThere}
use Rattle.end_table.specs.declared.row.EndRow.{EndRow}
use Rattle.end_table.specs.Rows.{Rows, row_at}

-- no two pipes go by one name
abbrev pub OneName : {N : Type 0} → (PipeId → Option N) → Type 0
OneName {N} goes = (p q : PipeId) (n : N) → goes p ≡ Some n → goes q ≡ Some n → p ≡ q

module _ {S O I N : Type 0} (K : Known S O I N) (goes : PipeId → Option N) (capacity : PipeId → ℕ) where
  -- the pipe of this name stands as the steps past left it
  pub record Stands (pipes : S) (past : List PipeStep) (p : PipeId) (n : N) : Type 0 where
    pub out : O
    pub input : I
    pub out_is : K.out_name out ≡ n
    pub in_is : K.in_name input ≡ n
    pub there : IsThere K pipes n
    pub committed : (K.writing pipes out).committed ≡ committed_to p past
    pub taken : (K.reading pipes input).taken ≡ taken_from p past
    pub capacity_is : (K.writing pipes out).capacity ≡ capacity p
    pub sealed_is : (K.writing pipes out).sealed ≡ sealed_in p past

  -- the steps past made the pipes that have a name what they are, and each of them was exact
  pub record IsPast (pipes : S) (past : List PipeStep) : Type 0 where
    pub stands : (p : PipeId) (n : N) → goes p ≡ Some n → Stands pipes past p n
    pub exact : AreExact capacity [] past

  -- the halves of each end are of the pipes that go by their names
  abbrev pub AreNamed : Rows O I → Type 0
  AreNamed rows = (k : ℕ) (row : EndRow O I) → row_at rows k ≡ Some row →
      (goes row.end ≡ Some (K.out_name row.out)) × (goes (read_through row.end) ≡ Some (K.in_name row.input))
