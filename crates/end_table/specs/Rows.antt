-- The ends of a socket by place, and the pipes that they are lent with (own choice).
use Rattle.std.specs.Prelude.{◌≡◌, ℕ, List, Bool, true, false, Option, Some, None, Box, slice_index_or}
use Rattle.std.specs.declared.alloc.Global.{Global}
use Rattle.zq_base.specs.Ends.{PipeId}
use Rattle.end_table.specs.declared.row.EndRow.{EndRow}

-- rows by place, each in a box of its own
abbrev pub Rows : Type 0 → Type 0 → Type 0
Rows O I = List (Option (Box (EndRow O I) Global))

abbrev pub unboxed : {O I : Type 0} → Option (Box (EndRow O I) Global) → Option (EndRow O I)
unboxed None = None
unboxed (Some b) = Some b.value

-- pipes and rows
pub record Table (S O I : Type 0) : Type 0 where
  pub pipes : S
  pub rows : Rows O I

abbrev pub table : {S O I : Type 0} → S → Rows O I → Table S O I
table pipes rows = record { pipes = pipes; rows = rows }

-- the row at a place
abbrev pub row_at : {O I : Type 0} → Rows O I → ℕ → Option (EndRow O I)
row_at rows place = unboxed (slice_index_or rows place None)

-- an end is at the place
abbrev pub IsRow : {O I : Type 0} → Rows O I → ℕ → Type 0
IsRow {O} {I} rows place = (row : EndRow O I) × (row_at rows place ≡ Some row)

-- its end; where nothing is, no pair's
abbrev pub end_of : {O I : Type 0} → Option (EndRow O I) → PipeId
end_of None = record { pair = record { 0 = 0 }; a = true }
end_of (Some row) = row.end

abbrev pub can_write_of : {O I : Type 0} → Option (EndRow O I) → Bool
can_write_of None = false
can_write_of (Some row) = row.writable
