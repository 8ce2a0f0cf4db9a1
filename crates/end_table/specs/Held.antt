-- The ends of one socket, each with halves of its own (own choice).
use Rattle.std.specs.Prelude.{◌≡◌, ◌≢◌, ℕ, Some, true, false}
use Rattle.msg_pipe.specs.Known.{Known, IsThere, IsElse}
use Rattle.end_table.specs.declared.row.EndRow.{EndRow}
use Rattle.end_table.specs.Rows.{Table, row_at}

module _ {S O I N : Type 0} (K : Known S O I N) where
  -- the pipes of an end are there, and it can be written only where it hasn't sealed
  pub record IsHeldAt (pipes : S) (row : EndRow O I) : Type 0 where
    pub out : IsThere K pipes (K.out_name row.out)
    pub input : IsThere K pipes (K.in_name row.input)
    pub unsealed : row.writable ≡ true → (K.writing pipes row.out).sealed ≡ false

  -- two ends of one socket are two, and their halves are of different pipes wherever names tell halves apart
  pub record AreTwo (a b : EndRow O I) : Type 0 where
    pub ends : a.end ≢ b.end
    pub outs : IsElse K (K.out_name a.out) (K.out_name b.out)
    pub ins : IsElse K (K.in_name a.input) (K.in_name b.input)

  pub record IsHeld (t : Table S O I) : Type 0 where
    pub each : (k : ℕ) (row : EndRow O I) → row_at t.rows k ≡ Some row → IsHeldAt t.pipes row
    pub two : (j k : ℕ) (a b : EndRow O I) → j ≢ k → row_at t.rows j ≡ Some a → row_at t.rows k ≡ Some b → AreTwo a b
