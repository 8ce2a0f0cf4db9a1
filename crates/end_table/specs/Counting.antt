-- What joining the halves of a pipe tells, of which the reading half is an end's (own choice, after libzmq's `pipe_t`).
use Rattle.std.specs.Prelude.{◌≡◌, ◌-◌, ℕ, Option, Some, None, length, position}
use Rattle.zq_base.specs.declared.ids.EndId.{EndId}
use Rattle.zq_base.specs.declared.ids.Settled.{Settled}
use Rattle.spec_pattern.specs.Half.{Writing, Reading}
use Rattle.msg_pipe.specs.Known.{Known}
use Rattle.end_table.specs.declared.row.EndRow.{EndRow}
use Rattle.end_table.specs.Rows.{row_at}
use Rattle.end_table.specs.declared.table.Place.{Place}
use Rattle.end_table.specs.declared.table.EndTable.{EndTable}
use Rattle.end_table.specs.Places.{place_at, is_of}

-- the messages committed and taken, and those that are left
abbrev pub counted : Writing → Reading → Settled
counted v r = record { sent = length v.committed; got = length r.taken; rest = length v.committed - length r.taken }

module _ {N O I : Type 0} where
  -- the reading half of an end stands in its row, or at its place once the writing half is gone
  abbrev pub half_at : Option (EndRow O I) → Option (Place N I) → Option I
  half_at (Some row) p = Some row.input
  half_at None (Some p) = p.input
  half_at None None = None

  abbrev pub half_in : EndTable N O I → ℕ → Option I
  half_in t k = half_at (row_at t.rows.items k) (place_at t.places.items k)

module _ {S O I N : Type 0} (K : Known S O I N) where
  -- a writing half joined with the reading half that there is, if any
  abbrev pub counts_with : S → O → Option I → Settled
  counts_with pipes writer None = record { sent = 0; got = 0; rest = 0 }
  counts_with pipes writer (Some i) = counted (K.writing pipes writer) (K.reading pipes i)

  -- with that of the end at a place
  abbrev pub counts_in : S → EndTable N O I → ℕ → O → Settled
  counts_in pipes t k writer = counts_with pipes writer (half_in t k)

  abbrev pub counts_at : S → EndTable N O I → Option ℕ → O → Settled
  counts_at pipes t None writer = record { sent = 0; got = 0; rest = 0 }
  counts_at pipes t (Some k) writer = counts_in pipes t k writer

  -- with that of an end that is held
  abbrev pub counts_of : S → EndTable N O I → EndId → O → Settled
  counts_of pipes t e writer = counts_at pipes t (position (is_of e) t.places.items) writer

  -- joining the reading half of the end at a place with the writing half of its pipe tells the same as before
  abbrev pub KeepsCountsIn : ℕ → (old : S) → (was : EndTable N O I) → (new : S) → (now : EndTable N O I) → Type 0
  KeepsCountsIn k old was new now = (writer : O) (p : Place N I) → place_at was.places.items k ≡ Some p → K.out_name writer ≡ p.read → counts_in new now k writer ≡ counts_in old was k writer
