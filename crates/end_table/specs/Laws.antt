-- How calls at the ends of sockets are read (own choice): all steps past, where looks are exact; else half by half.
use Rattle.std.specs.Prelude.{◌≡◌, ◌≤◌, ℕ, List, [], ◌∷◌, ◌++◌, All, Option, Some, length}
use mathlib.Core.List.{IsPrefix}
use Rattle.zq_base.specs.Ends.{PipeId}
use Rattle.spec_pattern.specs.PipeStep.{PipeStep, FullLook, committed_to, taken_from}
use Rattle.spec_pattern.specs.Pipe.{HasNoRoom}
use Rattle.spec_pattern.specs.Half.{Writing, Reading, AreHalves, fresh_writing, fresh_reading}
use Rattle.msg_pipe.specs.Known.{Known, IsElse}
use Rattle.end_table.specs.declared.row.EndRow.{EndRow}
use Rattle.end_table.specs.Rows.{Rows, Table, table, row_at, IsRow}
use Rattle.end_table.specs.Held.{IsHeld}
use Rattle.end_table.specs.Runs.{DoesAll}
use Rattle.end_table.specs.Past.{OneName, IsPast, AreNamed}
use Rattle.end_table.specs.Own.{GoesThrough, Writes, Reads}

module _ {S O I N : Type 0} (K : Known S O I N) where
  -- the steps past go on by the steps of the calls, and the halves keep their names
  abbrev pub ReadsExactly : Type 0
  ReadsExactly = (goes : PipeId → Option N) (capacity : PipeId → ℕ) (past steps : List PipeStep) (old new : Table S O I) →
      OneName goes → DoesAll K old steps new → AreNamed K goes capacity old.rows → IsPast K goes capacity old.pipes past →
      IsPast K goes capacity new.pipes (past ++ steps) × AreNamed K goes capacity new.rows

  -- each end that is held goes through the steps, half by half
  abbrev pub ReadsLoosely : Type 0
  ReadsLoosely = (steps : List PipeStep) (old new : Table S O I) (place : ℕ) (row : EndRow O I) →
      DoesAll K old steps new → IsHeld K old → row_at old.rows place ≡ Some row → GoesThrough K old steps new place row

  -- a writing half whose pipe no end of the socket writes
  abbrev pub IsOutElse : Rows O I → O → Type 0
  IsOutElse rows o = (k : ℕ) (row : EndRow O I) → row_at rows k ≡ Some row → IsElse K (K.out_name o) (K.out_name row.out)

  -- The ends stay held, an end is at each place where one was, and the ends of another socket, whose pipes are others, stay held.
  pub record KeepsHeld : Type 0 where
    pub held : (steps : List PipeStep) (old new : Table S O I) → DoesAll K old steps new → IsHeld K old → IsHeld K new
    pub there : (steps : List PipeStep) (old new : Table S O I) (places : List ℕ) → DoesAll K old steps new → All (IsRow old.rows) places → All (IsRow new.rows) places
    pub others : (steps : List PipeStep) (old new : Table S O I) (rows : Rows O I) → DoesAll K old steps new
        → ((k : ℕ) (row : EndRow O I) → row_at rows k ≡ Some row → IsOutElse old.rows row.out)
        → IsHeld K (table old.pipes rows) → IsHeld K (table new.pipes rows)

-- Of a pipe whose writer made the first steps and whose reader the second: once the halves are joined, what was taken is a prefix of what was committed; and a full look found no room, with no more freed than the writing half saw in the end.
pub record KeepsOrder : Type 0 where
  pub order : (p : PipeId) (written taken : List PipeStep) (capacity : ℕ) (w : Writing) (r : Reading)
      → Writes p written (fresh_writing capacity) w → Reads p taken fresh_reading r → AreHalves w r
      → committed_to p taken ≡ [] → taken_from p written ≡ []
      → IsPrefix (taken_from p (written ++ taken)) (committed_to p (written ++ taken))
  pub full : (p : PipeId) (before after : List PipeStep) (v w : Writing) → Writes p (before ++ FullLook p ∷ after) v w
      → (freed : ℕ) × HasNoRoom (length (v.committed ++ committed_to p before)) freed v.capacity × (freed ≤ w.freed)
