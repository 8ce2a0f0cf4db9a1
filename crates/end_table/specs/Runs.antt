-- What calls at the ends of a socket did: one call of the pipes after another, each with what it says (own choice).
use Rattle.std.specs.Prelude.{◌≡◌, ◌⊎◌, ℕ, Bool, true, false, List, [], ◌∷◌, Some, Box, slice_set}
use Rattle.std.specs.List.{list_any}
use Rattle.std.specs.declared.alloc.Global.{Global}
use Rattle.zq_base.specs.Ends.{PipeId}
use Rattle.spec_pattern.specs.PipeStep.{PipeStep, Commit, FullLook, RoomLook, Take, EmptyLook, DelimiterLook, WaitingLook, Seal, read_through}
use Rattle.spec_pattern.specs.Half.{Writing, Reading, Commits, IsFull, HasRoom, Takes, SeesOne, IsEmpty, IsAtDelimiter, with_delimiter}
use Rattle.msg_pipe.specs.Known.{Known, KeepsButOut, KeepsButIn, SeesTakes, SeesCommits}
use Rattle.msg_pipe.specs.declared.pipes.Front.{Front}
use Rattle.msg_pipe.specs.declared.pipes.Front.TheVariants.{Message, Empty, Delimiter}
use Rattle.end_table.specs.declared.row.EndRow.{EndRow}
use Rattle.end_table.specs.Rows.{Table, row_at}

-- a step that the half which writes the pipe made; no other step is one of a writing half
abbrev pub OutDoes : PipeId → PipeStep → Writing → Writing → Type 0
OutDoes p (Commit q m) v w = (q ≡ p) × Commits v m w × (v.sealed ≡ false)
OutDoes p (FullLook q) v w = (q ≡ p) × IsFull v w
OutDoes p (RoomLook q) v w = (q ≡ p) × HasRoom v w × (v.sealed ≡ false)
OutDoes p (Seal q) v w = (q ≡ p) × (w ≡ with_delimiter v) × (v.sealed ≡ false)
OutDoes p (Take q m) v w = ⊥
OutDoes p (EmptyLook q) v w = ⊥
OutDoes p (DelimiterLook q) v w = ⊥
OutDoes p (WaitingLook q) v w = ⊥

-- a step that the half which reads the pipe made
abbrev pub InDoes : PipeId → PipeStep → Reading → Reading → Type 0
InDoes p (Take q m) v w = (q ≡ p) × Takes v m w
InDoes p (EmptyLook q) v w = (q ≡ p) × IsEmpty v w
InDoes p (DelimiterLook q) v w = (q ≡ p) × IsAtDelimiter v w
InDoes p (WaitingLook q) v w = (q ≡ p) × SeesOne v w
InDoes p (Commit q m) v w = ⊥
InDoes p (FullLook q) v w = ⊥
InDoes p (RoomLook q) v w = ⊥
InDoes p (Seal q) v w = ⊥

-- whether the step of a writing half looks
abbrev pub looks_out : PipeStep → Bool
looks_out (Seal q) = false
looks_out (Commit q m) = true
looks_out (FullLook q) = true
looks_out (RoomLook q) = true
looks_out (Take q m) = true
looks_out (EmptyLook q) = true
looks_out (DelimiterLook q) = true
looks_out (WaitingLook q) = true

-- what stood at the front at the step of a reading half
abbrev pub front_at : PipeStep → Front
front_at (EmptyLook q) = Empty
front_at (DelimiterLook q) = Delimiter
front_at (Take q m) = Message
front_at (WaitingLook q) = Message
front_at (Commit q m) = Message
front_at (FullLook q) = Message
front_at (RoomLook q) = Message
front_at (Seal q) = Message

-- a delimiter is written
abbrev pub is_seal : PipeStep → Bool
is_seal (Commit p m) = false
is_seal (FullLook p) = false
is_seal (RoomLook p) = false
is_seal (Take p m) = false
is_seal (EmptyLook p) = false
is_seal (DelimiterLook p) = false
is_seal (WaitingLook p) = false
is_seal (Seal p) = true

-- by one of these steps
abbrev pub seals : List PipeStep → Bool
seals steps = list_any is_seal steps

module _ {S O I N : Type 0} (K : Known S O I N) where
  -- the row of a place was lent and came back, of the same end; all other rows are as they were
  pub record CallsAt (old new : Table S O I) (place : ℕ) (row back : EndRow O I) : Type 0 where
    pub here : row_at old.rows place ≡ Some row
    pub boxed : Box (EndRow O I) Global
    pub rows_are : new.rows ≡ slice_set old.rows place (Some boxed)
    pub back_is : boxed.value ≡ back
    pub end_is : back.end ≡ row.end
    pub writable_is : back.writable ≡ row.writable

  -- the step is that of a call at the writing half of an end
  pub record OutCall (old : Table S O I) (step : PipeStep) (new : Table S O I) : Type 0 where
    pub place : ℕ
    pub row : EndRow O I
    pub back : EndRow O I
    pub at : CallsAt old new place row back
    pub input_is : back.input ≡ row.input
    pub unsealed : row.writable ≡ true → (K.writing new.pipes back.out).sealed ≡ false
    pub does : OutDoes row.end step (K.writing old.pipes row.out) (K.writing new.pipes back.out)
    pub exact : looks_out step ≡ true → SeesTakes K row.out back.out old.pipes new.pipes
    pub keeps : KeepsButOut K row.out back.out old.pipes new.pipes

  -- the step is that of a call at the reading half of an end
  pub record InCall (old : Table S O I) (step : PipeStep) (new : Table S O I) : Type 0 where
    pub place : ℕ
    pub row : EndRow O I
    pub back : EndRow O I
    pub at : CallsAt old new place row back
    pub out_is : back.out ≡ row.out
    pub does : InDoes (read_through row.end) step (K.reading old.pipes row.input) (K.reading new.pipes back.input)
    pub exact : SeesCommits K row.input back.input (front_at step) old.pipes new.pipes
    pub keeps : KeepsButIn K row.input back.input old.pipes new.pipes

  abbrev pub DoesOne : Table S O I → PipeStep → Table S O I → Type 0
  DoesOne old step new = OutCall old step new ⊎ InCall old step new

  -- steps, one call after another
  abbrev pub DoesAll : Table S O I → List PipeStep → Table S O I → Type 0
  DoesAll old [] new = new ≡ old
  DoesAll old (step ∷ steps) new = (mid : Table S O I) × DoesOne old step mid × DoesAll mid steps new
