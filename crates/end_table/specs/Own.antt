-- Read loosely: what one half goes through in a list of steps, by itself (own choice).
use Rattle.std.specs.Prelude.{◌≡◌, ℕ, List, [], ◌∷◌, Bool, true, false, Some}
use Rattle.zq_base.specs.Ends.{PipeId}
use Rattle.spec_pattern.specs.PipeStep.{PipeStep, Commit, FullLook, RoomLook, Take, EmptyLook, DelimiterLook, WaitingLook, Seal, same_pipe, read_through}
use Rattle.spec_pattern.specs.Half.{Writing, Reading, Commits, IsFull, HasRoom, Takes, SeesOne, IsEmpty, IsAtDelimiter, with_delimiter}
use Rattle.msg_pipe.specs.Known.{Known}
use Rattle.end_table.specs.declared.row.EndRow.{EndRow}
use Rattle.end_table.specs.Rows.{Table, row_at}

-- a step of this half does so; one of another half leaves what it knows
abbrev pub IfOwn : {V : Type 0} → Bool → (V → V → Type 0) → V → V → Type 0
IfOwn true does v w = does v w
IfOwn false does v w = w ≡ v

-- a step, to the half that writes the pipe
abbrev pub WritesOne : PipeId → PipeStep → Writing → Writing → Type 0
WritesOne p (Commit q m) v w = IfOwn (same_pipe p q) (λ x y. Commits x m y) v w
WritesOne p (FullLook q) v w = IfOwn (same_pipe p q) IsFull v w
WritesOne p (RoomLook q) v w = IfOwn (same_pipe p q) HasRoom v w
WritesOne p (Take q m) v w = w ≡ v
WritesOne p (EmptyLook q) v w = w ≡ v
WritesOne p (DelimiterLook q) v w = w ≡ v
WritesOne p (WaitingLook q) v w = w ≡ v
WritesOne p (Seal q) v w = IfOwn (same_pipe p q) (λ x y. y ≡ with_delimiter x) v w

-- a step, to the half that reads it
abbrev pub ReadsOne : PipeId → PipeStep → Reading → Reading → Type 0
ReadsOne p (Commit q m) v w = w ≡ v
ReadsOne p (FullLook q) v w = w ≡ v
ReadsOne p (RoomLook q) v w = w ≡ v
ReadsOne p (Take q m) v w = IfOwn (same_pipe p q) (λ x y. Takes x m y) v w
ReadsOne p (EmptyLook q) v w = IfOwn (same_pipe p q) IsEmpty v w
ReadsOne p (DelimiterLook q) v w = IfOwn (same_pipe p q) IsAtDelimiter v w
ReadsOne p (WaitingLook q) v w = IfOwn (same_pipe p q) SeesOne v w
ReadsOne p (Seal q) v w = w ≡ v

-- steps, one after another
abbrev pub Writes : PipeId → List PipeStep → Writing → Writing → Type 0
Writes p [] v w = w ≡ v
Writes p (s ∷ ss) v w = (x : Writing) × WritesOne p s v x × Writes p ss x w

abbrev pub Reads : PipeId → List PipeStep → Reading → Reading → Type 0
Reads p [] v w = w ≡ v
Reads p (s ∷ ss) v w = (x : Reading) × ReadsOne p s v x × Reads p ss x w

module _ {S O I N : Type 0} (K : Known S O I N) where
  -- the end at a place is there still, and its halves went through the steps
  pub record GoesThrough (old : Table S O I) (steps : List PipeStep) (new : Table S O I) (place : ℕ) (row : EndRow O I) : Type 0 where
    pub back : EndRow O I
    pub here : row_at new.rows place ≡ Some back
    pub end_is : back.end ≡ row.end
    pub writes : Writes row.end steps (K.writing old.pipes row.out) (K.writing new.pipes back.out)
    pub reads : Reads (read_through row.end) steps (K.reading old.pipes row.input) (K.reading new.pipes back.input)
