-- The rule of a pipe between threads (own choice). Of c + 1 places, message number n lies in place n % (c + 1).
-- Its word is 1 while it waits there. That of the place behind the last message is 2 once the pipe is sealed, all others are 0.
use Rattle.std.specs.Prelude.{◌≡◌, ℕ, ◌+◌, ◌%◌, ◌<◌, ◌≤◌, Bool, true, false, List, [], take, length, slice_index, Option, Some}
use mathlib.Core.List.{IsPrefix}
use mathlib.Core.Option.{some}
use mathlib.Core.Option as maybe
use lib.ListN.{get_elem?}
use Rattle.zq_base.specs.Message.{Frames}
use Rattle.spec_pattern.specs.PipeStep.{most_commits}
use Rattle.spec_pattern.specs.Pipe.{IsCommittable}
use Rattle.atomic_table.specs.Table.{State}
use Rattle.shared_pipe.specs.declared.view.WriterView.{WriterView}
use Rattle.shared_pipe.specs.declared.view.ReaderView.{ReaderView}
use Rattle.shared_pipe.specs.declared.view.View.{View}

-- what a slot holds
abbrev pub Slot : Type 0
Slot = Option Frames

-- the slots that are at home, each with what it holds
abbrev pub Homes : Type 0
Homes = List (maybe.Option Slot)

-- a pipe as it is: what was committed, how many of these were taken, and whether it is sealed;
-- whether the writing seat has the slot behind the last message, and the reading seat that of the oldest;
-- and which seats write and read
pub record Truth : Type 0 where
  pub committed : List Frames
  pub taken : ℕ
  pub sealed : Bool
  pub lent : Bool
  pub drawn : Bool
  pub writer : ℕ
  pub reader : ℕ

-- the word of the place behind the last message
abbrev pub mark : Bool → ℕ
mark true = 2
mark false = 0

-- what the seat that writes knows is true
pub record WritesAt (t : Truth) (j : ℕ) (v : View) : Type 0 where
  pub seat : j ≡ t.writer
  pub committed : v.writing.committed ≡ t.committed
  pub sealed : v.writing.sealed ≡ t.sealed
  pub freed : v.writing.freed ≤ t.taken
  pub lent : v.writing.lent ≡ t.lent

-- what the seat that reads knows is true
pub record ReadsAt (t : Truth) (j : ℕ) (v : View) : Type 0 where
  pub seat : j ≡ t.reader
  pub taken : v.reading.taken ≡ take t.taken t.committed
  pub seen : IsPrefix v.reading.seen t.committed
  pub ended : v.reading.ended ≡ true → (t.sealed ≡ true) × (t.taken ≡ length t.committed)
  pub drawn : v.reading.drawn ≡ t.drawn

-- one seat writes at most, and one reads
pub record AreSeated (t : Truth) (views : List View) : Type 0 where
  pub writers : (j : ℕ) (v : View) → get_elem? views j ≡ some v → v.writes ≡ true
      → WritesAt t j v
  pub readers : (j : ℕ) (v : View) → get_elem? views j ≡ some v → v.reads ≡ true
      → ReadsAt t j v

-- the words
pub record AreMarked (c : ℕ) (t : Truth) (words : List ℕ) : Type 0 where
  pub count : length words ≡ c + 1
  pub full : (n : ℕ) → t.taken ≤ n → n < length t.committed
      → slice_index words (n % (c + 1)) ≡ 1
  pub next : slice_index words (length t.committed % (c + 1)) ≡ mark t.sealed
  pub free : (n : ℕ) → length t.committed < n → n ≤ t.taken + c
      → slice_index words (n % (c + 1)) ≡ 0

-- the slots: those of the messages that wait hold them; they and the others are at home, but for
-- the two that the seats may have
pub record AreStored (c : ℕ) (t : Truth) (homes : Homes) : Type 0 where
  pub count : length homes ≡ c + 1
  pub items : (n : ℕ) (m : Frames) → t.taken ≤ n → get_elem? t.committed n ≡ some m
      → (n ≡ t.taken → t.drawn ≡ false)
      → get_elem? homes (n % (c + 1)) ≡ some (some (Some m))
  pub empty : (n : ℕ) → length t.committed ≤ n → n ≤ t.taken + c
      → (n ≡ length t.committed → t.lent ≡ false)
      → (y : Slot) × (get_elem? homes (n % (c + 1)) ≡ some (some y))

-- each message was one that fits a pipe
abbrev pub AreWhole : List Frames → Type 0
AreWhole ms = (n : ℕ) (m : Frames) → get_elem? ms n ≡ some m → IsCommittable m

-- a table of c + 1 places is the pipe t
pub record IsPipeTable (c : ℕ) (s : State Slot View) (t : Truth) : Type 0 where
  pub begins : t.taken ≤ length t.committed
  pub ends : length t.committed ≤ t.taken + c
  pub bound : length t.committed ≤ most_commits
  pub whole : AreWhole t.committed
  pub waits : t.drawn ≡ true → t.taken < length t.committed
  pub marked : AreMarked c t s.words
  pub stored : AreStored c t s.homes
  pub seated : AreSeated t s.views

-- a table is some pipe of this capacity
abbrev pub IsSomePipe : ℕ → State Slot View → Type 0
IsSomePipe c s = (t : Truth) × IsPipeTable c s t

-- the views at the start: one seat has both halves
abbrev pub fresh_writer : WriterView
fresh_writer = record { committed = []; sealed = false; freed = 0; full_looks = 0; lent = false }

abbrev pub fresh_reader : ReaderView
fresh_reader = record { taken = []; seen = []; ended = false; empty_looks = 0; drawn = false }

abbrev pub fresh_view : View
fresh_view = record { writes = true; writing = fresh_writer; reads = true; reading = fresh_reader }

-- the halves part, and come together
abbrev pub writer_of : View → View
writer_of v = record { writes = v.writes; writing = v.writing; reads = false; reading = fresh_reader }

abbrev pub reader_of : View → View
reader_of v = record { writes = false; writing = fresh_writer; reads = v.reads; reading = v.reading }

abbrev pub both_of : View → View → View
both_of v w = record { writes = w.writes; writing = w.writing; reads = v.reads; reading = v.reading }

abbrev pub no_view : View
no_view = record { writes = false; writing = fresh_writer; reads = false; reading = fresh_reader }
