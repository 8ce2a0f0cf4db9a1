-- What each step tells the seat that makes it (own choice).
use Rattle.std.specs.Prelude.{◌≡◌, ℕ, ◌+◌, ◌%◌, ◌≤◌, true, false, List, [], ◌∷◌, ◌++◌, take, length, Some, None, ◌==◌, MatchBool}
use mathlib.Core.List.{IsPrefix}
use Rattle.zq_base.specs.Message.{Frames}
use Rattle.spec_pattern.specs.PipeStep.{most_commits}
use Rattle.spec_pattern.specs.Pipe.{IsCommittable}
use Rattle.atomic_table.specs.Table.{Me, Step, rest}
use Rattle.shared_pipe.specs.declared.view.WriterView.{WriterView}
use Rattle.shared_pipe.specs.declared.view.ReaderView.{ReaderView}
use Rattle.shared_pipe.specs.declared.view.View.{View}
use Rattle.shared_pipe.specs.Rule.{Slot}

-- a seat's view, and the slots that it has
abbrev pub SeatHas : Type 0
SeatHas = Me Slot View

abbrev pub with_writer : View → WriterView → View
with_writer v w = record v { writing = w }

abbrev pub with_reader : View → ReaderView → View
with_reader v r = record v { reading = r }

-- the writing seat found room: it has seen this many takes, and has the next slot
abbrev pub lent_to : WriterView → ℕ → WriterView
lent_to w f = record w { freed = f; lent = true }

-- it found none
abbrev pub found_full : WriterView → ℕ → WriterView
found_full w f = record w { freed = f; full_looks = w.full_looks + 1 }

-- it saw the takes, and nothing else changed
abbrev pub saw_takes : WriterView → ℕ → WriterView
saw_takes w f = record w { freed = f }

-- it committed
abbrev pub committed_by_seat : WriterView → List Frames → WriterView
committed_by_seat w ms = record w { committed = ms; lent = false }

abbrev pub shut_by_seat : WriterView → WriterView
shut_by_seat w = record w { sealed = true }

-- there is room, and the seat has the next slot
pub record FoundRoom (n : ℕ) (v w : SeatHas) : Type 0 where
  pub takes_seen : ℕ
  pub slot : Slot
  pub after : w ≡ (with_writer v.0 (lent_to v.0.writing takes_seen), (length v.0.writing.committed % n, slot) ∷ v.1)
  pub later : v.0.writing.freed ≤ takes_seen
  pub room : length v.0.writing.committed + 2 ≤ takes_seen + n

-- the pipe held all that it can hold
pub record FoundFull (n : ℕ) (v w : SeatHas) : Type 0 where
  pub takes_seen : ℕ
  pub after : w ≡ (with_writer v.0 (found_full v.0.writing takes_seen), v.1)
  pub later : v.0.writing.freed ≤ takes_seen
  pub full : length v.0.writing.committed + 1 ≡ takes_seen + n

abbrev pub looks_for_room : Step Slot → SeatHas → ℕ → SeatHas → Type 0
looks_for_room s v found w = MatchBool (found == 0) (FoundRoom s.slots v w) (FoundFull s.slots v w)

-- behind the messages of one call there is no room for more
pub record FoundNoMore (n : ℕ) (v w : SeatHas) : Type 0 where
  pub takes_seen : ℕ
  pub after : w ≡ (with_writer v.0 (saw_takes v.0.writing takes_seen), v.1)
  pub later : v.0.writing.freed ≤ takes_seen
  pub full : length v.0.writing.committed + 1 ≡ takes_seen + n

abbrev pub looks_for_more : Step Slot → SeatHas → ℕ → SeatHas → Type 0
looks_for_more s v found w = MatchBool (found == 0) (FoundRoom s.slots v w) (FoundNoMore s.slots v w)

-- there is room, and the seat takes nothing
pub record SawRoom (n : ℕ) (v w : SeatHas) : Type 0 where
  pub takes_seen : ℕ
  pub after : w ≡ (with_writer v.0 (saw_takes v.0.writing takes_seen), v.1)
  pub later : v.0.writing.freed ≤ takes_seen
  pub room : length v.0.writing.committed + 2 ≤ takes_seen + n

abbrev pub looks_at_room : Step Slot → SeatHas → ℕ → SeatHas → Type 0
looks_at_room s v found w = MatchBool (found == 0) (SawRoom s.slots v w) (FoundFull s.slots v w)

-- the pipe takes no more messages
abbrev pub looks_at_limit : Step Slot → SeatHas → ℕ → SeatHas → Type 0
looks_at_limit s v found w = w ≡ (with_writer v.0 (found_full v.0.writing v.0.writing.freed), v.1)

-- the messages with that of a slot behind them
abbrev pub and_slot : List Frames → Slot → List Frames
and_slot ms (Some m) = ms ++ m ∷ []
and_slot ms None = ms

-- the messages with that of the slot that was taken last
abbrev pub and_held : List Frames → List (ℕ × Slot) → List Frames
and_held ms [] = ms
and_held ms (held ∷ others) = and_slot ms held.1

abbrev pub fills : Step Slot → SeatHas → ℕ → SeatHas → Type 0
fills s v found w =
    let messages = and_held v.0.writing.committed v.1 in
    w ≡ (with_writer v.0 (committed_by_seat v.0.writing messages), rest v.1)

abbrev pub shuts : Step Slot → SeatHas → ℕ → SeatHas → Type 0
shuts s v found w = w ≡ (with_writer v.0 (shut_by_seat v.0.writing), v.1)

-- the reading seat found a message: it has seen these commits
abbrev pub found_message : ReaderView → List Frames → ReaderView
found_message r ms = record r { seen = ms }

-- and has the slot
abbrev pub drawing : ReaderView → List Frames → ReaderView
drawing r ms = record r { seen = ms; drawn = true }

-- it found none
abbrev pub found_empty : ReaderView → ReaderView
found_empty r = record r { seen = r.taken; empty_looks = r.empty_looks + 1 }

-- it found the delimiter
abbrev pub found_end : ReaderView → ReaderView
found_end r = record r { seen = r.taken; ended = true }

-- it took the oldest message
abbrev pub took_oldest : ReaderView → ReaderView
took_oldest r = record r { taken = take (length r.taken + 1) r.seen; drawn = false }

-- a message waits: what a look saw
pub record SawMessage (r : ReaderView) (m : Frames) (saw : List Frames) : Type 0 where
  pub seen : IsPrefix r.seen saw
  pub within : IsPrefix (r.taken ++ m ∷ []) saw
  pub whole : IsCommittable m
  pub before_the_end : r.ended ≡ false
  pub few : length r.taken + 1 ≤ most_commits

-- the seat has its slot
pub record FoundItem (n : ℕ) (v w : SeatHas) : Type 0 where
  pub saw : List Frames
  pub item : Frames
  pub after : w ≡ (with_reader v.0 (drawing v.0.reading saw), (length v.0.reading.taken % n, Some item) ∷ v.1)
  pub waits : SawMessage v.0.reading item saw

-- or not
pub record FoundFront (v w : SeatHas) : Type 0 where
  pub saw : List Frames
  pub item : Frames
  pub after : w ≡ (with_reader v.0 (found_message v.0.reading saw), v.1)
  pub waits : SawMessage v.0.reading item saw

-- all that was committed is taken, and no delimiter stands behind it
pub record FoundEmpty (v w : SeatHas) : Type 0 where
  pub after : w ≡ (with_reader v.0 (found_empty v.0.reading), v.1)
  pub seen : IsPrefix v.0.reading.seen v.0.reading.taken
  pub before_the_end : v.0.reading.ended ≡ false

-- the delimiter stands there
pub record FoundEnd (v w : SeatHas) : Type 0 where
  pub after : w ≡ (with_reader v.0 (found_end v.0.reading), v.1)
  pub seen : IsPrefix v.0.reading.seen v.0.reading.taken

abbrev pub looks_for_item : Step Slot → SeatHas → ℕ → SeatHas → Type 0
looks_for_item s v found w =
    MatchBool (found == 0) (FoundEmpty v w)
    (MatchBool (found == 2) (FoundEnd v w) (FoundItem s.slots v w))

abbrev pub looks_at_front : Step Slot → SeatHas → ℕ → SeatHas → Type 0
looks_at_front s v found w =
    MatchBool (found == 0) (FoundEmpty v w)
    (MatchBool (found == 2) (FoundEnd v w) (FoundFront v w))

abbrev pub vacates : Step Slot → SeatHas → ℕ → SeatHas → Type 0
vacates s v found w = w ≡ (with_reader v.0 (took_oldest v.0.reading), rest v.1)

-- what each half knows of the other is true of it, and no more waits than the pipe can hold
pub record Agree (n : ℕ) (v w : SeatHas) : Type 0 where
  pub after : w ≡ v
  pub taken : IsPrefix v.0.reading.taken v.0.writing.committed
  pub seen : IsPrefix v.0.reading.seen v.0.writing.committed
  pub freed : v.0.writing.freed ≤ length v.0.reading.taken
  pub room : length v.0.writing.committed + 1 ≤ length v.0.reading.taken + n
  pub ended : v.0.reading.ended ≡ true → (v.0.writing.sealed ≡ true) × (v.0.reading.taken ≡ v.0.writing.committed)

abbrev pub compares : Step Slot → SeatHas → ℕ → SeatHas → Type 0
compares s v found w = Agree s.slots v w
