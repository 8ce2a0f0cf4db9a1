-- The halves of a pipe between threads, as pipes see them (own choice).
use Rattle.std.specs.Prelude.{Bool, true, false, List, [], ◌∷◌}
use Rattle.zq_base.specs.Message.{Frames}
use Rattle.spec_pattern.specs.Half.{Writing, Reading}
use Rattle.atomic_table.specs.Seated.{TableId}
use Rattle.atomic_table.specs.declared.shared.Seat.{Seat}
use Rattle.shared_pipe.specs.Rule.{Slot}
use Rattle.shared_pipe.specs.declared.view.View.{View}
use Rattle.shared_pipe.specs.declared.shared_out.SharedOut.{SharedOut}
use Rattle.shared_pipe.specs.declared.shared_in.SharedIn.{SharedIn}

-- what the owner of each half knows
abbrev pub writing_of : SharedOut → Writing
writing_of o = let w = o.seat.me.0.writing in record {
  committed = w.committed;
  parts = o.parts.items;
  sealed = w.sealed;
  capacity = o.capacity;
  freed = w.freed;
  full_looks = w.full_looks;
}

abbrev pub reading_of : SharedIn → Reading
reading_of i = let r = i.seat.me.0.reading in record {
  taken = r.taken;
  seen = r.seen;
  ended = r.ended;
  empty_looks = r.empty_looks;
}

-- the name of the pipe of a half is that of its table
abbrev pub name_of_out : SharedOut → TableId
name_of_out o = o.seat.table_id

abbrev pub name_of_in : SharedIn → TableId
name_of_in i = i.seat.table_id

-- the table of no pipe
abbrev no_table : TableId
no_table = record { words = 0; slots = 0; views_name = 0; atom = 0; block = 0; offset = 0; slot_names = [] }

-- the table of the seat that is noted
abbrev pub table_of : List (Seat Slot View × Unit {0}) → TableId
table_of [] = no_table
table_of ((seat, _) ∷ rest) = seat.table_id

-- what a story tells: of a seat as it stood, what it committed, or what it took
abbrev pub told_of_seat : List (Seat Slot View × Bool) → List Frames
told_of_seat [] = []
told_of_seat ((seat, true) ∷ rest) = seat.me.0.writing.committed
told_of_seat ((seat, false) ∷ rest) = seat.me.0.reading.taken
