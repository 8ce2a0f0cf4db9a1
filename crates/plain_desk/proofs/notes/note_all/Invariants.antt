use Rattle.std.specs.Prelude.{take}
use Rattle.plain_desk.specs.Notes.{Noted}
use Rattle.plain_desk.proofs.notes.note_all.Given as goal

-- those so far are noted
abbrev pub invariant-each : goal.invariant-each
invariant-each l = Noted (take l.place l.closed) l.notes
