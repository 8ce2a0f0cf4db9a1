use Rattle.std.proofs.Common.{◌+◌, ◌-◌, length}
use Rattle.plain_desk.specs.Notes.{KeepsNotes}
use Rattle.plain_desk.proofs.notes.reserve_notes.Given as goal

-- nothing else was noted
abbrev pub invariant-each : goal.invariant-each
invariant-each l = KeepsNotes l.fn.notes l.notes

abbrev pub decreases-each : goal.decreases-each
decreases-each l = l.mailboxes + 1 - length l.notes.places.items
