use Rattle.std.proofs.Common.{◌+◌, Some, arith, refl}
use Rattle.std.specs.Vec.{with_item}
use Rattle.plain_desk.proofs.NoteLemmas.{closed_noted, not_both}
use Rattle.plain_desk.proofs.notes.note_closed.Goals as goal

pub returns-then-not-may_note : goal.returns-then-not-may_note
returns-then-not-may_note c = λ os many h w. absurd (not_both refl w)

pub returns : goal.returns
returns c = closed_noted c.args.notes.now
    (record { workers = c.args.notes.now.workers; first = c.min-notes.result; places = with_item c.args.notes.now.places (c.args.notes.now.workers + c.args.socket.0) (Some c.args.place); seen = c.set_bit.new.words; waits = c.set_bit-2.new.words; whole = c.args.notes.now.whole })
    c.args.socket c.args.place (c.may_note.ensures c.if-not-may_note.false) refl refl refl c.set_bit.ensures.long c.set_bit.ensures.each c.set_bit-2.ensures.each (let least = c.min-notes.ensures in omega (arith, least)) (let least = c.min-notes.ensures in omega (arith, least))
