use Rattle.plain_desk.proofs.NoteLemmas.{all_dropped}
use Rattle.plain_desk.proofs.notes.drop_notes.Goals as goal

pub returns : goal.returns
returns c =
    all_dropped c.args.notes.now (record { workers = c.each.notes.workers; first = c.len-notes.result; places = c.each.notes.places; seen = c.each.notes.seen; waits = c.each.notes.waits; whole = c.each.notes.whole })
    c.args.closed.now c.each.place c.each-test.false c.requires.noted c.each.invariant.dropped c.each.invariant.whole
