use Rattle.std.proofs.Common.{true}
use Rattle.plain_desk.proofs.NoteLemmas.{noted_begins}
use Rattle.plain_desk.proofs.notes.no_notes.Goals as goal

pub returns : goal.returns
returns c = noted_begins (record { workers = c.args.workers; first = 0; places = c.new.result; seen = c.new-2.result; waits = c.new-3.result; whole = true }) c.new.ensures.items c.new-3.ensures.items
