use Rattle.std.proofs.Common.{ap, sym}
use Rattle.end_table.specs.Rows.{can_write_of}
use Rattle.end_table.proofs.EndLemmas.{row_here}
use Rattle.end_table.proofs.ends.EndsPeers.can_write.Goals as goal

pub returns-in-Some : goal.returns-in-Some
returns-in-Some g c = sym (ap can_write_of (row_here c.args.self.now.rows.now.items c.args.place c.index.result.now c.in-Some.row c.deref.result.now c.index.ensures c.in-Some.is c.deref.ensures c.requires.1))
