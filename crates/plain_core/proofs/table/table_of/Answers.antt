use Rattle.std.proofs.Common.{None, replicate, arith}
use Rattle.plain_core.proofs.TableLemmas.{noted_next}
use Rattle.plain_core.proofs.table.table_of.Goals as goal

pub notes-preserved : goal.notes-preserved
notes-preserved c =
    let test = c.notes-test.true in
    record { so_far = noted_next c.args.notes.now (replicate c.args.ends None) c.notes.table.items c.note.new.table.items c.notes.counts-index _ (omega (arith, test)) c.notes.invariant.so_far c.note.ensures }
