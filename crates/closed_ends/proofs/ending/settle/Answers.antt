use Rattle.end_table.proofs.CountLemmas.{told_counts}
use Rattle.closed_ends.proofs.ending.settle.Goals as goal

pub returns-clause-counts : goal.returns-clause-counts
returns-clause-counts g c =
    told_counts (g.P.Pipes.known.writing c.args.pipes.now c.args.writer) (g.P.Pipes.known.reading c.args.pipes.now c.args.end.input) c.settle-counts.result c.settle-counts.ensures.sent c.settle-counts.ensures.got c.settle-counts.ensures.rest

pub returns-clause-noted : goal.returns-clause-noted
returns-clause-noted g c = c.and.ensures
