use Rattle.std.proofs.Common.{map, string_bytes}
use Rattle.zq_top.proofs.Dues.{exits_if}
use Rattle.zq_top.proofs.edge.serve.Goals as goal

pub returns-clause-exits : goal.returns-clause-exits
returns-clause-exits g c = exits_if c.scripts_are_done_in_time.ensures c.scripts_that_are_read_may_be_asked.ensures c.args.words (λ list. map string_bytes list.items) _ _ _ _ _ c.serve.ensures.exits
