use Rattle.std.proofs.Common.{rules}
use Rattle.zq_outer.proofs.mem_link.MemLink.try_read.Goals as goal

pub pop-requires-clause-uncut : goal.pop-requires-clause-uncut
pop-requires-clause-uncut c = search rules

pub returns-clause-same : goal.returns-clause-same
returns-clause-same c = c.pop.ensures.same
