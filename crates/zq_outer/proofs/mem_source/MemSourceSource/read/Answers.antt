use Rattle.std.proofs.Common.{rules}
use Rattle.zq_outer.proofs.mem_source.MemSourceSource.read.Goals as goal

pub returns-then-next_fails-clause-faults : goal.returns-then-next_fails-clause-faults
returns-then-next_fails-clause-faults c = search rules
