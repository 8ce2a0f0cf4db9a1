use Rattle.std.proofs.Common.{rules}
use Rattle.zq_outer.proofs.mem_calls.MemCalls.planned.Goals as goal

pub returns-then-is_listed-clause-fails : goal.returns-then-is_listed-clause-fails
returns-then-is_listed-clause-fails c = search rules

pub returns-then-is_listed-clause-stalls : goal.returns-then-is_listed-clause-stalls
returns-then-is_listed-clause-stalls c = search rules
