use Rattle.std.proofs.Common.{rules}
use Rattle.zq_outer.proofs.mem_sink.MemSinkSink.write.Goals as goal

pub returns-clause-bytes : goal.returns-clause-bytes
returns-clause-bytes c = search rules
