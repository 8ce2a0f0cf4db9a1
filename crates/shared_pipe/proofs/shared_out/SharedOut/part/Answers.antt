use Rattle.std.proofs.Common.{rules}
use Rattle.shared_pipe.proofs.shared_out.SharedOut.part.Goals as goal

pub returns-clause-ok : goal.returns-clause-ok
returns-clause-ok c = search rules
