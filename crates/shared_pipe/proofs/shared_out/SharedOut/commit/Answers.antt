use Rattle.std.proofs.Common.{rules}
use Rattle.shared_pipe.proofs.shared_out.SharedOut.commit.Goals as goal

pub put-requires-clause-whole : goal.put-requires-clause-whole
put-requires-clause-whole c = search rules

pub returns-in-Ok-clause-commit : goal.returns-in-Ok-clause-commit
returns-in-Ok-clause-commit c = search rules

pub returns-in-Full-clause-commit : goal.returns-in-Full-clause-commit
returns-in-Full-clause-commit c = search rules
