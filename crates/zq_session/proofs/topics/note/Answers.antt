use Rattle.std.proofs.Common.{rules}
use Rattle.zq_session.proofs.topics.note.Goals as goal

pub returns-in-Some-clause-ok : goal.returns-in-Some-clause-ok
returns-in-Some-clause-ok c = search rules
