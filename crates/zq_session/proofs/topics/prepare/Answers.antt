use Rattle.std.proofs.Common.{rules}
use Rattle.zq_session.proofs.topics.prepare.Goals as goal

pub returns-in-Some-clause-ok : goal.returns-in-Some-clause-ok
returns-in-Some-clause-ok c = search rules

pub returns-in-Some-clause-either : goal.returns-in-Some-clause-either
returns-in-Some-clause-either c = search rules

pub returns-in-Some-clause-err : goal.returns-in-Some-clause-err
returns-in-Some-clause-err c = search rules
