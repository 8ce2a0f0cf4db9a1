use Rattle.std.proofs.Common.{rules}
use Rattle.zq_session.proofs.topics.say_anew.Goals as goal

pub returns-in-Some : goal.returns-in-Some
returns-in-Some c = search rules
