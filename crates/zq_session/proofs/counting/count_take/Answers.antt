use Rattle.zq_session.proofs.CountingLemmas.{takes_none}
use Rattle.zq_session.proofs.counting.count_take.Goals as goal

pub returns-in-None : goal.returns-in-None
returns-in-None c = takes_none c.args.look c.args.tally.now c.in-None.is
