use Rattle.plain_desk.proofs.OrderLemmas.{own_more}
use Rattle.plain_desk.proofs.laws.one_moment_more.Goals as goal

pub returns : goal.returns
returns g c = own_more
