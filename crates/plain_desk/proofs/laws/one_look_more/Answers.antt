use Rattle.plain_desk.proofs.OrderLemmas.{look_more}
use Rattle.plain_desk.proofs.laws.one_look_more.Goals as goal

pub returns : goal.returns
returns g c = look_more
