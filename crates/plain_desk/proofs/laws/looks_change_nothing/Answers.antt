use Rattle.plain_desk.proofs.OrderLemmas.{looks_nothing}
use Rattle.plain_desk.proofs.laws.looks_change_nothing.Goals as goal

pub returns : goal.returns
returns g c = looks_nothing
