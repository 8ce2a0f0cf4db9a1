use Rattle.plain_desk.proofs.OrderLemmas.{goes_on}
use Rattle.plain_desk.proofs.laws.order_goes_on.Goals as goal

pub returns : goal.returns
returns g c = goes_on
