use Rattle.plain_desk.proofs.OrderLemmas.{other_same}
use Rattle.plain_desk.proofs.laws.other_moments_stay.Goals as goal

pub returns : goal.returns
returns g c = other_same
