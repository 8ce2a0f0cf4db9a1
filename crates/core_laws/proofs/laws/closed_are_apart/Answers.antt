use Rattle.core_laws.proofs.ClosedLemmas.{closed_are_apart}
use Rattle.core_laws.proofs.laws.closed_are_apart.Goals as goal

pub returns : goal.returns
returns g c = closed_are_apart g.P.Pipes.known
