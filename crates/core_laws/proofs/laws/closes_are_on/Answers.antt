use Rattle.core_laws.proofs.LineLemmas.{closes_are_on}
use Rattle.core_laws.proofs.laws.closes_are_on.Goals as goal

pub returns : goal.returns
returns g c = closes_are_on _ _ g.P.Pipes.known
