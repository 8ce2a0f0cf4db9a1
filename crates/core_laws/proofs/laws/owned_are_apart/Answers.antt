use Rattle.core_laws.proofs.OwnedLemmas.{owned_are_apart}
use Rattle.core_laws.proofs.laws.owned_are_apart.Goals as goal

pub returns : goal.returns
returns g c = owned_are_apart _ _ g.P.Pipes.known
