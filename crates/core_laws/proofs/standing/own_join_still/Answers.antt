use Rattle.core_laws.proofs.OwnLemmas.{own_join_still}
use Rattle.core_laws.proofs.standing.own_join_still.Goals as goal

pub returns : goal.returns
returns g c = own_join_still _ _ g.P.Pipes.known
