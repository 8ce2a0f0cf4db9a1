use Rattle.core_laws.proofs.StandLemmas.{calls_stand}
use Rattle.core_laws.proofs.standing.calls_stand.Goals as goal

pub returns : goal.returns
returns g c = calls_stand g.P.Pipes.known _ _
