use Rattle.socket_laws.proofs.StandingOrderLemmas as lemmas
use Rattle.socket_laws.proofs.standing.cores_are_orderly.Goals as goal

pub returns : goal.returns
returns g c = lemmas.orderly g.P.Pipes.known _
