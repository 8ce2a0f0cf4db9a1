use Rattle.socket_laws.proofs.StandingCallLemmas as lemmas
use Rattle.socket_laws.proofs.standing.calls_go_on.Goals as goal

pub returns : goal.returns
returns g c = lemmas.calls_go_on g.P.Pipes.known _ c.sides_stand_on.ensures
