use Rattle.socket_laws.proofs.AsideLemmas as lemmas
use Rattle.socket_laws.proofs.standing.asides_go_on.Goals as goal

pub returns : goal.returns
returns g c = lemmas.asides_go_on g.P.Pipes.known _ c.past_stays_over_control.ensures c.sides_stand_on.ensures
