use Rattle.socket_laws.proofs.PastLemmas as lemmas
use Rattle.socket_laws.proofs.laws.past_stays_over_control.Goals as goal

pub returns : goal.returns
returns g c = lemmas.past_stays_over g.P.Pipes.known _ _ c.capacities_stay.ensures c.steps_stay_exact.ensures
