use Rattle.socket_laws.proofs.ChangeLemmas as lemmas
use Rattle.socket_laws.proofs.past.changes_go_on.Goals as goal

pub returns : goal.returns
returns g c = lemmas.changes_go_on g.P.Pipes.known _ c.requires c.past_goes_on.ensures c.past_stays_over_control.ensures
