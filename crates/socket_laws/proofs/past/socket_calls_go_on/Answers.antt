use Rattle.socket_laws.proofs.PastCallLemmas as lemmas
use Rattle.socket_laws.proofs.past.socket_calls_go_on.Goals as goal

pub returns : goal.returns
returns g c = lemmas.socket_calls_go_on g.P.Pipes.known _ c.changes_go_on.ensures c.steps_are_said.ensures c.ends_are_sealed_once.ensures
