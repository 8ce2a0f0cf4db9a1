use Rattle.socket_laws.proofs.MessageLemmas as lemmas
use Rattle.socket_laws.proofs.past.messages_go_on.Goals as goal

pub returns : goal.returns
returns g c = lemmas.messages_go_on g.P.Pipes.known _ c.calls_are_read_exactly.ensures c.steps_are_at_rows.ensures
