use Rattle.socket_laws.proofs.QuietLemmas as lemmas
use Rattle.socket_laws.proofs.past.quiet_calls_go_on.Goals as goal

pub returns : goal.returns
returns g c = lemmas.quiet_calls_go_on g.P.Pipes.known
