use Rattle.sock_calls.proofs.CallsLemmas.{others_fit}
use Rattle.sock_calls.proofs.laws.other_sockets_fit.Goals as goal

pub returns : goal.returns
returns g c = others_fit g.P.Pipes.known g.C.Joins.peers
