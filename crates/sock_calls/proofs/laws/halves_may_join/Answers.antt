use Rattle.sock_calls.proofs.CallsLemmas.{others_join}
use Rattle.sock_calls.proofs.laws.halves_may_join.Goals as goal

pub returns : goal.returns
returns g c = others_join g.P.Pipes.known
