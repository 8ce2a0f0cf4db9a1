use Rattle.sock_calls.proofs.CallsLemmas.{others_given}
use Rattle.sock_calls.proofs.laws.given_ends_stay.Goals as goal

pub returns : goal.returns
returns g c = others_given g.P.Pipes.known
