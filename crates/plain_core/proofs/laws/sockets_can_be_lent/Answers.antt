use Rattle.plain_core.proofs.LendLemmas.{sockets_can_be_lent}
use Rattle.plain_core.proofs.laws.sockets_can_be_lent.Goals as goal

pub returns : goal.returns
returns g c = sockets_can_be_lent _ _ g.P.Pipes.known
