use Rattle.control_laws.proofs.HeldOpenLemmas.{sockets_are_open}
use Rattle.control_laws.proofs.sockets.sockets_are_open.Goals as goal

pub returns : goal.returns
returns c start = sockets_are_open _ _
