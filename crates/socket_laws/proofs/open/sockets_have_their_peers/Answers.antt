use Rattle.socket_laws.proofs.OpenMadeLemmas.{sockets_have_their_peers}
use Rattle.socket_laws.proofs.open.sockets_have_their_peers.Goals as goal

pub returns : goal.returns
returns c start = sockets_have_their_peers _ _
