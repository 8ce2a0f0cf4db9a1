use Rattle.socket_laws.proofs.PeerLemmas.{peers_come_and_go}
use Rattle.socket_laws.proofs.open.peers_come_and_go.Goals as goal

pub returns : goal.returns
returns c = peers_come_and_go
