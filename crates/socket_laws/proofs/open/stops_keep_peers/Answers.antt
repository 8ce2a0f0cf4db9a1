use Rattle.socket_laws.proofs.WantLemmas.{stops_keep_peers}
use Rattle.socket_laws.proofs.open.stops_keep_peers.Goals as goal

pub returns : goal.returns
returns c = stops_keep_peers
