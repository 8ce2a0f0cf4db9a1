use Rattle.socket_laws.proofs.SocketLemmas.{sockets_stay_open}
use Rattle.socket_laws.proofs.desk_laws.sockets_stay_open.Goals as goal

pub returns : goal.returns
returns g c = sockets_stay_open _ _ _
