use Rattle.socket_laws.proofs.SocketLemmas.{sockets_are_alone}
use Rattle.socket_laws.proofs.desk_laws.sockets_are_alone.Goals as goal

pub returns : goal.returns
returns g c = sockets_are_alone _ _ _
