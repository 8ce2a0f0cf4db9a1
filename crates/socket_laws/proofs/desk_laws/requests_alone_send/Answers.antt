use Rattle.socket_laws.proofs.SendLemmas.{requests_alone_send}
use Rattle.socket_laws.proofs.desk_laws.requests_alone_send.Goals as goal

pub returns : goal.returns
returns g c = requests_alone_send _ _ _
