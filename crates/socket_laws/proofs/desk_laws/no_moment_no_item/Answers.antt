use Rattle.socket_laws.proofs.SendLemmas.{no_moment_no_item}
use Rattle.socket_laws.proofs.desk_laws.no_moment_no_item.Goals as goal

pub returns : goal.returns
returns g c = no_moment_no_item _ _ _
