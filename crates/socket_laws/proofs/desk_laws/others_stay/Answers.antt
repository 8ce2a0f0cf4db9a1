use Rattle.socket_laws.proofs.LastLemmas.{others_stay}
use Rattle.socket_laws.proofs.desk_laws.others_stay.Goals as goal

pub returns : goal.returns
returns g c = others_stay _ _ _
