use Rattle.socket_laws.proofs.NewLemmas.{ends_stay_its}
use Rattle.socket_laws.proofs.desk_laws.ends_stay_its.Goals as goal

pub returns : goal.returns
returns g c = ends_stay_its _ _ _
