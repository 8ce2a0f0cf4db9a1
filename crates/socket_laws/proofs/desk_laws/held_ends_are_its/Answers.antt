use Rattle.socket_laws.proofs.NewLemmas.{held_ends_are_its}
use Rattle.socket_laws.proofs.desk_laws.held_ends_are_its.Goals as goal

pub returns : goal.returns
returns g c = held_ends_are_its _ _ _
