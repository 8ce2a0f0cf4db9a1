use Rattle.socket_laws.proofs.NewLemmas.{coming_ends_are_new}
use Rattle.socket_laws.proofs.desk_laws.coming_ends_are_new.Goals as goal

pub returns : goal.returns
returns g c = coming_ends_are_new _ _ _
