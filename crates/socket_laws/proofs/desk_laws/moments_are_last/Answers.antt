use Rattle.socket_laws.proofs.LastLemmas.{moments_are_last}
use Rattle.socket_laws.proofs.desk_laws.moments_are_last.Goals as goal

pub returns : goal.returns
returns g c = moments_are_last _ _ _
