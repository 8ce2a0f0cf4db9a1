use Rattle.socket_laws.proofs.NewLemmas.{binds_fit_still}
use Rattle.socket_laws.proofs.desk_laws.binds_fit_still.Goals as goal

pub returns : goal.returns
returns g c = binds_fit_still _ _ _ g.P.Pipes.known _
