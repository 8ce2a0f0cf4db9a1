use Rattle.socket_laws.proofs.NamesLemmas.{names_stay}
use Rattle.socket_laws.proofs.names.names_stay.Goals as goal

pub returns : goal.returns
returns g c = names_stay g.P.Pipes.known
