use Rattle.socket_laws.proofs.NamesLemmas.{names_stand_on}
use Rattle.socket_laws.proofs.names.names_stand_on.Goals as goal

pub returns : goal.returns
returns g c = names_stand_on g.P.Pipes.known
