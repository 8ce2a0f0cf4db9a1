use Rattle.socket_laws.proofs.NamedLemmas as lemmas
use Rattle.socket_laws.proofs.past.names_are_made.Goals as goal

pub returns : goal.returns
returns g c = lemmas.names_are_made _ _
