use Rattle.socket_laws.proofs.RowLemmas as lemmas
use Rattle.socket_laws.proofs.laws.open_sockets_change.Goals as goal

pub returns : goal.returns
returns c = lemmas.opens_change
