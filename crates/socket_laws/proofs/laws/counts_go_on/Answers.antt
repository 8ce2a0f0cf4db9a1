use Rattle.socket_laws.proofs.CountedLemmas as lemmas
use Rattle.socket_laws.proofs.laws.counts_go_on.Goals as goal

pub returns : goal.returns
returns c = lemmas.counts_go_on
