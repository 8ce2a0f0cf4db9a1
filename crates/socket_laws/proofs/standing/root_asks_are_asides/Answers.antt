use Rattle.socket_laws.proofs.AsideLemmas as lemmas
use Rattle.socket_laws.proofs.standing.root_asks_are_asides.Goals as goal

pub returns : goal.returns
returns g c = lemmas.root_asks_are_asides _ _
