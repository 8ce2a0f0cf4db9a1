use Rattle.socket_laws.proofs.AsideLemmas as lemmas
use Rattle.socket_laws.proofs.standing.makings_are_asides.Goals as goal

pub returns : goal.returns
returns g c = lemmas.makings_are_asides _ _
