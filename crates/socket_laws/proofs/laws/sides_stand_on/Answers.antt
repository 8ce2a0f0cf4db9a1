use Rattle.socket_laws.proofs.SideLemmas as lemmas
use Rattle.socket_laws.proofs.laws.sides_stand_on.Goals as goal

pub returns : goal.returns
returns g c = lemmas.sides_stand_on _ _
