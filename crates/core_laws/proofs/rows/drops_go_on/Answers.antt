use Rattle.core_laws.proofs.CountingLemmas as lemmas
use Rattle.core_laws.proofs.rows.drops_go_on.Goals as goal

pub returns : goal.returns
returns g c = lemmas.drops_go_on _ _
