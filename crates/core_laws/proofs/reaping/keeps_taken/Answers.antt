use Rattle.core_laws.proofs.TakenLemmas as lemmas
use Rattle.core_laws.proofs.reaping.keeps_taken.Goals as goal

pub returns : goal.returns
returns g c = lemmas.keeps_taken _ _ _
