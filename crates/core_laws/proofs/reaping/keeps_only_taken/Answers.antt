use Rattle.core_laws.proofs.OnlyLemmas as lemmas
use Rattle.core_laws.proofs.reaping.keeps_only_taken.Goals as goal

pub returns : goal.returns
returns g c = lemmas.keeps_only_taken _ _ _
