use Rattle.core_laws.proofs.ItemLemmas as lemmas
use Rattle.core_laws.proofs.reaped.items_bring.Goals as goal

pub returns : goal.returns
returns g c = lemmas.items_bring _ _
