use Rattle.core_laws.proofs.EnderLemmas as lemmas
use Rattle.core_laws.proofs.rows.ended_are_told.Goals as goal

pub returns : goal.returns
returns g c = lemmas.ended_are_told _ _
