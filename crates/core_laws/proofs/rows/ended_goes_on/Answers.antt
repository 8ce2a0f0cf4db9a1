use Rattle.core_laws.proofs.EndedRowLemmas as lemmas
use Rattle.core_laws.proofs.rows.ended_goes_on.Goals as goal

pub returns : goal.returns
returns g c = lemmas.ended_goes_on _ _
