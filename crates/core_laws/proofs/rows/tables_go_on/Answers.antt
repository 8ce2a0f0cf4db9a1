use Rattle.core_laws.proofs.TableLemmas as lemmas
use Rattle.core_laws.proofs.rows.tables_go_on.Goals as goal

pub returns : goal.returns
returns g c = lemmas.tables_go_on _ _
