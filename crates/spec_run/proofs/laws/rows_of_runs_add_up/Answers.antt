use Rattle.spec_run.proofs.RowLemmas.{rows_add_up}
use Rattle.spec_run.proofs.laws.rows_of_runs_add_up.Goals as goal

pub returns : goal.returns
returns c start = rows_add_up
