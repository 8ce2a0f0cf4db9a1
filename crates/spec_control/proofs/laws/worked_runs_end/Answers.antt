use Rattle.spec_control.proofs.ControlExampleLemmas.{worked_runs}
use Rattle.spec_control.proofs.laws.worked_runs_end.Goals as goal

pub returns : goal.returns
returns c = worked_runs
