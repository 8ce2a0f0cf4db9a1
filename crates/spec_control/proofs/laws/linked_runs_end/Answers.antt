use Rattle.spec_control.proofs.LinkExampleLemmas.{linked_runs}
use Rattle.spec_control.proofs.laws.linked_runs_end.Goals as goal

pub returns : goal.returns
returns c = linked_runs
