use Rattle.spec_run.proofs.WorkedFacts.{worked}
use Rattle.spec_run.proofs.laws.worked_runs_of_scripts.Goals as goal

pub returns : goal.returns
returns c = worked c.taken_is_a_prefix_of_committed.ensures c.looks_hold_without_threads.ensures
