use Rattle.control_laws.proofs.WorkedLemmas.{worked_counts}
use Rattle.control_laws.proofs.bounds.worked_counts_are_so.Goals as goal

pub returns : goal.returns
returns c = worked_counts
