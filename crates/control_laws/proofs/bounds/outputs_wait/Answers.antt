use Rattle.control_laws.proofs.WorkedLemmas.{outputs_wait}
use Rattle.control_laws.proofs.bounds.outputs_wait.Goals as goal

pub returns : goal.returns
returns c = outputs_wait
