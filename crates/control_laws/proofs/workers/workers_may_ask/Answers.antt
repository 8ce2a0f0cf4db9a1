use Rattle.control_laws.proofs.WorkerLemmas.{workers_may_ask}
use Rattle.control_laws.proofs.workers.workers_may_ask.Goals as goal

pub returns : goal.returns
returns c start = workers_may_ask _ _
