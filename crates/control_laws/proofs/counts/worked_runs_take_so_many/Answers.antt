use Rattle.control_laws.proofs.OnceExampleLemmas.{taken_examples}
use Rattle.control_laws.proofs.counts.worked_runs_take_so_many.Goals as goal

pub returns : goal.returns
returns c = taken_examples
