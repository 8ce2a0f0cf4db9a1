use Rattle.zq_world.proofs.ToldLemmas.{are_told}
use Rattle.zq_world.proofs.laws.items_of_runs_are_the_workers.Goals as goal

pub returns : goal.returns
returns g c as_open script seed limit done old new pieces order same runs one = are_told as_open script seed limit done old new pieces order same runs one
