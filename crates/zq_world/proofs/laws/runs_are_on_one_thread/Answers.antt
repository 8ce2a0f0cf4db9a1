use Rattle.zq_world.proofs.PlayLemmas.{on_one}
use Rattle.zq_world.proofs.laws.runs_are_on_one_thread.Goals as goal

pub returns : goal.returns
returns g c as_open script seed limit done old new pieces order same runs one exact = on_one as_open script seed limit done old new pieces order same runs one exact
