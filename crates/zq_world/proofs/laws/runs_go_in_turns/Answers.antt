use Rattle.zq_world.proofs.AskedLemmas.{in_turns}
use Rattle.zq_world.proofs.laws.runs_go_in_turns.Goals as goal

pub returns : goal.returns
returns g c as_open script seed limit done old new pieces order same runs one = in_turns as_open script seed limit done old new pieces order same runs one
