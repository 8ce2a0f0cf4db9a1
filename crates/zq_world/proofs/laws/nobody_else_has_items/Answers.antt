use Rattle.zq_world.proofs.ToldLemmas.{nobody_else}
use Rattle.zq_world.proofs.laws.nobody_else_has_items.Goals as goal

pub returns : goal.returns
returns g c as_open script seed limit done old new pieces order same runs one = nobody_else as_open script seed limit done old new pieces order same runs one
