use Rattle.zq_world.proofs.MarkLemmas.{goes_on}
use Rattle.zq_world.proofs.tale_laws.tales_go_on.Goals as goal

pub returns : goal.returns
returns g c = goes_on _ _
