use Rattle.zq_world.proofs.MarkLemmas.{tells_all}
use Rattle.zq_world.proofs.tale_laws.tales_tell_all.Goals as goal

pub returns : goal.returns
returns g c = tells_all _ _
