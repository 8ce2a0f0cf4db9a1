use Rattle.core_laws.proofs.GrownLemmas.{objects_are_there}
use Rattle.core_laws.proofs.laws.objects_are_there.Goals as goal

pub returns : goal.returns
returns g c = objects_are_there _ _ _
