use Rattle.core_laws.proofs.ComingLemmas.{old_ends_came}
use Rattle.core_laws.proofs.laws.old_ends_came.Goals as goal

pub returns : goal.returns
returns g c = old_ends_came _ _ _
