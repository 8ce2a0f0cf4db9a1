use Rattle.core_laws.proofs.ComingLemmas.{sends_no_other}
use Rattle.core_laws.proofs.laws.sends_no_other.Goals as goal

pub returns : goal.returns
returns g c = sends_no_other _ _ _
