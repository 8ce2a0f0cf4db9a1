use Rattle.core_laws.proofs.SendLemmas.{sends_none_at_all}
use Rattle.core_laws.proofs.laws.sends_none_at_all.Goals as goal

pub returns : goal.returns
returns g c = sends_none_at_all _ _ _
