use Rattle.core_laws.proofs.AskedLemmas.{asks_its_own}
use Rattle.core_laws.proofs.asked.asks_its_own.Goals as goal

pub returns : goal.returns
returns g c = asks_its_own _ _ _ _
