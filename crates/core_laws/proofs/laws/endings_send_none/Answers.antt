use Rattle.core_laws.proofs.NoneLemmas.{endings_send_none}
use Rattle.core_laws.proofs.laws.endings_send_none.Goals as goal

pub returns : goal.returns
returns g c = endings_send_none _ _ _
