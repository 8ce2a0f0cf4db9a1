use Rattle.core_laws.proofs.SendLemmas.{calls_send_none}
use Rattle.core_laws.proofs.laws.calls_send_none.Goals as goal

pub returns : goal.returns
returns g c = calls_send_none _ _ _
