use Rattle.core_laws.proofs.NoneLemmas.{none_is_sent}
use Rattle.core_laws.proofs.laws.none_is_sent.Goals as goal

pub returns : goal.returns
returns g c = none_is_sent _ _ _
