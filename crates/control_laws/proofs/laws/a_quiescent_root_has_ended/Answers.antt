use Rattle.control_laws.proofs.RootLemmas.{quiescent_root_has_ended}
use Rattle.control_laws.proofs.laws.a_quiescent_root_has_ended.Goals as goal

pub returns : goal.returns
returns c start = quiescent_root_has_ended _ _
