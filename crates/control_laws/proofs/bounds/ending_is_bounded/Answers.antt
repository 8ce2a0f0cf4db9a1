use Rattle.control_laws.proofs.BoundLemmas.{ending_is_bounded}
use Rattle.control_laws.proofs.bounds.ending_is_bounded.Goals as goal

pub returns : goal.returns
returns c start = ending_is_bounded _ _
