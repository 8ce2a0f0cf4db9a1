use Rattle.core_laws.proofs.ReaperLemmas.{reapers_keep}
use Rattle.core_laws.proofs.standing.reapers_keep.Goals as goal

pub returns : goal.returns
returns g c = reapers_keep _ _ _
