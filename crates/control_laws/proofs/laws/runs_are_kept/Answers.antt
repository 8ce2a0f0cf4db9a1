use Rattle.control_laws.proofs.RootLemmas.{runs_are_kept}
use Rattle.control_laws.proofs.laws.runs_are_kept.Goals as goal

pub returns : goal.returns
returns c start = runs_are_kept _ _
