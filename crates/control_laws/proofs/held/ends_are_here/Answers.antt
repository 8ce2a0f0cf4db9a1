use Rattle.control_laws.proofs.HeldStepLemmas.{ends_are_here}
use Rattle.control_laws.proofs.held.ends_are_here.Goals as goal

pub returns : goal.returns
returns c start = ends_are_here _ _
