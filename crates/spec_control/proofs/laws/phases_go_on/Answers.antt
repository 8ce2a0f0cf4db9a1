use Rattle.spec_control.proofs.PhaseLemmas.{phases_are_closed}
use Rattle.spec_control.proofs.laws.phases_go_on.Goals as goal

pub returns : goal.returns
returns c = phases_are_closed
