use Rattle.control_laws.proofs.HeldOthersLemmas.{other_holders_stay}
use Rattle.control_laws.proofs.held.other_holders_stay.Goals as goal

pub returns : goal.returns
returns c start = other_holders_stay _ _
