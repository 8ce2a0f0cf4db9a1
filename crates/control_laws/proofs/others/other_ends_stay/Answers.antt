use Rattle.control_laws.proofs.EventLemmas.{other_ends_stay}
use Rattle.control_laws.proofs.others.other_ends_stay.Goals as goal

pub returns : goal.returns
returns c start = other_ends_stay _ _
