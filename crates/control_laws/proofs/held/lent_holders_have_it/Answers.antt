use Rattle.control_laws.proofs.HaveLemmas.{lent_holders_have_it}
use Rattle.control_laws.proofs.held.lent_holders_have_it.Goals as goal

pub returns : goal.returns
returns c start = lent_holders_have_it _ _
