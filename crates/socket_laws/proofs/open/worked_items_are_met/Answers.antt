use Rattle.socket_laws.proofs.WorkedLemmas.{worked_items}
use Rattle.socket_laws.proofs.open.worked_items_are_met.Goals as goal

pub returns : goal.returns
returns c = worked_items
