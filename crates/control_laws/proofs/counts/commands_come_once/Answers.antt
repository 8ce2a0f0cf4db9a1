use Rattle.control_laws.proofs.OrderlyLemmas.{commands_come_once}
use Rattle.control_laws.proofs.counts.commands_come_once.Goals as goal

pub returns : goal.returns
returns c start = commands_come_once _ _
