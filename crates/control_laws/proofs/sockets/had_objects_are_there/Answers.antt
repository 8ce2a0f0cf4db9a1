use Rattle.control_laws.proofs.ThereLemmas.{had_objects_are_there}
use Rattle.control_laws.proofs.sockets.had_objects_are_there.Goals as goal

pub returns : goal.returns
returns c start = had_objects_are_there _ _
