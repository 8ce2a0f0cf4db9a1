use Rattle.control_laws.proofs.WorkedLemmas.{first_room_is_so}
use Rattle.control_laws.proofs.bounds.first_room_is_so.Goals as goal

pub returns : goal.returns
returns c = first_room_is_so
