use Rattle.control_laws.proofs.RoomLemmas.{room_is_kept}
use Rattle.control_laws.proofs.bounds.room_is_kept.Goals as goal

pub returns : goal.returns
returns c start = room_is_kept _ _
