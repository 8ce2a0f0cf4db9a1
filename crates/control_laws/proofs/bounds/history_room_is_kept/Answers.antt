use Rattle.control_laws.proofs.HistoryLemmas.{history_room_is_kept}
use Rattle.control_laws.proofs.bounds.history_room_is_kept.Goals as goal

pub returns : goal.returns
returns c start = history_room_is_kept _ _
