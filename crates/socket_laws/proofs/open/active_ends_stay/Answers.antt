use Rattle.socket_laws.proofs.ReadLemmas.{active_ends_stay}
use Rattle.socket_laws.proofs.open.active_ends_stay.Goals as goal

pub returns : goal.returns
returns c start = active_ends_stay _ _
