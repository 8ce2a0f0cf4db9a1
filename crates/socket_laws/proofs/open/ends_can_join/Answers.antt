use Rattle.socket_laws.proofs.JoinLemmas.{ends_can_join}
use Rattle.socket_laws.proofs.open.ends_can_join.Goals as goal

pub returns : goal.returns
returns c start = ends_can_join _ _
