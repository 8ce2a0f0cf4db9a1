use Rattle.socket_laws.proofs.GoLemmas.{ends_go_on}
use Rattle.socket_laws.proofs.open.ends_go_on.Goals as goal

pub returns : goal.returns
returns c start = ends_go_on _ _
