use Rattle.socket_laws.proofs.BehindLemmas.{told_ends_go_on}
use Rattle.socket_laws.proofs.open.told_ends_go_on.Goals as goal

pub returns : goal.returns
returns c start = told_ends_go_on _ _
