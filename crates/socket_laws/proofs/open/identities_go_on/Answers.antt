use Rattle.socket_laws.proofs.JoinLemmas.{identities_go_on}
use Rattle.socket_laws.proofs.open.identities_go_on.Goals as goal

pub returns : goal.returns
returns c start = identities_go_on _ _
