use Rattle.socket_laws.proofs.PassLemmas.{items_pass}
use Rattle.socket_laws.proofs.open.items_pass.Goals as goal

pub returns : goal.returns
returns c start = items_pass _ _
