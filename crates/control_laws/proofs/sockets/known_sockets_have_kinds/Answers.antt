use Rattle.control_laws.proofs.KnownLemmas.{known_sockets_have_kinds}
use Rattle.control_laws.proofs.sockets.known_sockets_have_kinds.Goals as goal

pub returns : goal.returns
returns c start = known_sockets_have_kinds _ _
