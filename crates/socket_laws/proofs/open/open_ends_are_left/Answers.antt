use Rattle.socket_laws.proofs.LeftLemmas.{open_ends_are_left}
use Rattle.socket_laws.proofs.open.open_ends_are_left.Goals as goal

pub returns : goal.returns
returns c start = open_ends_are_left _ _
