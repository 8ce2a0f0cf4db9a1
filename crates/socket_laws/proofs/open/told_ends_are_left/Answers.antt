use Rattle.socket_laws.proofs.ToldLemmas.{told_ends_are_left}
use Rattle.socket_laws.proofs.open.told_ends_are_left.Goals as goal

pub returns : goal.returns
returns c start = told_ends_are_left _ _
