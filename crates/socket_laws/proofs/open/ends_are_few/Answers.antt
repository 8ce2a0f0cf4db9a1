use Rattle.socket_laws.proofs.FewLemmas.{ends_are_few}
use Rattle.socket_laws.proofs.open.ends_are_few.Goals as goal

pub returns : goal.returns
returns c start = ends_are_few _ _
