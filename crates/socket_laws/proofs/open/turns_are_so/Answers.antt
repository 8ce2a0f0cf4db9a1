use Rattle.socket_laws.proofs.TurnLemmas.{turns_are_so}
use Rattle.socket_laws.proofs.open.turns_are_so.Goals as goal

pub returns : goal.returns
returns c start = turns_are_so _ _
