use Rattle.socket_laws.proofs.StopLemmas.{stops_are_told}
use Rattle.socket_laws.proofs.open.stops_are_told.Goals as goal

pub returns : goal.returns
returns c start = stops_are_told _ _
