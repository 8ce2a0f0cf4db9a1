use Rattle.socket_laws.proofs.BehindLemmas.{states_are_held}
use Rattle.socket_laws.proofs.open.states_are_held.Goals as goal

pub returns : goal.returns
returns c start = states_are_held _ _ _ _ _
