use Rattle.socket_laws.proofs.OpenMadeLemmas.{requests_are_answered}
use Rattle.socket_laws.proofs.open.requests_are_answered.Goals as goal

pub returns : goal.returns
returns c start = requests_are_answered _ _
