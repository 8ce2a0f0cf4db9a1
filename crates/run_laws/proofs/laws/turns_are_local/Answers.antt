use Rattle.run_laws.proofs.TurnLemmas.{turns_local}
use Rattle.run_laws.proofs.laws.turns_are_local.Goals as goal

pub returns : goal.returns
returns c start = turns_local
