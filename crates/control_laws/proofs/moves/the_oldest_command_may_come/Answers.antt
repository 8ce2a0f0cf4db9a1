use Rattle.control_laws.proofs.GuardLemmas.{oldest_may_come}
use Rattle.control_laws.proofs.moves.the_oldest_command_may_come.Goals as goal

pub returns : goal.returns
returns c start = oldest_may_come _ _
