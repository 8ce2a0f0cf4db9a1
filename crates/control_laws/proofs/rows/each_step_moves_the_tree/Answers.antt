use Rattle.control_laws.proofs.TreeOfLemmas.{steps_are_moves}
use Rattle.control_laws.proofs.rows.each_step_moves_the_tree.Goals as goal

pub returns : goal.returns
returns c = steps_are_moves
