use Rattle.control_laws.proofs.EndStepLemmas.{ends_live}
use Rattle.control_laws.proofs.rows.each_step_moves_ends_by_the_table.Goals as goal

pub returns : goal.returns
returns c = ends_live
