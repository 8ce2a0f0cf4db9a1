use Rattle.control_laws.proofs.RowLemmas.{all_is_over}
use Rattle.control_laws.proofs.rows.children_and_ends_go_first.Goals as goal

pub returns : goal.returns
returns c = all_is_over
