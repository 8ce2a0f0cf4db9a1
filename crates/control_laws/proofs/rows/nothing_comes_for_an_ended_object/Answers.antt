use Rattle.control_laws.proofs.RowLemmas.{nothing_for_ended}
use Rattle.control_laws.proofs.rows.nothing_comes_for_an_ended_object.Goals as goal

pub returns : goal.returns
returns c = nothing_for_ended
