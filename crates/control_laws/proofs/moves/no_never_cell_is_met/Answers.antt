use Rattle.control_laws.proofs.MetLemmas.{never_cells_are_not_met}
use Rattle.control_laws.proofs.moves.no_never_cell_is_met.Goals as goal

pub returns : goal.returns
returns c start = never_cells_are_not_met _ _
