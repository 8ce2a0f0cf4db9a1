use Rattle.end_table.proofs.OthersLemmas.{leaves_on}
use Rattle.end_table.proofs.held_laws.stretches_leave_others.Goals as goal

pub returns : goal.returns
returns g c = leaves_on g.P.Pipes.known
