use Rattle.end_table.proofs.OwnLemmas.{loosely}
use Rattle.end_table.proofs.laws.calls_are_read_loosely.Goals as goal

pub returns : goal.returns
returns g c = λ steps old new place row does held here. loosely g.P.Pipes.known old steps new does held place row here
