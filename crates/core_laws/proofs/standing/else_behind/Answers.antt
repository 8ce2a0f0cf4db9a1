use Rattle.core_laws.proofs.ReaperLemmas.{else_behind}
use Rattle.core_laws.proofs.standing.else_behind.Goals as goal

pub returns : goal.returns
returns g c = else_behind g.P.Pipes.known _ _
