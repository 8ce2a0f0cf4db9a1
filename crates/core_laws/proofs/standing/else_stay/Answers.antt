use Rattle.core_laws.proofs.ReaperLemmas.{else_stay}
use Rattle.core_laws.proofs.standing.else_stay.Goals as goal

pub returns : goal.returns
returns g c = else_stay g.P.Pipes.known _ _
