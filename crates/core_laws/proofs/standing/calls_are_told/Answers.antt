use Rattle.core_laws.proofs.ToldLemmas.{calls_are_told}
use Rattle.core_laws.proofs.standing.calls_are_told.Goals as goal

pub returns : goal.returns
returns g c = calls_are_told g.P.Pipes.known _ _ c.calls_go_on.ensures c.tales_go_on.ensures
