use Rattle.core_laws.proofs.ToldLemmas.{reaps_are_told}
use Rattle.core_laws.proofs.standing.reaps_are_told.Goals as goal

pub returns : goal.returns
returns g c = reaps_are_told g.P.Pipes.known _ _ c.calls_go_on.ensures c.tales_go_on.ensures
