use Rattle.socket_laws.proofs.OfPipesLemmas as lemmas
use Rattle.socket_laws.proofs.past.changes_are_of_pipes.Goals as goal

pub returns : goal.returns
returns g c = lemmas.changes_are_of_pipes g.P.Pipes.known _ c.seals_are_told.ensures c.pipes_are_settled.ensures
