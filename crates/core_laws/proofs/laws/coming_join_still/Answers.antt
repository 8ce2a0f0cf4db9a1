use Rattle.core_laws.proofs.JoinLemmas.{coming_join_still}
use Rattle.core_laws.proofs.laws.coming_join_still.Goals as goal

pub returns : goal.returns
returns g c = coming_join_still _ _ g.P.Pipes.known _ _
