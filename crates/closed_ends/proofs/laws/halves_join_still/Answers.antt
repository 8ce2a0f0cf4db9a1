use Rattle.closed_ends.proofs.LawLemmas.{halves_fit}
use Rattle.closed_ends.proofs.laws.halves_join_still.Goals as goal

pub returns : goal.returns
returns g c = halves_fit g.P.Pipes.known
