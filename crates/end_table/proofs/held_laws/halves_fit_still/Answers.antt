use Rattle.end_table.proofs.OthersLemmas.{halves_fitting}
use Rattle.end_table.proofs.held_laws.halves_fit_still.Goals as goal

pub returns : goal.returns
returns g c = halves_fitting g.P.Pipes.known
