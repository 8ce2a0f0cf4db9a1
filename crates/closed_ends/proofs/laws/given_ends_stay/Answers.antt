use Rattle.closed_ends.proofs.LawLemmas.{given_stay}
use Rattle.closed_ends.proofs.laws.given_ends_stay.Goals as goal

pub returns : goal.returns
returns g c = given_stay g.P.Pipes.known
