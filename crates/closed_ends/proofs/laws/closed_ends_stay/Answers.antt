use Rattle.closed_ends.proofs.LawLemmas.{closed_sound}
use Rattle.closed_ends.proofs.laws.closed_ends_stay.Goals as goal

pub returns : goal.returns
returns g c = closed_sound g.P.Pipes.known
