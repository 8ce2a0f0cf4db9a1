use Rattle.closed_ends.proofs.LawLemmas.{sockets_sound}
use Rattle.closed_ends.proofs.laws.sockets_stay_sound.Goals as goal

pub returns : goal.returns
returns g c = sockets_sound g.P.Pipes.known
