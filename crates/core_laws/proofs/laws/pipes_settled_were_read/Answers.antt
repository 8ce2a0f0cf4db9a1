use Rattle.core_laws.proofs.SettledLemmas.{settled_were_read}
use Rattle.core_laws.proofs.laws.pipes_settled_were_read.Goals as goal

pub returns : goal.returns
returns g c = settled_were_read g.P.Pipes.known
