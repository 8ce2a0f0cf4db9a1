use Rattle.replay_laws.proofs.LocalLemmas.{sockets_alone}
use Rattle.replay_laws.proofs.laws.local_runs_have_sockets_alone.Goals as goal

pub returns : goal.returns
returns g c = sockets_alone _ _
