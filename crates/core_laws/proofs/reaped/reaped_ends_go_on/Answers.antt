use Rattle.core_laws.proofs.EndLemmas as lemmas
use Rattle.core_laws.proofs.reaped.reaped_ends_go_on.Goals as goal

pub returns : goal.returns
returns g c = lemmas.reaped_ends_go_on g.P.Pipes.known _
