use Rattle.core_laws.proofs.ReapedJoinLemmas as lemmas
use Rattle.core_laws.proofs.reaped.bound_ends_stand.Goals as goal

pub returns : goal.returns
returns g c = lemmas.bound_ends_stand g.P.Pipes.known _
