use Rattle.core_laws.proofs.ReapedNoneLemmas as lemmas
use Rattle.core_laws.proofs.reaped.none_came.Goals as goal

pub returns : goal.returns
returns g c = lemmas.none_came g.P.Pipes.known _
