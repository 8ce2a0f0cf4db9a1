use Rattle.core_laws.proofs.ReapedComingLemmas as lemmas
use Rattle.core_laws.proofs.reaped.closed_binds_fit.Goals as goal

pub returns : goal.returns
returns g c = lemmas.closed_binds_fit g.P.Pipes.known _ _
