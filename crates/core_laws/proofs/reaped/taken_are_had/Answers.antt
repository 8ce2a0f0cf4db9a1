use Rattle.core_laws.proofs.PlugLemmas as lemmas
use Rattle.core_laws.proofs.reaped.taken_are_had.Goals as goal

pub returns : goal.returns
returns g c = lemmas.taken_are_had g.P.Pipes.known _ _
