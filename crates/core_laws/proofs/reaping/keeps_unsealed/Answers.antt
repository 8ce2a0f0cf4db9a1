use Rattle.core_laws.proofs.UnsealedLemmas as lemmas
use Rattle.core_laws.proofs.reaping.keeps_unsealed.Goals as goal

pub returns : goal.returns
returns g c = lemmas.keeps_unsealed g.P.Pipes.known _
