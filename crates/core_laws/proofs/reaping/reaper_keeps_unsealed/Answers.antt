use Rattle.core_laws.proofs.ReapedLemmas as lemmas
use Rattle.core_laws.proofs.reaping.reaper_keeps_unsealed.Goals as goal

pub returns : goal.returns
returns g c = lemmas.reaper_keeps_unsealed g.P.Pipes.known _
