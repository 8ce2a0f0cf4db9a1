use Rattle.core_laws.proofs.ThereLemmas as lemmas
use Rattle.core_laws.proofs.reaping.reaper_leaves_there.Goals as goal

pub returns : goal.returns
returns g c = lemmas.reaper_leaves_there g.P.Pipes.known _
