use Rattle.core_laws.proofs.HeldLemmas as lemmas
use Rattle.core_laws.proofs.reaping.reaper_keeps_taken.Goals as goal

pub returns : goal.returns
returns g c = lemmas.reaper_keeps_taken g.P.Pipes.known _
