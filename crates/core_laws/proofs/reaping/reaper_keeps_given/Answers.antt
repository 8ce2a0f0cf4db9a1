use Rattle.core_laws.proofs.GivenLemmas as lemmas
use Rattle.core_laws.proofs.reaping.reaper_keeps_given.Goals as goal

pub returns : goal.returns
returns g c = lemmas.reaper_keeps_given g.P.Pipes.known _
