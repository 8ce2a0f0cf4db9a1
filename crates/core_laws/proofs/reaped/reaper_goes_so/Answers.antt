use Rattle.core_laws.proofs.SoLemmas as lemmas
use Rattle.core_laws.proofs.reaped.reaper_goes_so.Goals as goal

pub returns : goal.returns
returns g c = lemmas.reaper_goes_so g.P.Pipes.known _
