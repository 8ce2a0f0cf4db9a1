use Rattle.core_laws.proofs.CameLemmas as lemmas
use Rattle.core_laws.proofs.reaper.reaper_ends_came.Goals as goal

pub returns : goal.returns
returns g c = lemmas.reaper_ends_came g.P.Pipes.known _
