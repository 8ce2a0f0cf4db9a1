use Rattle.core_laws.proofs.ArriveLemmas as lemmas
use Rattle.core_laws.proofs.reaped.reaper_came_so.Goals as goal

pub returns : goal.returns
returns g c = lemmas.reaper_came_so g.P.Pipes.known _
