use Rattle.core_laws.proofs.HowLemmas as lemmas
use Rattle.core_laws.proofs.reaped.reaper_ends_go_on_however.Goals as goal

pub returns : goal.returns
returns g c = lemmas.reaper_ends_go_on_however g.P.Pipes.known _
