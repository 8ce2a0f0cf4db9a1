use Rattle.core_laws.proofs.ThereLemmas as lemmas
use Rattle.core_laws.proofs.reaping.reaper_keeps_names.Goals as goal

pub returns : goal.returns
returns g c = lemmas.reaper_keeps_names g.P.Pipes.known _
