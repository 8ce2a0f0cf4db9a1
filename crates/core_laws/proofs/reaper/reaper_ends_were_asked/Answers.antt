use Rattle.core_laws.proofs.SealedLemmas as lemmas
use Rattle.core_laws.proofs.reaper.reaper_ends_were_asked.Goals as goal

pub returns : goal.returns
returns g c = lemmas.reaper_ends_were_asked g.P.Pipes.known _ c.ends_are_sealed_once.ensures
