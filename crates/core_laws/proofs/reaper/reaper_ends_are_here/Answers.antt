use Rattle.core_laws.proofs.HereLemmas as lemmas
use Rattle.core_laws.proofs.reaper.reaper_ends_are_here.Goals as goal

pub returns : goal.returns
returns g c = lemmas.reaper_ends_are_here g.P.Pipes.known
