use Rattle.core_laws.proofs.GoLemmas as lemmas
use Rattle.core_laws.proofs.reaper.reaper_ends_go_on.Goals as goal

pub returns : goal.returns
returns g c = lemmas.reaper_ends_go_on g.P.Pipes.known
