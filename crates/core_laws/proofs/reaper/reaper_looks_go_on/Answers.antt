use Rattle.core_laws.proofs.ReaperLookLemmas as lemmas
use Rattle.core_laws.proofs.reaper.reaper_looks_go_on.Goals as goal

pub returns : goal.returns
returns g c = lemmas.reaper_looks_go_on g.P.Pipes.known c.looks_go_on.ensures
