use Rattle.core_laws.proofs.PastLemmas as lemmas
use Rattle.core_laws.proofs.reaping.looks_stand.Goals as goal

pub returns : goal.returns
returns g c = lemmas.looks_stand g.P.Pipes.known _ c.reaper_looks_go_on.ensures c.pipes_are_settled.ensures
