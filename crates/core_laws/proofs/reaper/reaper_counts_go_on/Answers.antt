use Rattle.core_laws.proofs.CountLemmas as lemmas
use Rattle.core_laws.proofs.reaper.reaper_counts_go_on.Goals as goal

pub returns : goal.returns
returns g c = lemmas.reaper_counts_go_on g.P.Pipes.known _ (g.met.P.Pipes.one_out c.requires) (g.met.P.Pipes.one_in c.requires) c.pipes_are_settled.ensures
