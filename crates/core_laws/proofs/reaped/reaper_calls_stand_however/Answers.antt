use Rattle.core_laws.proofs.ReapedStandLemmas as lemmas
use Rattle.core_laws.proofs.reaped.reaper_calls_stand_however.Goals as goal

pub returns : goal.returns
returns g c = lemmas.reaper_calls_stand_however g.P.Pipes.known _ c.reaper_calls_go_on.ensures c.reaper_changes_are_of_pipes.ensures c.reaper_ends_were_asked.ensures c.reaper_counts_go_on.ensures
