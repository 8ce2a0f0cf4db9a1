use Rattle.core_laws.proofs.SoLemmas as lemmas
use Rattle.core_laws.proofs.reaped.reaper_calls_stand_so.Goals as goal

pub returns : goal.returns
returns g c = lemmas.reaper_calls_stand_so g.P.Pipes.known _ (g.met.P.Pipes.one_out c.requires) (g.met.P.Pipes.one_in c.requires) c.reaper_calls_go_on.ensures c.reaper_changes_are_of_pipes.ensures c.reaper_ends_were_asked.ensures c.reaper_counts_go_on.ensures c.past_stays_over_control.ensures
