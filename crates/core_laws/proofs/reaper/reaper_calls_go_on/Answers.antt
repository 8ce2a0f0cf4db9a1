use Rattle.core_laws.proofs.ReaperCallLemmas as lemmas
use Rattle.core_laws.proofs.reaper.reaper_calls_go_on.Goals as goal

pub returns : goal.returns
returns g c = lemmas.reaper_calls_go_on g.P.Pipes.known _ (g.met.P.Pipes.one_out c.requires) (g.met.P.Pipes.one_in c.requires) c.socket_calls_go_on.ensures c.ends_are_sealed_once.ensures c.past_stays_over_control.ensures
