use Rattle.reaper.proofs.DoneLemmas.{reaps_go_on}
use Rattle.reaper.proofs.laws.reaps_go_on.Goals as goal

pub returns : goal.returns
returns g c = reaps_go_on _ g.P.Pipes.known c.reaps_are_so.ensures
