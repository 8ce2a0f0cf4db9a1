use Rattle.closed_ends.proofs.LookLemmas.{looks_go_on as goes_on}
use Rattle.closed_ends.proofs.laws.looks_go_on.Goals as goal

pub returns : goal.returns
returns g c = goes_on g.P.Pipes.known c.requires (g.met.P.Pipes.one_in c.requires)
