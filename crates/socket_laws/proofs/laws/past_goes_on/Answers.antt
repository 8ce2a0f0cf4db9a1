use Rattle.socket_laws.proofs.PastLemmas as lemmas
use Rattle.socket_laws.proofs.laws.past_goes_on.Goals as goal

pub returns : goal.returns
returns g c = lemmas.past_goes_on g.P.Pipes.known c.requires (g.met.P.Pipes.one_out c.requires)
