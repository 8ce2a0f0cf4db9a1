use Rattle.socket_laws.proofs.MadeLemmas as lemmas
use Rattle.socket_laws.proofs.past.made_names_go_on.Goals as goal

pub returns : goal.returns
returns g c = lemmas.made_names_go_on g.P.Pipes.known _ c.made_pipes_hold.ensures
