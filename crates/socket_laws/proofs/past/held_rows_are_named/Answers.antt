use Rattle.socket_laws.proofs.HeldRowLemmas as lemmas
use Rattle.socket_laws.proofs.past.held_rows_are_named.Goals as goal

pub returns : goal.returns
returns g c = lemmas.held_rows_are_named g.P.Pipes.known _ c.pipes_are_settled.ensures
