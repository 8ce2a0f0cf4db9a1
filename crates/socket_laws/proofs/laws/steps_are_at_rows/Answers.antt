use Rattle.socket_laws.proofs.RowLemmas as lemmas
use Rattle.socket_laws.proofs.laws.steps_are_at_rows.Goals as goal

pub returns : goal.returns
returns g c = lemmas.steps_are_at_rows g.P.Pipes.known _ _
