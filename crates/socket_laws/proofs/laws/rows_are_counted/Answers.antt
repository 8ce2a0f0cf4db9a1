use Rattle.socket_laws.proofs.GivenLemmas as lemmas
use Rattle.socket_laws.proofs.laws.rows_are_counted.Goals as goal

pub returns : goal.returns
returns g c = lemmas.rows_are_counted _ _
