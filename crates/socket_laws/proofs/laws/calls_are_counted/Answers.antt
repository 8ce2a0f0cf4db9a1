use Rattle.socket_laws.proofs.CallLemmas as lemmas
use Rattle.socket_laws.proofs.laws.calls_are_counted.Goals as goal

pub returns : goal.returns
returns g c = lemmas.calls_are_counted _ _
