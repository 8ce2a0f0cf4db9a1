use Rattle.socket_laws.proofs.SealLemmas as lemmas
use Rattle.socket_laws.proofs.past.seals_are_new.Goals as goal

pub returns : goal.returns
returns g c = lemmas.seals_are_new _ _ _
