use Rattle.socket_laws.proofs.SaidLemmas as lemmas
use Rattle.socket_laws.proofs.past.steps_are_said.Goals as goal

pub returns : goal.returns
returns g c = lemmas.steps_are_said _ _ _ _ _ c.seals_are_told.ensures c.seals_are_new.ensures
