use Rattle.core_laws.proofs.SealedLemmas as lemmas
use Rattle.core_laws.proofs.reaper.asked_go_on.Goals as goal

pub returns : goal.returns
returns g c = lemmas.asked_go_on _ _ _ _ c.ends_are_sealed_once.ensures
