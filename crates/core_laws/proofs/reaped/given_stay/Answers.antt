use Rattle.core_laws.proofs.GrowLemmas as lemmas
use Rattle.core_laws.proofs.reaped.given_stay.Goals as goal

pub returns : goal.returns
returns g c = lemmas.given_stay _ _ _ _ c.ends_are_sealed_once.ensures
