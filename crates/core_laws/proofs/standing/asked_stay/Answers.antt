use Rattle.core_laws.proofs.ReaperLemmas.{asked_stay}
use Rattle.core_laws.proofs.standing.asked_stay.Goals as goal

pub returns : goal.returns
returns g c = asked_stay _ _ _ c.ends_are_sealed_once.ensures
