use Rattle.core_laws.proofs.OwnedLemmas.{others_stay_owned}
use Rattle.core_laws.proofs.laws.others_stay_owned.Goals as goal

pub returns : goal.returns
returns g c = others_stay_owned _ _ g.P.Pipes.known
