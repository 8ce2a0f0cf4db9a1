use Rattle.core_laws.proofs.RestLemmas.{others_agree_still}
use Rattle.core_laws.proofs.laws.others_agree_still.Goals as goal

pub returns : goal.returns
returns g c = others_agree_still _ _ g.P.Pipes.known c.ends_are_sealed_once.ensures
