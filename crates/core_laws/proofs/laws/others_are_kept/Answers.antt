use Rattle.core_laws.proofs.RestLemmas.{others_are_kept}
use Rattle.core_laws.proofs.laws.others_are_kept.Goals as goal

pub returns : goal.returns
returns g c = others_are_kept _ _ g.P.Pipes.known c.ends_are_sealed_once.ensures
