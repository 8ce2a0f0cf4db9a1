use Rattle.core_laws.proofs.LineLemmas.{lines_are_on}
use Rattle.core_laws.proofs.laws.lines_are_on.Goals as goal

pub returns : goal.returns
returns g c = lines_are_on _ _ g.P.Pipes.known
