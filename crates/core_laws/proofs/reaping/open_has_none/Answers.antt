use Rattle.core_laws.proofs.ElseLemmas as lemmas
use Rattle.core_laws.proofs.reaping.open_has_none.Goals as goal

pub returns : goal.returns
returns g c = lemmas.open_has_none _ _ g.P.Pipes.known
