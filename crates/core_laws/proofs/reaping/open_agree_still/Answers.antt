use Rattle.core_laws.proofs.AgreeLemmas as lemmas
use Rattle.core_laws.proofs.reaping.open_agree_still.Goals as goal

pub returns : goal.returns
returns g c = lemmas.open_agree_still _ _ g.P.Pipes.known c.ends_are_sealed_once.ensures
