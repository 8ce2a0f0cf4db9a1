use Rattle.core_laws.proofs.LookLemmas as lemmas
use Rattle.core_laws.proofs.reaping.looks_keep.Goals as goal

pub returns : goal.returns
returns g c = lemmas.looks_keep _ _ g.P.Pipes.known
