use Rattle.core_laws.proofs.PastLemmas as lemmas
use Rattle.core_laws.proofs.reaping.looks_are_shut.Goals as goal

pub returns : goal.returns
returns g c = lemmas.looks_are_shut g.P.Pipes.known _
