use Rattle.core_laws.proofs.ReapedCallLemmas as lemmas
use Rattle.core_laws.proofs.reaped.reapers_calls_are_so.Goals as goal

pub returns : goal.returns
returns g c = lemmas.reapers_calls_are_so _ _ _
