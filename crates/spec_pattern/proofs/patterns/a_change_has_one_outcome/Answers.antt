use Rattle.spec_pattern.proofs.PumpLemmas.{a_change_has_one}
use Rattle.spec_pattern.proofs.patterns.a_change_has_one_outcome.Goals as goal

pub returns : goal.returns
returns c = a_change_has_one
