use Rattle.spec_pattern.proofs.PumpedLemmas.{pumped_calls_have_one}
use Rattle.spec_pattern.proofs.patterns.a_pumped_call_has_one_outcome.Goals as goal

pub returns : goal.returns
returns c = pumped_calls_have_one
