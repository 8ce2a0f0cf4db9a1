use Rattle.spec_pattern.proofs.MadeReceiveLemmas.{calls_have_outcomes}
use Rattle.spec_pattern.proofs.patterns.each_call_has_an_outcome.Goals as goal

pub returns : goal.returns
returns c = calls_have_outcomes
