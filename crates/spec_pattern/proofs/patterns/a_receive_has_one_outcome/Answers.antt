use Rattle.spec_pattern.proofs.ReceiveLemmas.{a_receive_has_one}
use Rattle.spec_pattern.proofs.patterns.a_receive_has_one_outcome.Goals as goal

pub returns : goal.returns
returns c = a_receive_has_one
