use Rattle.spec_pattern.proofs.SendLemmas.{a_send_has_one}
use Rattle.spec_pattern.proofs.patterns.a_send_has_one_outcome.Goals as goal

pub returns : goal.returns
returns c = a_send_has_one
