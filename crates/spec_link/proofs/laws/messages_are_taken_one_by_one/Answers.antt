use Rattle.spec_link.proofs.OneByOneLemmas.{one_by_one}
use Rattle.spec_link.proofs.laws.messages_are_taken_one_by_one.Goals as goal

pub returns : goal.returns
returns c = one_by_one
