use Rattle.spec_pattern.proofs.RefusalLemmas.{come_in_order}
use Rattle.spec_pattern.proofs.laws.refusals_come_in_order.Goals as goal

pub returns : goal.returns
returns c = come_in_order
