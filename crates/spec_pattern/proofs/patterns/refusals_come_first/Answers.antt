use Rattle.spec_pattern.proofs.FirstReceiveLemmas.{come_first}
use Rattle.spec_pattern.proofs.patterns.refusals_come_first.Goals as goal

pub returns : goal.returns
returns c = come_first
