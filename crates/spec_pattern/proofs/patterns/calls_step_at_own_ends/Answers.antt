use Rattle.spec_pattern.proofs.OwnCallLemmas.{step_at_own_ends}
use Rattle.spec_pattern.proofs.patterns.calls_step_at_own_ends.Goals as goal

pub returns : goal.returns
returns c = step_at_own_ends
