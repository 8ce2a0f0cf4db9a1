use Rattle.spec_pattern.proofs.EndsStayLemmas.{ends_stay}
use Rattle.spec_pattern.proofs.patterns.no_end_is_made_by_a_call.Goals as goal

pub returns : goal.returns
returns c = ends_stay
