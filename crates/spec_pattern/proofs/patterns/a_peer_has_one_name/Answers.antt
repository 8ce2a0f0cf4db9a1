use Rattle.spec_pattern.proofs.NamesStayLemmas.{names_stay_one}
use Rattle.spec_pattern.proofs.patterns.a_peer_has_one_name.Goals as goal

pub returns : goal.returns
returns c = names_stay_one
