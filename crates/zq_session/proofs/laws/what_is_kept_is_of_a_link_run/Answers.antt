use Rattle.zq_session.proofs.UnputLemmas.{means_link_run}
use Rattle.zq_session.proofs.laws.what_is_kept_is_of_a_link_run.Goals as goal

pub returns : goal.returns
returns c = λ opts acts k r rest. means_link_run opts acts k r rest
