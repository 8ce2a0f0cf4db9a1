use Rattle.spec_control.proofs.TrialLemmas.{worker_comes_out}
use Rattle.spec_control.proofs.held.a_worker_knows_its_session.Goals as goal

pub returns : goal.returns
returns c = worker_comes_out
