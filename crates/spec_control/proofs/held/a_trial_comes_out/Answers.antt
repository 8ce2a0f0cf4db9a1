use Rattle.spec_control.proofs.TrialLemmas.{trial_comes_out}
use Rattle.spec_control.proofs.held.a_trial_comes_out.Goals as goal

pub returns : goal.returns
returns c = trial_comes_out
