use Rattle.replay_laws.proofs.DoneLemmas.{local_scripts}
use Rattle.replay_laws.proofs.done.local_scripts_run_locally.Goals as goal

pub returns : goal.returns
returns c start = local_scripts _ _
