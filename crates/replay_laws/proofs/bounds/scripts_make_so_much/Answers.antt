use Rattle.replay_laws.proofs.BoundLemmas.{make_so_much}
use Rattle.replay_laws.proofs.bounds.scripts_make_so_much.Goals as goal

pub returns : goal.returns
returns g c = make_so_much _ _ c.local_scripts_run_locally.ensures
