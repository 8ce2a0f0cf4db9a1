use Rattle.replay_laws.proofs.BoundLemmas.{done_by_script}
use Rattle.replay_laws.proofs.bounds.scripts_are_done_in_time.Goals as goal

pub returns : goal.returns
returns g c = done_by_script _ _ c.scripts_make_so_much.ensures c.runs_are_done_in_time.ensures.done
