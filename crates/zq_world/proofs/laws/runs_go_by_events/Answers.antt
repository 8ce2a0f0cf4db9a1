use Rattle.zq_world.proofs.GoesLemmas.{is_run_made, is_of_events}
use Rattle.zq_world.proofs.laws.runs_go_by_events.Goals as goal

pub returns : goal.returns
returns g c script events made new pieces order go by are orderly =
    (is_run_made script events made new pieces order go by are orderly, is_of_events script events made new pieces order go by are orderly)
