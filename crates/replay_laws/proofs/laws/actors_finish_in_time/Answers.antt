use Rattle.replay_laws.proofs.TimeLemmas.{actors_finish}
use Rattle.replay_laws.proofs.laws.actors_finish_in_time.Goals as goal

pub returns : goal.returns
returns g c = actors_finish _ _
