use Rattle.replay_laws.proofs.RestLemmas.{resting_have_ended}
use Rattle.replay_laws.proofs.done.resting_reapers_have_ended.Goals as goal

pub returns : goal.returns
returns c start = resting_have_ended _ _
