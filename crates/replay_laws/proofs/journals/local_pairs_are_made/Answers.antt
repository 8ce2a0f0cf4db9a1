use Rattle.replay_laws.proofs.MadeRowLemmas.{local_pairs}
use Rattle.replay_laws.proofs.journals.local_pairs_are_made.Goals as goal

pub returns : goal.returns
returns c start = local_pairs _ _
