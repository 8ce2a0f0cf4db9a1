use Rattle.replay_laws.proofs.ReadLemmas.{read_may}
use Rattle.replay_laws.proofs.reading.scripts_that_are_read_may_be_asked.Goals as goal

pub returns : goal.returns
returns c = read_may
