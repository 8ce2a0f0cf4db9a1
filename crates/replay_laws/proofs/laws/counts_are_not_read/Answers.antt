use Rattle.replay_laws.proofs.BlankLemmas as lemmas
use Rattle.replay_laws.proofs.laws.counts_are_not_read.Goals as goal

pub returns : goal.returns
returns c start = lemmas.counts_are_not_read
