use Rattle.zq_tests_leaves.proofs.OneLemmas.{last_of}
use Rattle.zq_tests_leaves.proofs.holders.undo.Goals as goal

pub take_back-halves-requires-clause-last : goal.take_back-halves-requires-clause-last
take_back-halves-requires-clause-last g c = last_of _ _ _ c.requires.one c.the_end.result c.the_end.ensures
