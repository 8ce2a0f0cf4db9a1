use Rattle.std.proofs.Common.{sym}
use Rattle.zq_tests_leaves.proofs.OneLemmas.{one_of}
use Rattle.zq_tests_leaves.proofs.sockets.attach.Goals as goal

pub returns-in-Ok-clause-one : goal.returns-in-Ok-clause-one
returns-in-Ok-clause-one c = one_of _ _ _ c.in-Ok.ensures.ok c.the_end.ensures _ _ (sym c.requires.crossed.there) c.requires.crossed.back c.requires.holds c.requires.none
