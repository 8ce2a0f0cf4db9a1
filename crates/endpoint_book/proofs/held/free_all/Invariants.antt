use Rattle.std.proofs.Common.{length}
use Rattle.endpoint_book.proofs.HeldLemmas.{FreesSome}
use Rattle.endpoint_book.proofs.held.free_all.Given as goal

abbrev pub invariant-keys : goal.invariant-keys
invariant-keys g l = FreesSome g.K.PartialEq.eq l.object l.left.keys l.fn.entries.entries l.entries.entries

abbrev pub decreases-keys : goal.decreases-keys
decreases-keys g l = length l.left.keys
