use Rattle.std.proofs.Common.{length}
use Rattle.endpoint_book.proofs.NotedLemmas.{DropsSome}
use Rattle.endpoint_book.proofs.wait_table.drop_all.Given as goal

abbrev pub invariant-lines : goal.invariant-lines
invariant-lines l = DropsSome l.object l.left.keys l.fn.lists l.lists

abbrev pub decreases-lines : goal.decreases-lines
decreases-lines l = length l.left.keys
