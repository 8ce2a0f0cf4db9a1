use Rattle.endpoint_book.specs.WaitLists.{line_of}
use Rattle.endpoint_book.specs.NotedWaits.{KeepsElsewhere}
use Rattle.endpoint_book.proofs.wait_table.strike_each.Given as goal

abbrev pub invariant-waits : goal.invariant-waits
invariant-waits l = KeepsElsewhere (line_of l.fn.at) l.fn.owned.sets l.owned.sets
