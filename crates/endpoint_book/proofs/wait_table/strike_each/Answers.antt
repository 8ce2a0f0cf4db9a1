use Rattle.endpoint_book.specs.WaitLists.{line_of}
use Rattle.endpoint_book.proofs.NotedLemmas.{KeepsElsewhere-more}
use Rattle.endpoint_book.proofs.wait_table.strike_each.Goals as goal

pub waits-preserved : goal.waits-preserved
waits-preserved c =
    KeepsElsewhere-more c.wait-item.result.waiter (line_of c.args.at.now) c.args.owned.now.sets c.waits.owned.sets c.strike_line.new.owned.sets
    c.waits.invariant c.strike_line.ensures
