use Rattle.std.proofs.Common.{◌∙◌, sym}
use Rattle.endpoint_book.specs.WaitLists.{line_of}
use Rattle.endpoint_book.proofs.NotedLemmas.{KeepsNoted-struck}
use Rattle.endpoint_book.proofs.wait_table.strike_bare.Goals as goal

pub returns-then-not-has_beside : goal.returns-then-not-has_beside
returns-then-not-has_beside c =
    KeepsNoted-struck c.args.object (line_of c.args.at.now) c.args.lists.now c.args.owned.now.sets c.strike_line.new.owned.sets
    (sym c.has_beside.ensures ∙ c.if-not-has_beside.true) c.strike_line.ensures
