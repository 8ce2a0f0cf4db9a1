use Rattle.endpoint_book.specs.Owned.{keys_under}
use Rattle.endpoint_book.proofs.NotedLemmas.{KeepOthers-none}
use Rattle.endpoint_book.proofs.wait_table.drop_noted.Goals as goal

pub returns-in-None-clause-dropped : goal.returns-in-None-clause-dropped
returns-in-None-clause-dropped c = KeepOthers-none c.args.object (keys_under c.args.owned.now.sets c.args.object) c.args.lists.now c.in-None.ensures.taken c.requires
