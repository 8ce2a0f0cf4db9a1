use Rattle.endpoint_book.proofs.HeldLemmas.{FreesSome-more}
use Rattle.endpoint_book.proofs.held.free_all.Goals as goal

pub keys-preserved : goal.keys-preserved
keys-preserved g c =
    FreesSome-more c.args.object c.keys.left.keys c.pop.new.self.keys c.in-Some.key c.args.entries.now.entries c.keys.entries.entries c.free_of.new.entries.entries
    c.in-Some.ensures.keys c.keys.invariant c.free_of.ensures
