use Rattle.endpoint_book.proofs.HeldLemmas.{FreesKey-freed}
use Rattle.endpoint_book.proofs.held.free_of.Goals as goal

pub returns-then-is_holder : goal.returns-then-is_holder
returns-then-is_holder g c =
    let updates = c.swap_remove.ensures.updates in
    FreesKey-freed g.met.K.Eq.laws c.args.key.now c.args.object c.args.entries.now.entries c.swap_remove.new.self.entries
    c.is_holder.result c.is_holder.ensures c.if-is_holder.true (updates.1, updates.3)
