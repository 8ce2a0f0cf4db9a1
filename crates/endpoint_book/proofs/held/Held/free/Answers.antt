use Rattle.endpoint_book.proofs.HeldLemmas.{AreNoted-freed}
use Rattle.endpoint_book.proofs.held.Held.free.Goals as goal

pub invariant_of-self : goal.invariant_of-self
invariant_of-self g c =
    let updates = c.swap_remove.ensures.updates in
    AreNoted-freed g.met.K.Eq.laws c.in-Some.binding.holder (g.Q.Equivalent.equivalent c.args.key) c.self.inside.entries.entries c.swap_remove.new.self.entries c.self.inside.owned.sets c.strike.new.self.sets
    (g.met.Q.Equivalent.respects_eq c.args.key) c.self.invariant (updates.1, updates.3) c.strike.ensures
