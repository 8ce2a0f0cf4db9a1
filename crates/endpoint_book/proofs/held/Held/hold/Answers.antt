use Rattle.std.proofs.Common.{subst, Some}
use Rattle.endpoint_book.specs.Held.{PutsHolder}
use Rattle.endpoint_book.proofs.HeldLemmas.{AreNoted-held}
use Rattle.endpoint_book.proofs.held.Held.hold.Goals as goal

pub invariant_of-self-2 : goal.invariant_of-self-2
invariant_of-self-2 g c =
    let eq = g.K.PartialEq.eq in
    let updates = c.in_ok-insert.ensures.updates in
    AreNoted-held g.met.K.Eq.laws c.args.key c.args.noted c.args.binding c.self.inside.entries.entries c.insert.new.self.entries c.self.inside.owned.sets c.note.new.self.sets
    c.requires c.self.invariant
    (subst (λ es. PutsHolder eq (eq c.args.key) (Some c.args.binding) es c.insert.new.self.entries) c.reserve.ensures.entries (updates.1, updates.3))
    c.in_ok-note.ensures.ok
