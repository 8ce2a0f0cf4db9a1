use Rattle.std.proofs.Common.{ap, sym}
use Rattle.std.specs.Option.{is_some}
use Rattle.endpoint_book.proofs.OwnedLemmas.{KeepsUnder-struck}
use Rattle.endpoint_book.proofs.owned.Owned.strike.Goals as goal

pub returns-in-Some : goal.returns-in-Some
returns-in-Some g c =
    KeepsUnder-struck g.K.PartialEq.eq (g.Q.Equivalent.equivalent c.args.key) c.args.object c.args.self.now.sets (c.get_mut.follows.lender c.swap_remove.new.self)
    c.in-Some.set.now c.swap_remove.new.self
    ((c.get_mut.follows.holds c.swap_remove.new.self).3 (ap is_some (sym c.in-Some.ensures.value))).0
    c.in-Some.ensures.value c.swap_remove.ensures.updates.3
