use Rattle.std.proofs.Common.{subst}
use Rattle.endpoint_book.specs.Held.{Holders, FreesAll}
use Rattle.endpoint_book.proofs.HeldLemmas.{FreesAll-none}
use Rattle.endpoint_book.proofs.held.Held.drop_object.Goals as goal

pub returns-in_default : goal.returns-in_default
returns-in_default g c =
    let es = c.self.inside.entries.entries in
    subst (λ (old : Holders g.row.K.Denot). FreesAll g.K.PartialEq.eq c.args.object old es) c.self.view_is
    (FreesAll-none c.args.object es c.self.inside.owned.sets c.self.invariant c.in_default.ensures.taken)
