use Rattle.std.proofs.Common.{subst}
use Rattle.desk.specs.declared.given.Given.{Given}
use Rattle.zq_world.specs.Played.{IsOrderly}
use Rattle.plain_core.specs.Sound.{Core, core_of, pieces_in}
use Rattle.plain_core.proofs.SoundLemmas as lemmas
use Rattle.plain_core.proofs.context.OneCore.known.Goals as goal

pub returns : goal.returns
returns g c =
    subst (λ (w : Core g.row.P.Denot (Given g.row.P-Name.Denot g.row.P-Out.Denot g.row.P-In.Denot) g.row.P-Name.Denot g.row.P-Story.Denot). IsOrderly (pieces_in w) w.desk.items) c.self.view_is
    (lemmas.core_known g.P.Pipes.known (core_of c.self.inside.lent.desk c.self.inside.lent.pipes c.self.inside.tale.items c.self.inside.wanted) c.self.invariant.0 c.is_of_one_order.ensures c.cores_are_orderly.ensures)
