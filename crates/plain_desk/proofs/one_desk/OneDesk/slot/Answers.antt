use Rattle.std.specs.Prelude.{length, map}
use Rattle.std.proofs.Common.{sym, ap, ◌∙◌}
use Rattle.desk.specs.declared.given.Given.{Given}
use Rattle.plain_desk.specs.Lent.{Lent}
use Rattle.plain_desk.proofs.DeliverLemmas.{desk_slot_is}
use Rattle.plain_desk.proofs.one_desk.OneDesk.slot.Goals as goal

pub returns : goal.returns
returns g c =
    sym (desk_slot_is (map (λ x. x.0) c.self.inside.order.items) c.self.inside.history (length c.self.inside.wakers.items) c.self.inside.caller c.args.self.now c.self.view_is c.self.invariant.0 c.args.self.now.caller
    (ap (λ (d : Lent (Given g.row.P-Name.Denot g.row.P-Out.Denot g.row.P-In.Denot) g.row.P-Name.Denot g.row.P-Story.Denot). d.caller) (sym c.self.view_is)) c.args.object.0 c.requires.has ∙ c.slot.ensures)
