use Rattle.std.specs.Prelude.{length, map, refl}
use Rattle.std.proofs.Common.{arith, sym, ap, ◌∙◌}
use Rattle.desk.specs.declared.given.Given.{Given}
use Rattle.ctl_plane.specs.Past.{control_of}
use Rattle.plain_desk.specs.Lent.{Lent}
use Rattle.plain_desk.proofs.FirstLemmas.{past_empty}
use Rattle.plain_desk.proofs.LentLemmas.{kept_of}
use Rattle.plain_desk.proofs.one_desk.OneDesk.is_empty.Goals as goal

pub returns-then-slot-mailboxes : goal.returns-then-slot-mailboxes
returns-then-slot-mailboxes g c = (
  λ t.
      ap (λ (d : Lent (Given g.row.P-Name.Denot g.row.P-Out.Denot g.row.P-In.Denot) g.row.P-Name.Denot g.row.P-Story.Denot). (control_of d.past).boxes c.args.slot.0) (sym c.self.view_is)
      ∙ past_empty c.self.inside.history.workers (control_of c.self.inside.history) (kept_of (map (λ x. x.0) c.self.inside.order.items) c.self.inside.history (length c.self.inside.wakers.items) c.self.invariant.0) c.self.invariant.0.boxes c.args.slot.0 (let many = c.mailboxes.ensures in let out = c.if-slot-mailboxes.true in omega (arith, many, out)),
  λ e. refl,
)
