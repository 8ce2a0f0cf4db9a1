use Rattle.std.specs.Prelude.{◌≡◌}
use Rattle.std.proofs.Common.{subst}
use Rattle.spec_control.specs.Rows.{obj}
use Rattle.desk.specs.declared.given.Given.{Given}
use Rattle.ctl_plane.specs.Past.{Past, control_of}
use Rattle.ctl_plane.proofs.history.History.slot.Goals as goal

pub returns : goal.returns
returns g c = subst (λ (p : Past (Given g.row.P-Name.Denot g.row.P-Out.Denot g.row.P-In.Denot) g.row.P-Name.Denot g.row.P-Story.Denot). (obj (control_of p).rows c.args.id.0).slot ≡ c.slot.result.0) c.self.view_is (c.slot.ensures _ c.self.invariant.history.stands)
