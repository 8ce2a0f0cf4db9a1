use Rattle.std.proofs.Common.{ap, ◌∙◌}
use Rattle.spec_control.specs.Reply.{root_asked}
use Rattle.desk.specs.declared.given.Given.{Given}
use Rattle.ctl_plane.specs.Past.{control_of}
use Rattle.plain_desk.specs.Lent.{Lent}
use Rattle.plain_desk.proofs.one_desk.OneDesk.is_asked.Goals as goal

pub returns : goal.returns
returns g c = c.is_asked.ensures ∙ ap (λ (d : Lent (Given g.row.P-Name.Denot g.row.P-Out.Denot g.row.P-In.Denot) g.row.P-Name.Denot g.row.P-Story.Denot). root_asked (control_of d.past)) c.self.view_is
