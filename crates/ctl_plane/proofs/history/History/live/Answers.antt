use Rattle.std.proofs.Common.{ap, ◌∙◌}
use Rattle.spec_control.specs.Reply.{live_count}
use Rattle.desk.specs.declared.given.Given.{Given}
use Rattle.ctl_plane.specs.Past.{Past, control_of}
use Rattle.ctl_plane.proofs.history.History.live.Goals as goal

pub returns : goal.returns
returns g c = c.live.ensures _ c.self.invariant.history.stands ∙ ap (λ (p : Past (Given g.row.P-Name.Denot g.row.P-Out.Denot g.row.P-In.Denot) g.row.P-Name.Denot g.row.P-Story.Denot). live_count (control_of p)) c.self.view_is
