use Rattle.std.proofs.Common.{ap, sym, ◌∙◌}
use Rattle.std.proofs.lemmas.List.{get_or_past}
use Rattle.spec_control.specs.Row.{Row, nobody}
use Rattle.spec_control.specs.Rows.{obj}
use Rattle.spec_control.specs.Stage.{has_ended}
use Rattle.desk.specs.declared.given.Given.{Given}
use Rattle.ctl_plane.specs.Past.{Past, control_of}
use Rattle.ctl_plane.proofs.history.History.has_ended.Goals as goal

pub returns-in-Some : goal.returns-in-Some
returns-in-Some g c =
    c.is_over.ensures ∙ ap (λ (o : Row). has_ended o.stage) (sym (c.in-Some.ensures.some _ c.self.invariant.history.stands))
    ∙ ap (λ (p : Past (Given g.row.P-Name.Denot g.row.P-Out.Denot g.row.P-In.Denot) g.row.P-Name.Denot g.row.P-Story.Denot). has_ended (obj (control_of p).rows c.args.id.0).stage) c.self.view_is

pub returns-in-None : goal.returns-in-None
returns-in-None g c =
    sym (ap (λ (o : Row). has_ended o.stage) (get_or_past _ c.args.id.0 nobody (c.in-None.ensures.none _ c.self.invariant.history.stands)))
    ∙ ap (λ (p : Past (Given g.row.P-Name.Denot g.row.P-Out.Denot g.row.P-In.Denot) g.row.P-Name.Denot g.row.P-Story.Denot). has_ended (obj (control_of p).rows c.args.id.0).stage) c.self.view_is
