use Rattle.std.proofs.Common.{ap, sym, ◌∙◌}
use Rattle.std.proofs.lemmas.List.{get_or_past}
use Rattle.spec_control.specs.Row.{Row, nobody}
use Rattle.spec_control.specs.Rows.{obj}
use Rattle.spec_control.specs.Stage.{is_used}
use Rattle.desk.specs.declared.given.Given.{Given}
use Rattle.ctl_plane.specs.Past.{Past, control_of}
use Rattle.ctl_plane.proofs.history.History.is_taken_over.Goals as goal

pub returns-in-Some : goal.returns-in-Some
returns-in-Some g c =
    c.was_processed.ensures ∙ ap (λ (o : Row). is_used o.request) (sym (c.in-Some.ensures.some _ c.self.invariant.history.stands))
    ∙ ap (λ (p : Past (Given g.row.P-Name.Denot g.row.P-Out.Denot g.row.P-In.Denot) g.row.P-Name.Denot g.row.P-Story.Denot). is_used (obj (control_of p).rows c.args.socket.0).request) c.self.view_is

pub returns-in-None : goal.returns-in-None
returns-in-None g c =
    sym (ap (λ (o : Row). is_used o.request) (get_or_past _ c.args.socket.0 nobody (c.in-None.ensures.none _ c.self.invariant.history.stands)))
    ∙ ap (λ (p : Past (Given g.row.P-Name.Denot g.row.P-Out.Denot g.row.P-In.Denot) g.row.P-Name.Denot g.row.P-Story.Denot). is_used (obj (control_of p).rows c.args.socket.0).request) c.self.view_is
