use Rattle.std.proofs.Common.{ap, sym, ◌∙◌}
use Rattle.std.proofs.lemmas.List.{get_or_past}
use Rattle.spec_control.specs.After.{owner_or_root}
use Rattle.spec_control.specs.Row.{Row, nobody}
use Rattle.spec_control.specs.Rows.{obj}
use Rattle.desk.specs.declared.given.Given.{Given}
use Rattle.ctl_plane.specs.Past.{Past, control_of}
use Rattle.ctl_plane.proofs.history.History.owner_of.Goals as goal

pub returns-in-None : goal.returns-in-None
returns-in-None g c =
    sym (ap (λ (p : Past (Given g.row.P-Name.Denot g.row.P-Out.Denot g.row.P-In.Denot) g.row.P-Name.Denot g.row.P-Story.Denot). owner_or_root (obj (control_of p).rows c.args.id.0).owner) c.self.view_is)
    ∙ ap (λ (o : Row). owner_or_root o.owner) (get_or_past _ c.args.id.0 nobody (c.in-None.ensures.none _ c.self.invariant.history.stands))
