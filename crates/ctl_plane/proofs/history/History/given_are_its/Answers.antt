use Rattle.std.proofs.Common.{subst}
use Rattle.spec_control.specs.Names.{name_of}
use Rattle.desk.specs.declared.given.Given.{Given}
use Rattle.ctl_plane.specs.Carried.{given_in}
use Rattle.ctl_plane.specs.Giving.{AreOnTheirWay}
use Rattle.ctl_plane.specs.Past.{Past, control_of, items_of}
use Rattle.ctl_plane.proofs.OnWayLemmas.{on_their_way}
use Rattle.ctl_plane.proofs.history.History.given_are_its.Goals as goal

pub returns : goal.returns
returns g c =
    let K = g.P.Pipes.known in
    let h = c.self.inside in
    let p : Past (Given g.row.P-Name.Denot g.row.P-Out.Denot g.row.P-In.Denot) g.row.P-Name.Denot g.row.P-Story.Denot = record { workers = h.workers; events = h.events.items; given = given_in h.state.boxes } in
    subst (λ (q : Past (Given g.row.P-Name.Denot g.row.P-Out.Denot g.row.P-In.Denot) g.row.P-Name.Denot g.row.P-Story.Denot). AreOnTheirWay K.in_name (control_of q) (name_of (items_of q)) q.given) c.self.view_is
    (on_their_way K.out_name K.in_name (control_of p) (items_of p) h.state.boxes c.self.invariant.carried)
