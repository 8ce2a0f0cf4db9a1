use Rattle.std.specs.Prelude.{◌≡◌, None}
use Rattle.std.proofs.Common.{sym, subst}
use Rattle.spec_control.specs.declared.request.Req.TheVariants.{Socket as MakeSocket}
use Rattle.spec_control.specs.declared.request.Reply.TheVariants.{Refused}
use Rattle.spec_control.specs.Reply.{reply_of}
use Rattle.desk.specs.declared.given.Given.{Given}
use Rattle.ctl_plane.specs.Past.{Past, control_of}
use Rattle.ctl_moves.specs.Refusals.{refusal_in}
use Rattle.ctl_plane.proofs.MakingLemmas.{root_owns}
use Rattle.ctl_plane.proofs.RefusalLemmas.{refusal_is}
use Rattle.ctl_plane.proofs.history.History.make_socket.Goals as goal

pub socket_refusal-requires : goal.socket_refusal-requires
socket_refusal-requires g c =
    let h = c.self.invariant.history in
    record { sockets = root_owns c.self.inside.state _ _ h (c.needs.ensures _ h.stands) }

pub refuse-requires-clause-refused : goal.refuse-requires-clause-refused
refuse-requires-clause-refused g c =
    subst (λ (p : Past (Given g.row.P-Name.Denot g.row.P-Out.Denot g.row.P-In.Denot) g.row.P-Name.Denot g.row.P-Story.Denot). reply_of (control_of p) (MakeSocket c.args.kind c.args.options) ≡ Refused c.in-Some.refusal) c.self.view_is
    (refusal_is _ c.in-Some.refusal (c.in-Some.ensures _ c.self.invariant.history.stands c.args.kind c.args.options))

pub returns-in-Some-clause-reply : goal.returns-in-Some-clause-reply
returns-in-Some-clause-reply g c =
    sym (subst (λ (p : Past (Given g.row.P-Name.Denot g.row.P-Out.Denot g.row.P-In.Denot) g.row.P-Name.Denot g.row.P-Story.Denot). reply_of (control_of p) (MakeSocket c.args.kind c.args.options) ≡ Refused c.in-Some.refusal) c.self.view_is
    (refusal_is _ c.in-Some.refusal (c.in-Some.ensures _ c.self.invariant.history.stands c.args.kind c.args.options)))

pub make_it-requires-clause-may : goal.make_it-requires-clause-may
make_it-requires-clause-may g c =
    subst (λ (p : Past (Given g.row.P-Name.Denot g.row.P-Out.Denot g.row.P-In.Denot) g.row.P-Name.Denot g.row.P-Story.Denot). refusal_in (reply_of (control_of p) (MakeSocket c.args.kind c.args.options)) ≡ None) c.self.view_is
    (sym (c.in-None.ensures _ c.self.invariant.history.stands c.args.kind c.args.options))
