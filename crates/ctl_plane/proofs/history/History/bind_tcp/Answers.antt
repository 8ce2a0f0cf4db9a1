use Rattle.std.specs.Prelude.{◌≡◌, None}
use Rattle.std.proofs.Common.{sym, subst}
use Rattle.zq_base.specs.declared.endpoint.Endpoint.TheVariants.{Tcp}
use Rattle.spec_control.specs.declared.request.Req.TheVariants.{Bind}
use Rattle.spec_control.specs.declared.request.Reply.TheVariants.{Refused}
use Rattle.spec_control.specs.Reply.{reply_of}
use Rattle.desk.specs.declared.given.Given.{Given}
use Rattle.ctl_moves.specs.Refusals.{refusal_in}
use Rattle.ctl_plane.specs.Past.{Past, control_of}
use Rattle.ctl_plane.proofs.RefusalLemmas.{refusal_is}
use Rattle.ctl_plane.proofs.history.History.bind_tcp.Goals as goal

pub refuse-requires-clause-may : goal.refuse-requires-clause-may
refuse-requires-clause-may g c = c.requires.«open»

pub refuse-requires-clause-refused : goal.refuse-requires-clause-refused
refuse-requires-clause-refused g c =
    subst (λ (p : Past (Given g.row.P-Name.Denot g.row.P-Out.Denot g.row.P-In.Denot) g.row.P-Name.Denot g.row.P-Story.Denot). reply_of (control_of p) (Bind c.args.socket (Tcp c.args.at)) ≡ Refused c.in-Some.refusal) c.self.view_is
    (refusal_is _ c.in-Some.refusal (c.in-Some.ensures _ c.self.invariant.history.stands))

pub refuse-requires-clause-silent : goal.refuse-requires-clause-silent
refuse-requires-clause-silent g c = c.requires.silent

pub returns-in-Some-clause-reply : goal.returns-in-Some-clause-reply
returns-in-Some-clause-reply g c =
    sym (subst (λ (p : Past (Given g.row.P-Name.Denot g.row.P-Out.Denot g.row.P-In.Denot) g.row.P-Name.Denot g.row.P-Story.Denot). reply_of (control_of p) (Bind c.args.socket (Tcp c.args.at)) ≡ Refused c.in-Some.refusal) c.self.view_is
    (refusal_is _ c.in-Some.refusal (c.in-Some.ensures _ c.self.invariant.history.stands)))

pub bind_address-requires-clause-free : goal.bind_address-requires-clause-free
bind_address-requires-clause-free g c =
    subst (λ (p : Past (Given g.row.P-Name.Denot g.row.P-Out.Denot g.row.P-In.Denot) g.row.P-Name.Denot g.row.P-Story.Denot). refusal_in (reply_of (control_of p) (Bind c.args.socket (Tcp c.args.at))) ≡ None) c.self.view_is (sym (c.in-None.ensures _ c.self.invariant.history.stands))
