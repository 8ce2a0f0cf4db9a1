use Rattle.std.specs.Prelude.{◌≡◌, ◌<◌}
use Rattle.std.proofs.Common.{ap, sym, subst, ◌∙◌}
use Rattle.spec_control.specs.declared.request.Req.TheVariants.{Accepted}
use Rattle.spec_control.specs.declared.request.Reply.TheVariants.{Both}
use Rattle.spec_control.specs.Rows.{obj}
use Rattle.spec_control.specs.ControlRun.{MayAsk}
use Rattle.spec_control.specs.Reply.{reply_of}
use Rattle.desk.specs.declared.given.Given.{Given}
use Rattle.ctl_state.specs.Listed.{with_last, with_room}
use Rattle.ctl_plane.specs.Past.{Past, control_of}
use Rattle.ctl_plane.proofs.AcceptedLemmas.{accepts_given, accepts_plane, both_is, may_accept}
use Rattle.ctl_plane.proofs.DoneLemmas.{event_now}
use Rattle.ctl_plane.proofs.PlaneLemmas.{planed_now}
use Rattle.ctl_plane.proofs.history.History.accepted.Goals as goal

pub accept_with_room-requires : goal.accept_with_room-requires
accept_with_room-requires g c =
    let may = subst (λ (p : Past (Given g.row.P-Name.Denot g.row.P-Out.Denot g.row.P-In.Denot) g.row.P-Name.Denot g.row.P-Story.Denot). MayAsk (control_of p) (Accepted c.args.listener)) (sym c.self.view_is) c.requires.may in
    let box = subst (λ (p : Past (Given g.row.P-Name.Denot g.row.P-Out.Denot g.row.P-In.Denot) g.row.P-Name.Denot g.row.P-Story.Denot). (obj (control_of p).rows c.args.listener.0).slot < (control_of p).slots) (sym c.self.view_is) c.requires.mailbox in
    record { may = record { control = _; stands = c.self.invariant.history.stands; is = may_accept c.self.inside.state _ _ c.self.invariant.history c.args.listener may box } }

pub invariant_of-self : goal.invariant_of-self
invariant_of-self g c =
    let may = subst (λ (p : Past (Given g.row.P-Name.Denot g.row.P-Out.Denot g.row.P-In.Denot) g.row.P-Name.Denot g.row.P-Story.Denot). MayAsk (control_of p) (Accepted c.args.listener)) (sym c.self.view_is) c.requires.may in
    let box = subst (λ (p : Past (Given g.row.P-Name.Denot g.row.P-Out.Denot g.row.P-In.Denot) g.row.P-Name.Denot g.row.P-Story.Denot). (obj (control_of p).rows c.args.listener.0).slot < (control_of p).slots) (sym c.self.view_is) c.requires.mailbox in
    let room = sym (c.has_room.ensures _ c.self.invariant.history.stands) ∙ c.if-not-has_room.false in
    let made = c.in-Ok.ensures.ok _ c.self.invariant.history.stands (may_accept c.self.inside.state _ _ c.self.invariant.history c.args.listener may box) in
    planed_now g.P.Pipes.known.out_name g.P.Pipes.known.in_name c.accept_with_room.new.state c.self.inside.workers (with_room 17 c.self.inside.events) c.push.new.self _ _ _ (c.push.ensures ∙ ap (with_last _) c.in-Ok.ensures.room)
    (accepts_plane g.P.Pipes.known.out_name g.P.Pipes.known.in_name c.self.inside.state c.accept_with_room.new.state _ _ c.self.invariant c.args.listener may box room c.args.h c.requires.silent c.in-Ok.made.0 c.in-Ok.made.1 made)

pub returns-in-Ok-clause-ok : goal.returns-in-Ok-clause-ok
returns-in-Ok-clause-ok g c =
    let may = subst (λ (p : Past (Given g.row.P-Name.Denot g.row.P-Out.Denot g.row.P-In.Denot) g.row.P-Name.Denot g.row.P-Story.Denot). MayAsk (control_of p) (Accepted c.args.listener)) (sym c.self.view_is) c.requires.may in
    let box = subst (λ (p : Past (Given g.row.P-Name.Denot g.row.P-Out.Denot g.row.P-In.Denot) g.row.P-Name.Denot g.row.P-Story.Denot). (obj (control_of p).rows c.args.listener.0).slot < (control_of p).slots) (sym c.self.view_is) c.requires.mailbox in
    let room = sym (c.has_room.ensures _ c.self.invariant.history.stands) ∙ c.if-not-has_room.false in
    let made = c.in-Ok.ensures.ok _ c.self.invariant.history.stands (may_accept c.self.inside.state _ _ c.self.invariant.history c.args.listener may box) in
    event_now c.args.self.now c.self.inside.workers (with_room 17 c.self.inside.events) c.push.new.self _ _ _ (sym c.self.view_is) (c.push.ensures ∙ ap (with_last _) c.in-Ok.ensures.room)
    (accepts_given g.P.Pipes.known.out_name g.P.Pipes.known.in_name c.self.inside.state c.accept_with_room.new.state _ _ c.self.invariant c.args.listener may box room c.args.h c.requires.silent c.in-Ok.made.0 c.in-Ok.made.1 made)

pub returns-in-Ok-clause-reply : goal.returns-in-Ok-clause-reply
returns-in-Ok-clause-reply g c =
    let may = subst (λ (p : Past (Given g.row.P-Name.Denot g.row.P-Out.Denot g.row.P-In.Denot) g.row.P-Name.Denot g.row.P-Story.Denot). MayAsk (control_of p) (Accepted c.args.listener)) (sym c.self.view_is) c.requires.may in
    let box = subst (λ (p : Past (Given g.row.P-Name.Denot g.row.P-Out.Denot g.row.P-In.Denot) g.row.P-Name.Denot g.row.P-Story.Denot). (obj (control_of p).rows c.args.listener.0).slot < (control_of p).slots) (sym c.self.view_is) c.requires.mailbox in
    let room = sym (c.has_room.ensures _ c.self.invariant.history.stands) ∙ c.if-not-has_room.false in
    let made = c.in-Ok.ensures.ok _ c.self.invariant.history.stands (may_accept c.self.inside.state _ _ c.self.invariant.history c.args.listener may box) in
    subst (λ (p : Past (Given g.row.P-Name.Denot g.row.P-Out.Denot g.row.P-In.Denot) g.row.P-Name.Denot g.row.P-Story.Denot). Both c.in-Ok.made.0 c.in-Ok.made.1 ≡ reply_of (control_of p) (Accepted c.args.listener)) c.self.view_is
    (both_is c.self.inside.state _ _ c.self.invariant.history c.args.listener may box room c.in-Ok.made.0 c.in-Ok.made.1 made.number made.drawn)
