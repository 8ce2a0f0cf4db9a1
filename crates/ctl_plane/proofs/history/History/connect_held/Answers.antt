use Rattle.std.specs.Prelude.{◌≡◌, ◌≤◌, Some, None, length, refl, ◌++◌, List}
use Rattle.std.proofs.Common.{ap, sym, ◌∙◌, subst, arith}
use Rattle.zq_base.specs.declared.endpoint.Endpoint.TheVariants.{Inproc}
use Rattle.zq_base.specs.declared.ids.ObjId.{ObjId}
use Rattle.desk.specs.Holding.{Stays}
use Rattle.spec_control.specs.declared.request.Req.TheVariants.{Connect}
use Rattle.spec_control.specs.declared.request.Reply.TheVariants.{Pair}
use Rattle.spec_control.specs.Reply.{reply_of}
use Rattle.desk.specs.declared.given.Given.{Given}
use Rattle.ctl_state.specs.Listed.{with_last, with_room, Listed}
use Rattle.spec_control.specs.Names.{name_of}
use Rattle.ctl_moves.proofs.JoinedLemmas.{has_stays}
use Rattle.ctl_plane.specs.Past.{Past, control_of, items_of, with_event}
use Rattle.spec_control.specs.declared.entry.Did.TheVariants.{Asked}
use Rattle.ctl_plane.specs.Hearing.{HasWhat}
use Rattle.ctl_plane.specs.Joining.{Lends}
use Rattle.ctl_moves.specs.Refusals.{refusal_in}
use Rattle.ctl_plane.proofs.DoneLemmas.{event_now}
use Rattle.ctl_plane.proofs.HeldPlaneLemmas.{ends_held, given_held, keeps_held, told_held, plane_held, reply_held}
use Rattle.ctl_plane.proofs.JoinHeldLemmas.{may_connect, may_make_held}
use Rattle.desk.specs.Making.{MakesSo}
use Rattle.ctl_plane.proofs.MakingLemmas.{planed_back, viewed_back}
use Rattle.ctl_state.proofs.KeptLemmas.{so_on_err}
use Rattle.ctl_plane.proofs.PlaneLemmas.{planed_now}
use Rattle.desk.specs.Turns.{HasTurned}
use Rattle.ctl_moves.proofs.TurnedLemmas.{turns_none, turns_same}
use Rattle.ctl_plane.proofs.ToldLemmas.{past_told}
use Rattle.ctl_plane.specs.Coming.{ComesWith}
use Rattle.ctl_plane.proofs.ComeLemmas.{event_comes, past_comes}
use Rattle.spec_control.specs.declared.entry.Joining.{Joining}
use Rattle.spec_control.specs.After.{answers_in}
use Rattle.ctl_plane.proofs.StillLemmas.{connect_still}
use Rattle.spec_control.specs.declared.entry.Did.{Did}
use Rattle.ctl_moves.proofs.BindingLemmas.{stays_itself}
use Rattle.ctl_plane.proofs.history.History.connect_held.Goals as goal

pub invariant_of-self-2 : goal.invariant_of-self-2
invariant_of-self-2 g c =
    let lends = (subst (λ (p : Past (Given g.row.P-Name.Denot g.row.P-Out.Denot g.row.P-In.Denot) g.row.P-Name.Denot g.row.P-Story.Denot). Lends (control_of p) c.args.socket.0 (g.H.Holder.holding c.args.holder.now)) (sym c.self.view_is) c.requires.lends) in
    let held = (subst (λ (p : Past (Given g.row.P-Name.Denot g.row.P-Out.Denot g.row.P-In.Denot) g.row.P-Name.Denot g.row.P-Story.Denot). (control_of p).names.held (Inproc c.args.name) ≡ Some c.args.binding) (sym c.self.view_is) c.requires.held) in
    let free = (subst (λ (p : Past (Given g.row.P-Name.Denot g.row.P-Out.Denot g.row.P-In.Denot) g.row.P-Name.Denot g.row.P-Story.Denot). refusal_in (reply_of (control_of p) (Connect c.args.socket (Inproc c.args.name))) ≡ None) (sym c.self.view_is) c.requires.free) in
    let stands = c.self.invariant.history.stands in
    let are = c.of-owners.ensures _ stands in
    let has = (subst (λ (p : Past (Given g.row.P-Name.Denot g.row.P-Out.Denot g.row.P-In.Denot) g.row.P-Name.Denot g.row.P-Story.Denot). HasWhat p (g.H.Holder.holding c.args.holder.now)) (sym c.self.view_is) c.requires.has) in
    let may = may_connect g.P.Pipes.known.out_name g.P.Pipes.known.in_name c.self.inside.state _ _ c.args.socket c.args.name c.args.binding c.self.invariant (g.H.Holder.holding c.args.holder.now) lends held free (c.needs.ensures _ stands) c.of-owners.result are (length c.args.wakers.now) (subst (λ (p : Past (Given g.row.P-Name.Denot g.row.P-Out.Denot g.row.P-In.Denot) g.row.P-Name.Denot g.row.P-Story.Denot). (control_of p).slots ≤ length c.args.wakers.now) (sym c.self.view_is) c.requires.wakers) has in
    let connected = c.in_ok-made.ensures.ok may in
    planed_now g.P.Pipes.known.out_name g.P.Pipes.known.in_name c.connect_with_room.new.state c.self.inside.workers (with_room 9 c.self.inside.events) c.push.new.self _ _ _
    (c.push.ensures ∙ ap (with_last _) c.in_ok-made.ensures.room)
    (plane_held g.P.Pipes.known.out_name g.P.Pipes.known.in_name c.self.inside.state _ _ c.args.socket c.args.name c.args.binding c.self.invariant (g.H.Holder.holding c.args.holder.now) lends held free c.of-owners.result are (length c.args.wakers.now) may refl
    (Inproc c.in_ok-copy.field-0) (ap Inproc c.in_ok-copy.ensures) c.in_ok-made.made.0 c.in_ok-made.made.1 c.connect_with_room.new.state (g.H.Holder.holding c.connect_with_room.new.holder) connected c.with_notes.result c.with_notes.ensures)

pub returns-clause-ok : goal.returns-clause-ok
returns-clause-ok g c =
    let lends = (subst (λ (p : Past (Given g.row.P-Name.Denot g.row.P-Out.Denot g.row.P-In.Denot) g.row.P-Name.Denot g.row.P-Story.Denot). Lends (control_of p) c.args.socket.0 (g.H.Holder.holding c.args.holder.now)) (sym c.self.view_is) c.requires.lends) in
    let held = (subst (λ (p : Past (Given g.row.P-Name.Denot g.row.P-Out.Denot g.row.P-In.Denot) g.row.P-Name.Denot g.row.P-Story.Denot). (control_of p).names.held (Inproc c.args.name) ≡ Some c.args.binding) (sym c.self.view_is) c.requires.held) in
    let free = (subst (λ (p : Past (Given g.row.P-Name.Denot g.row.P-Out.Denot g.row.P-In.Denot) g.row.P-Name.Denot g.row.P-Story.Denot). refusal_in (reply_of (control_of p) (Connect c.args.socket (Inproc c.args.name))) ≡ None) (sym c.self.view_is) c.requires.free) in
    let stands = c.self.invariant.history.stands in
    let are = c.of-owners.ensures _ stands in
    let has = (subst (λ (p : Past (Given g.row.P-Name.Denot g.row.P-Out.Denot g.row.P-In.Denot) g.row.P-Name.Denot g.row.P-Story.Denot). HasWhat p (g.H.Holder.holding c.args.holder.now)) (sym c.self.view_is) c.requires.has) in
    let may = may_connect g.P.Pipes.known.out_name g.P.Pipes.known.in_name c.self.inside.state _ _ c.args.socket c.args.name c.args.binding c.self.invariant (g.H.Holder.holding c.args.holder.now) lends held free (c.needs.ensures _ stands) c.of-owners.result are (length c.args.wakers.now) (subst (λ (p : Past (Given g.row.P-Name.Denot g.row.P-Out.Denot g.row.P-In.Denot) g.row.P-Name.Denot g.row.P-Story.Denot). (control_of p).slots ≤ length c.args.wakers.now) (sym c.self.view_is) c.requires.wakers) has in
    let connected = c.in_ok-made.ensures.ok may in
    record {
      answered = c.with_notes.result;
      step = event_now c.args.self.now c.self.inside.workers (with_room 9 c.self.inside.events) c.push.new.self _ _ _ (sym c.self.view_is)
          (c.push.ensures ∙ ap (with_last _) c.in_ok-made.ensures.room) (given_held g.P.Pipes.known.out_name g.P.Pipes.known.in_name c.self.inside.state _ _ c.args.socket c.args.name c.args.binding c.self.invariant (g.H.Holder.holding c.args.holder.now) lends held free c.of-owners.result are (length c.args.wakers.now) may refl
          (Inproc c.in_ok-copy.field-0) (ap Inproc c.in_ok-copy.ensures) c.in_ok-made.made.0 c.in_ok-made.made.1 c.connect_with_room.new.state (g.H.Holder.holding c.connect_with_room.new.holder) connected c.with_notes.result c.with_notes.ensures);
      ends = ends_held g.P.Pipes.known.out_name g.P.Pipes.known.in_name c.self.inside.state _ _ c.args.socket c.args.name c.args.binding c.self.invariant (g.H.Holder.holding c.args.holder.now) lends held free c.of-owners.result are (length c.args.wakers.now) may refl
          (Inproc c.in_ok-copy.field-0) (ap Inproc c.in_ok-copy.ensures) c.in_ok-made.made.0 c.in_ok-made.made.1 c.connect_with_room.new.state (g.H.Holder.holding c.connect_with_room.new.holder) connected c.with_notes.result c.with_notes.ensures;
    }

pub returns-clause-reply : goal.returns-clause-reply
returns-clause-reply g c =
    let lends = (subst (λ (p : Past (Given g.row.P-Name.Denot g.row.P-Out.Denot g.row.P-In.Denot) g.row.P-Name.Denot g.row.P-Story.Denot). Lends (control_of p) c.args.socket.0 (g.H.Holder.holding c.args.holder.now)) (sym c.self.view_is) c.requires.lends) in
    let held = (subst (λ (p : Past (Given g.row.P-Name.Denot g.row.P-Out.Denot g.row.P-In.Denot) g.row.P-Name.Denot g.row.P-Story.Denot). (control_of p).names.held (Inproc c.args.name) ≡ Some c.args.binding) (sym c.self.view_is) c.requires.held) in
    let free = (subst (λ (p : Past (Given g.row.P-Name.Denot g.row.P-Out.Denot g.row.P-In.Denot) g.row.P-Name.Denot g.row.P-Story.Denot). refusal_in (reply_of (control_of p) (Connect c.args.socket (Inproc c.args.name))) ≡ None) (sym c.self.view_is) c.requires.free) in
    let stands = c.self.invariant.history.stands in
    let are = c.of-owners.ensures _ stands in
    let has = (subst (λ (p : Past (Given g.row.P-Name.Denot g.row.P-Out.Denot g.row.P-In.Denot) g.row.P-Name.Denot g.row.P-Story.Denot). HasWhat p (g.H.Holder.holding c.args.holder.now)) (sym c.self.view_is) c.requires.has) in
    let may = may_connect g.P.Pipes.known.out_name g.P.Pipes.known.in_name c.self.inside.state _ _ c.args.socket c.args.name c.args.binding c.self.invariant (g.H.Holder.holding c.args.holder.now) lends held free (c.needs.ensures _ stands) c.of-owners.result are (length c.args.wakers.now) (subst (λ (p : Past (Given g.row.P-Name.Denot g.row.P-Out.Denot g.row.P-In.Denot) g.row.P-Name.Denot g.row.P-Story.Denot). (control_of p).slots ≤ length c.args.wakers.now) (sym c.self.view_is) c.requires.wakers) has in
    let connected = c.in_ok-made.ensures.ok may in
    subst (λ (p : Past (Given g.row.P-Name.Denot g.row.P-Out.Denot g.row.P-In.Denot) g.row.P-Name.Denot g.row.P-Story.Denot). Pair c.in_ok-made.made.0 ≡ reply_of (control_of p) (Connect c.args.socket (Inproc c.args.name))) c.self.view_is
    (reply_held g.P.Pipes.known.out_name g.P.Pipes.known.in_name c.self.inside.state _ _ c.args.socket c.args.name c.args.binding c.self.invariant (g.H.Holder.holding c.args.holder.now) lends held free c.of-owners.result are (length c.args.wakers.now) may refl
    (Inproc c.in_ok-copy.field-0) (ap Inproc c.in_ok-copy.ensures) c.in_ok-made.made.0 c.in_ok-made.made.1 c.connect_with_room.new.state (g.H.Holder.holding c.connect_with_room.new.holder) connected c.with_notes.result c.with_notes.ensures)

pub returns-clause-same : goal.returns-clause-same
returns-clause-same g c =
    let lends = (subst (λ (p : Past (Given g.row.P-Name.Denot g.row.P-Out.Denot g.row.P-In.Denot) g.row.P-Name.Denot g.row.P-Story.Denot). Lends (control_of p) c.args.socket.0 (g.H.Holder.holding c.args.holder.now)) (sym c.self.view_is) c.requires.lends) in
    let held = (subst (λ (p : Past (Given g.row.P-Name.Denot g.row.P-Out.Denot g.row.P-In.Denot) g.row.P-Name.Denot g.row.P-Story.Denot). (control_of p).names.held (Inproc c.args.name) ≡ Some c.args.binding) (sym c.self.view_is) c.requires.held) in
    let free = (subst (λ (p : Past (Given g.row.P-Name.Denot g.row.P-Out.Denot g.row.P-In.Denot) g.row.P-Name.Denot g.row.P-Story.Denot). refusal_in (reply_of (control_of p) (Connect c.args.socket (Inproc c.args.name))) ≡ None) (sym c.self.view_is) c.requires.free) in
    let stands = c.self.invariant.history.stands in
    let are = c.of-owners.ensures _ stands in
    let has = (subst (λ (p : Past (Given g.row.P-Name.Denot g.row.P-Out.Denot g.row.P-In.Denot) g.row.P-Name.Denot g.row.P-Story.Denot). HasWhat p (g.H.Holder.holding c.args.holder.now)) (sym c.self.view_is) c.requires.has) in
    let may = may_connect g.P.Pipes.known.out_name g.P.Pipes.known.in_name c.self.inside.state _ _ c.args.socket c.args.name c.args.binding c.self.invariant (g.H.Holder.holding c.args.holder.now) lends held free (c.needs.ensures _ stands) c.of-owners.result are (length c.args.wakers.now) (subst (λ (p : Past (Given g.row.P-Name.Denot g.row.P-Out.Denot g.row.P-In.Denot) g.row.P-Name.Denot g.row.P-Story.Denot). (control_of p).slots ≤ length c.args.wakers.now) (sym c.self.view_is) c.requires.wakers) has in
    let connected = c.in_ok-made.ensures.ok may in
    record { objects = connected.gets.objects; kinds = connected.gets.kinds; output = connected.gets.output }

pub returns-clause-keeps : goal.returns-clause-keeps
returns-clause-keeps g c =
    let lends = (subst (λ (p : Past (Given g.row.P-Name.Denot g.row.P-Out.Denot g.row.P-In.Denot) g.row.P-Name.Denot g.row.P-Story.Denot). Lends (control_of p) c.args.socket.0 (g.H.Holder.holding c.args.holder.now)) (sym c.self.view_is) c.requires.lends) in
    let held = (subst (λ (p : Past (Given g.row.P-Name.Denot g.row.P-Out.Denot g.row.P-In.Denot) g.row.P-Name.Denot g.row.P-Story.Denot). (control_of p).names.held (Inproc c.args.name) ≡ Some c.args.binding) (sym c.self.view_is) c.requires.held) in
    let free = (subst (λ (p : Past (Given g.row.P-Name.Denot g.row.P-Out.Denot g.row.P-In.Denot) g.row.P-Name.Denot g.row.P-Story.Denot). refusal_in (reply_of (control_of p) (Connect c.args.socket (Inproc c.args.name))) ≡ None) (sym c.self.view_is) c.requires.free) in
    let stands = c.self.invariant.history.stands in
    let are = c.of-owners.ensures _ stands in
    let has = (subst (λ (p : Past (Given g.row.P-Name.Denot g.row.P-Out.Denot g.row.P-In.Denot) g.row.P-Name.Denot g.row.P-Story.Denot). HasWhat p (g.H.Holder.holding c.args.holder.now)) (sym c.self.view_is) c.requires.has) in
    let may = may_connect g.P.Pipes.known.out_name g.P.Pipes.known.in_name c.self.inside.state _ _ c.args.socket c.args.name c.args.binding c.self.invariant (g.H.Holder.holding c.args.holder.now) lends held free (c.needs.ensures _ stands) c.of-owners.result are (length c.args.wakers.now) (subst (λ (p : Past (Given g.row.P-Name.Denot g.row.P-Out.Denot g.row.P-In.Denot) g.row.P-Name.Denot g.row.P-Story.Denot). (control_of p).slots ≤ length c.args.wakers.now) (sym c.self.view_is) c.requires.wakers) has in
    let connected = c.in_ok-made.ensures.ok may in
    subst (λ (p : Past (Given g.row.P-Name.Denot g.row.P-Out.Denot g.row.P-In.Denot) g.row.P-Name.Denot g.row.P-Story.Denot). HasWhat p (g.H.Holder.holding c.connect_with_room.new.holder))
    (sym (event_now (record { workers = c.self.inside.workers; events = c.self.inside.events.items; given = _ }) c.self.inside.workers (with_room 9 c.self.inside.events) c.push.new.self _ _ _ refl
    (c.push.ensures ∙ ap (with_last _) c.in_ok-made.ensures.room) (given_held g.P.Pipes.known.out_name g.P.Pipes.known.in_name c.self.inside.state _ _ c.args.socket c.args.name c.args.binding c.self.invariant (g.H.Holder.holding c.args.holder.now) lends held free c.of-owners.result are (length c.args.wakers.now) may refl
    (Inproc c.in_ok-copy.field-0) (ap Inproc c.in_ok-copy.ensures) c.in_ok-made.made.0 c.in_ok-made.made.1 c.connect_with_room.new.state (g.H.Holder.holding c.connect_with_room.new.holder) connected c.with_notes.result c.with_notes.ensures)))
    (keeps_held g.P.Pipes.known.out_name g.P.Pipes.known.in_name c.self.inside.state _ _ c.args.socket c.args.name c.args.binding c.self.invariant (g.H.Holder.holding c.args.holder.now) lends held free c.of-owners.result are (length c.args.wakers.now) may refl
    (Inproc c.in_ok-copy.field-0) (ap Inproc c.in_ok-copy.ensures) c.in_ok-made.made.0 c.in_ok-made.made.1 c.connect_with_room.new.state (g.H.Holder.holding c.connect_with_room.new.holder) connected c.with_notes.result c.with_notes.ensures has)

pub invariant_of-self : goal.invariant_of-self
invariant_of-self g c =
    planed_back g.P.Pipes.known.out_name g.P.Pipes.known.in_name c.self.inside.state c.connect_with_room.new.state c.self.inside.workers c.self.inside.events c.connect_with_room.new.events c.in_err-made.ensures.err
    c.in_err-made.ensures.kept c.self.invariant

pub returns-in_err-made-clause-keeps : goal.returns-in_err-made-clause-keeps
returns-in_err-made-clause-keeps g c =
    subst (λ (p : Past (Given g.row.P-Name.Denot g.row.P-Out.Denot g.row.P-In.Denot) g.row.P-Name.Denot g.row.P-Story.Denot). HasWhat p (g.H.Holder.holding c.connect_with_room.new.holder))
    (sym (viewed_back c.args.self.now c.self.inside.state c.connect_with_room.new.state c.self.inside.workers c.self.inside.events c.connect_with_room.new.events c.in_err-made.ensures.err
    c.in_err-made.ensures.kept c.self.view_is))
    (has_stays (name_of (items_of c.args.self.now)) (control_of c.args.self.now) c.of-owners.result.first.0 (g.H.Holder.holding c.args.holder.now) (g.H.Holder.holding c.connect_with_room.new.holder) c.in_err-made.ensures.stays c.in_err-made.ensures.keeps c.requires.has)

pub returns-clause-turned : goal.returns-clause-turned
returns-clause-turned g c =
    let lends = (subst (λ (p : Past (Given g.row.P-Name.Denot g.row.P-Out.Denot g.row.P-In.Denot) g.row.P-Name.Denot g.row.P-Story.Denot). Lends (control_of p) c.args.socket.0 (g.H.Holder.holding c.args.holder.now)) (sym c.self.view_is) c.requires.lends) in
    let held = (subst (λ (p : Past (Given g.row.P-Name.Denot g.row.P-Out.Denot g.row.P-In.Denot) g.row.P-Name.Denot g.row.P-Story.Denot). (control_of p).names.held (Inproc c.args.name) ≡ Some c.args.binding) (sym c.self.view_is) c.requires.held) in
    let free = (subst (λ (p : Past (Given g.row.P-Name.Denot g.row.P-Out.Denot g.row.P-In.Denot) g.row.P-Name.Denot g.row.P-Story.Denot). refusal_in (reply_of (control_of p) (Connect c.args.socket (Inproc c.args.name))) ≡ None) (sym c.self.view_is) c.requires.free) in
    let stands = c.self.invariant.history.stands in
    let are = c.of-owners.ensures _ stands in
    let has = (subst (λ (p : Past (Given g.row.P-Name.Denot g.row.P-Out.Denot g.row.P-In.Denot) g.row.P-Name.Denot g.row.P-Story.Denot). HasWhat p (g.H.Holder.holding c.args.holder.now)) (sym c.self.view_is) c.requires.has) in
    let may = may_connect g.P.Pipes.known.out_name g.P.Pipes.known.in_name c.self.inside.state _ _ c.args.socket c.args.name c.args.binding c.self.invariant (g.H.Holder.holding c.args.holder.now) lends held free (c.needs.ensures _ stands) c.of-owners.result are (length c.args.wakers.now) (subst (λ (p : Past (Given g.row.P-Name.Denot g.row.P-Out.Denot g.row.P-In.Denot) g.row.P-Name.Denot g.row.P-Story.Denot). (control_of p).slots ≤ length c.args.wakers.now) (sym c.self.view_is) c.requires.wakers) has in
    let connected = c.in_ok-made.ensures.ok may in
    let step = event_now c.args.self.now c.self.inside.workers (with_room 9 c.self.inside.events) c.push.new.self _ _ _ (sym c.self.view_is)
    (c.push.ensures ∙ ap (with_last _) c.in_ok-made.ensures.room) (given_held g.P.Pipes.known.out_name g.P.Pipes.known.in_name c.self.inside.state _ _ c.args.socket c.args.name c.args.binding c.self.invariant (g.H.Holder.holding c.args.holder.now) lends held free c.of-owners.result are (length c.args.wakers.now) may refl
    (Inproc c.in_ok-copy.field-0) (ap Inproc c.in_ok-copy.ensures) c.in_ok-made.made.0 c.in_ok-made.made.1 c.connect_with_room.new.state (g.H.Holder.holding c.connect_with_room.new.holder) connected c.with_notes.result c.with_notes.ensures) in
    subst (λ (p : Past (Given g.row.P-Name.Denot g.row.P-Out.Denot g.row.P-In.Denot) g.row.P-Name.Denot g.row.P-Story.Denot). HasTurned (control_of c.args.self.now) (control_of p) (g.H.Holder.holding c.args.holder.now) (g.H.Holder.holding c.connect_with_room.new.holder)) (sym step)
    (subst (λ (p : Past (Given g.row.P-Name.Denot g.row.P-Out.Denot g.row.P-In.Denot) g.row.P-Name.Denot g.row.P-Story.Denot). HasTurned (control_of p) (control_of (with_event (Asked (Connect c.args.socket (Inproc c.args.name)) (Pair c.in_ok-made.made.0) c.with_notes.result) p)) (g.H.Holder.holding c.args.holder.now) (g.H.Holder.holding c.connect_with_room.new.holder)) c.self.view_is
    (told_held g.P.Pipes.known.out_name g.P.Pipes.known.in_name c.self.inside.state _ _ c.args.socket c.args.name c.args.binding c.self.invariant (g.H.Holder.holding c.args.holder.now) lends held free c.of-owners.result are (length c.args.wakers.now) may refl
    (Inproc c.in_ok-copy.field-0) (ap Inproc c.in_ok-copy.ensures) c.in_ok-made.made.0 c.in_ok-made.made.1 c.connect_with_room.new.state (g.H.Holder.holding c.connect_with_room.new.holder) connected c.with_notes.result c.with_notes.ensures))

pub returns-in_err-made-clause-turned : goal.returns-in_err-made-clause-turned
returns-in_err-made-clause-turned g c =
    subst (λ (p : Past (Given g.row.P-Name.Denot g.row.P-Out.Denot g.row.P-In.Denot) g.row.P-Name.Denot g.row.P-Story.Denot). HasTurned (control_of c.args.self.now) (control_of p) (g.H.Holder.holding c.args.holder.now) (g.H.Holder.holding c.connect_with_room.new.holder))
    (sym (viewed_back c.args.self.now c.self.inside.state c.connect_with_room.new.state c.self.inside.workers c.self.inside.events c.connect_with_room.new.events c.in_err-made.ensures.err
    c.in_err-made.ensures.kept c.self.view_is))
    (past_told c.args.self.now (g.H.Holder.holding c.args.holder.now) (g.H.Holder.holding c.connect_with_room.new.holder) (turns_none (g.H.Holder.holding c.args.holder.now) (g.H.Holder.holding c.connect_with_room.new.holder) c.in_err-made.ensures.keeps))

pub returns-in_err-copy-clause-turned : goal.returns-in_err-copy-clause-turned
returns-in_err-copy-clause-turned g c = past_told c.args.self.now (g.H.Holder.holding c.args.holder.now) (g.H.Holder.holding c.args.holder.now) (turns_same (g.H.Holder.holding c.args.holder.now))

pub returns-clause-joins : goal.returns-clause-joins
returns-clause-joins g c =
    let lends = (subst (λ (p : Past (Given g.row.P-Name.Denot g.row.P-Out.Denot g.row.P-In.Denot) g.row.P-Name.Denot g.row.P-Story.Denot). Lends (control_of p) c.args.socket.0 (g.H.Holder.holding c.args.holder.now)) (sym c.self.view_is) c.requires.lends) in
    let held = (subst (λ (p : Past (Given g.row.P-Name.Denot g.row.P-Out.Denot g.row.P-In.Denot) g.row.P-Name.Denot g.row.P-Story.Denot). (control_of p).names.held (Inproc c.args.name) ≡ Some c.args.binding) (sym c.self.view_is) c.requires.held) in
    let free = (subst (λ (p : Past (Given g.row.P-Name.Denot g.row.P-Out.Denot g.row.P-In.Denot) g.row.P-Name.Denot g.row.P-Story.Denot). refusal_in (reply_of (control_of p) (Connect c.args.socket (Inproc c.args.name))) ≡ None) (sym c.self.view_is) c.requires.free) in
    let stands = c.self.invariant.history.stands in
    let are = c.of-owners.ensures _ stands in
    let has = (subst (λ (p : Past (Given g.row.P-Name.Denot g.row.P-Out.Denot g.row.P-In.Denot) g.row.P-Name.Denot g.row.P-Story.Denot). HasWhat p (g.H.Holder.holding c.args.holder.now)) (sym c.self.view_is) c.requires.has) in
    let may = may_connect g.P.Pipes.known.out_name g.P.Pipes.known.in_name c.self.inside.state _ _ c.args.socket c.args.name c.args.binding c.self.invariant (g.H.Holder.holding c.args.holder.now) lends held free (c.needs.ensures _ stands) c.of-owners.result are (length c.args.wakers.now) (subst (λ (p : Past (Given g.row.P-Name.Denot g.row.P-Out.Denot g.row.P-In.Denot) g.row.P-Name.Denot g.row.P-Story.Denot). (control_of p).slots ≤ length c.args.wakers.now) (sym c.self.view_is) c.requires.wakers) has in
    let connected = c.in_ok-made.ensures.ok may in
    let step = event_now c.args.self.now c.self.inside.workers (with_room 9 c.self.inside.events) c.push.new.self _ _ _ (sym c.self.view_is)
    (c.push.ensures ∙ ap (with_last _) c.in_ok-made.ensures.room) (given_held g.P.Pipes.known.out_name g.P.Pipes.known.in_name c.self.inside.state _ _ c.args.socket c.args.name c.args.binding c.self.invariant (g.H.Holder.holding c.args.holder.now) lends held free c.of-owners.result are (length c.args.wakers.now) may refl
    (Inproc c.in_ok-copy.field-0) (ap Inproc c.in_ok-copy.ensures) c.in_ok-made.made.0 c.in_ok-made.made.1 c.connect_with_room.new.state (g.H.Holder.holding c.connect_with_room.new.holder) connected c.with_notes.result c.with_notes.ensures) in
    subst (λ (p : Past (Given g.row.P-Name.Denot g.row.P-Out.Denot g.row.P-In.Denot) g.row.P-Name.Denot g.row.P-Story.Denot). ComesWith c.args.self.now p (g.H.Holder.holding c.args.holder.now) (g.H.Holder.holding c.connect_with_room.new.holder)) (sym step)
    (event_comes c.args.self.now (Asked (Connect c.args.socket (Inproc c.args.name)) (Pair c.in_ok-made.made.0) c.with_notes.result) (g.H.Holder.holding c.args.holder.now) (g.H.Holder.holding c.connect_with_room.new.holder)
    (connected.came ∙ ap (λ (js : List (Joining g.row.P-Name.Denot)). (g.H.Holder.holding c.args.holder.now).joined ++ js) (sym c.with_notes.ensures.joined)) connected.gets.objects connected.gets.kinds (connect_still c.args.socket c.args.name (answers_in c.with_notes.result) (control_of c.args.self.now)) (λ b n. refl) connected.heard)

pub returns-in_err-made-clause-joins : goal.returns-in_err-made-clause-joins
returns-in_err-made-clause-joins g c =
    subst (λ (p : Past (Given g.row.P-Name.Denot g.row.P-Out.Denot g.row.P-In.Denot) g.row.P-Name.Denot g.row.P-Story.Denot). ComesWith c.args.self.now p (g.H.Holder.holding c.args.holder.now) (g.H.Holder.holding c.connect_with_room.new.holder))
    (sym (viewed_back c.args.self.now c.self.inside.state c.connect_with_room.new.state c.self.inside.workers c.self.inside.events c.connect_with_room.new.events c.in_err-made.ensures.err
    c.in_err-made.ensures.kept c.self.view_is))
    (past_comes c.args.self.now (g.H.Holder.holding c.args.holder.now) (g.H.Holder.holding c.connect_with_room.new.holder) c.in_err-made.ensures.keeps.joined c.in_err-made.ensures.stays.now.objects c.in_err-made.ensures.stays.now.kinds c.in_err-made.ensures.heard)

pub returns-in_err-copy-clause-joins : goal.returns-in_err-copy-clause-joins
returns-in_err-copy-clause-joins g c = past_comes c.args.self.now (g.H.Holder.holding c.args.holder.now) (g.H.Holder.holding c.args.holder.now) refl (λ i. refl) (λ i. refl) refl

pub returns-in_err-made-clause-err : goal.returns-in_err-made-clause-err
returns-in_err-made-clause-err g c =
    let are = c.of-owners.ensures _ c.self.invariant.history.stands in
    so_on_err _ c.from_residual-in_err-made.result (
      viewed_back c.args.self.now c.self.inside.state c.connect_with_room.new.state c.self.inside.workers c.self.inside.events c.connect_with_room.new.events c.in_err-made.ensures.err c.in_err-made.ensures.kept c.self.view_is,
      subst (λ (o : ObjId). Stays o.0 (g.H.Holder.holding c.args.holder.now) (g.H.Holder.holding c.connect_with_room.new.holder)) are.first c.in_err-made.ensures.stays,
    )

pub connect_with_room-requires-clause-may : goal.connect_with_room-requires-clause-may
connect_with_room-requires-clause-may g c =
    let lends = (subst (λ (p : Past (Given g.row.P-Name.Denot g.row.P-Out.Denot g.row.P-In.Denot) g.row.P-Name.Denot g.row.P-Story.Denot). Lends (control_of p) c.args.socket.0 (g.H.Holder.holding c.args.holder.now)) (sym c.self.view_is) c.requires.lends) in
    let held = (subst (λ (p : Past (Given g.row.P-Name.Denot g.row.P-Out.Denot g.row.P-In.Denot) g.row.P-Name.Denot g.row.P-Story.Denot). (control_of p).names.held (Inproc c.args.name) ≡ Some c.args.binding) (sym c.self.view_is) c.requires.held) in
    let free = (subst (λ (p : Past (Given g.row.P-Name.Denot g.row.P-Out.Denot g.row.P-In.Denot) g.row.P-Name.Denot g.row.P-Story.Denot). refusal_in (reply_of (control_of p) (Connect c.args.socket (Inproc c.args.name))) ≡ None) (sym c.self.view_is) c.requires.free) in
    let stands = c.self.invariant.history.stands in
    let are = c.of-owners.ensures _ stands in
    let has = (subst (λ (p : Past (Given g.row.P-Name.Denot g.row.P-Out.Denot g.row.P-In.Denot) g.row.P-Name.Denot g.row.P-Story.Denot). HasWhat p (g.H.Holder.holding c.args.holder.now)) (sym c.self.view_is) c.requires.has) in
    let may = may_connect g.P.Pipes.known.out_name g.P.Pipes.known.in_name c.self.inside.state _ _ c.args.socket c.args.name c.args.binding c.self.invariant (g.H.Holder.holding c.args.holder.now) lends held free (c.needs.ensures _ stands) c.of-owners.result are (length c.args.wakers.now) (subst (λ (p : Past (Given g.row.P-Name.Denot g.row.P-Out.Denot g.row.P-In.Denot) g.row.P-Name.Denot g.row.P-Story.Denot). (control_of p).slots ≤ length c.args.wakers.now) (sym c.self.view_is) c.requires.wakers) has in
    may

pub connect_with_room-requires-clause-calm : goal.connect_with_room-requires-clause-calm
connect_with_room-requires-clause-calm g c = c.requires.calm

pub connect_with_room-requires-clause-makes : goal.connect_with_room-requires-clause-makes
connect_with_room-requires-clause-makes g c =
    let lends = (subst (λ (p : Past (Given g.row.P-Name.Denot g.row.P-Out.Denot g.row.P-In.Denot) g.row.P-Name.Denot g.row.P-Story.Denot). Lends (control_of p) c.args.socket.0 (g.H.Holder.holding c.args.holder.now)) (sym c.self.view_is) c.requires.lends) in
    let held = (subst (λ (p : Past (Given g.row.P-Name.Denot g.row.P-Out.Denot g.row.P-In.Denot) g.row.P-Name.Denot g.row.P-Story.Denot). (control_of p).names.held (Inproc c.args.name) ≡ Some c.args.binding) (sym c.self.view_is) c.requires.held) in
    let free = (subst (λ (p : Past (Given g.row.P-Name.Denot g.row.P-Out.Denot g.row.P-In.Denot) g.row.P-Name.Denot g.row.P-Story.Denot). refusal_in (reply_of (control_of p) (Connect c.args.socket (Inproc c.args.name))) ≡ None) (sym c.self.view_is) c.requires.free) in
    let stands = c.self.invariant.history.stands in
    let are = c.of-owners.ensures _ stands in
    may_make_held g.P.Pipes.known.out_name g.P.Pipes.known.in_name c.self.inside.state _ _ c.args.socket c.args.name c.args.binding c.self.invariant (g.H.Holder.holding c.args.holder.now) lends held free c.of-owners.result are g.H.Holder.may_make
    (subst (λ (p : Past (Given g.row.P-Name.Denot g.row.P-Out.Denot g.row.P-In.Denot) g.row.P-Name.Denot g.row.P-Story.Denot). MakesSo (control_of p) (Connect c.args.socket (Inproc c.args.name)) g.H.Holder.may_make) (sym c.self.view_is) c.requires.makes)

pub push-requires : goal.push-requires
push-requires g c =
    let more = ap (λ (l : Listed (Did g.row.P-Name.Denot g.row.P-Story.Denot)). l.spare) c.in_ok-made.ensures.room in
    record { room = omega (arith, more) }

pub returns-in_err-made-clause-same : goal.returns-in_err-made-clause-same
returns-in_err-made-clause-same g c = record { objects = c.in_err-made.ensures.stays.now.objects; kinds = c.in_err-made.ensures.stays.now.kinds; output = c.in_err-made.ensures.stays.now.output }

pub returns-in_err-copy-clause-same : goal.returns-in_err-copy-clause-same
returns-in_err-copy-clause-same g c = record { objects = λ i. refl; kinds = λ i. refl; output = λ i. refl }

pub returns-in_err-copy-clause-keeps : goal.returns-in_err-copy-clause-keeps
returns-in_err-copy-clause-keeps g c = c.requires.has

pub returns-in_err-copy-clause-err : goal.returns-in_err-copy-clause-err
returns-in_err-copy-clause-err g c = so_on_err _ c.from_residual.result (refl, stays_itself (g.H.Holder.holding c.args.holder.now) c.args.socket.0)
