use Rattle.std.specs.Prelude.{◌≡◌, ◌≤◌, ◌+◌, ◌-◌, ◌*◌, ℕ, List, None, length, refl, ◌++◌}
use Rattle.std.proofs.Common.{arith, ap, sym, ◌∙◌, subst}
use Rattle.std.proofs.lemmas.List.{length-map}
use Rattle.zq_base.specs.declared.endpoint.Endpoint.TheVariants.{Inproc}
use Rattle.spec_control.specs.declared.book.Waiting.{Waiting}
use Rattle.spec_control.specs.declared.request.Req.TheVariants.{Bind}
use Rattle.spec_control.specs.Names.{name_of}
use Rattle.spec_control.specs.Reply.{reply_of}
use Rattle.ctl_moves.specs.Drawing.{IsBack}
use Rattle.desk.specs.declared.given.Given.{Given}
use Rattle.ctl_state.specs.Listed.{Listed, with_last, with_room}
use Rattle.spec_control.specs.declared.entry.Did.{Did}
use Rattle.ctl_plane.specs.Carried.{given_in}
use Rattle.ctl_plane.proofs.FulfilEventLemmas.{waits_for_it}
use Rattle.ctl_plane.specs.Past.{Past, control_of, items_of, with_event}
use Rattle.ctl_plane.specs.Hearing.{HasWhat}
use Rattle.ctl_plane.specs.Joining.{Lends}
use Rattle.ctl_moves.specs.Refusals.{refusal_in}
use Rattle.ctl_plane.proofs.BindLemmas.{bind_done}
use Rattle.ctl_plane.proofs.DoneLemmas.{event_now}
use Rattle.ctl_plane.proofs.FulfilPlaneLemmas.{ends_bound, given_bound, back_told, has_back, keeps_bound, plane_bound, told_fulfilled, back_itself}
use Rattle.ctl_plane.proofs.FulfillingLemmas.{may_fulfil_all, may_make_for}
use Rattle.desk.specs.Making.{MakesSo}
use Rattle.ctl_plane.proofs.MakingLemmas.{planed_back, viewed_back}
use Rattle.ctl_state.proofs.KeptLemmas.{so_on_err}
use Rattle.ctl_plane.proofs.PlaneLemmas.{planed_now}
use Rattle.desk.specs.Turns.{HasTurned}
use Rattle.ctl_moves.proofs.TurnedLemmas.{turns_same}
use Rattle.ctl_plane.proofs.ToldLemmas.{past_told}
use Rattle.spec_control.specs.declared.entry.Did.TheVariants.{Asked}
use Rattle.spec_control.specs.declared.request.Reply.TheVariants.{Done}
use Rattle.ctl_plane.specs.Coming.{ComesWith}
use Rattle.ctl_plane.proofs.ComeLemmas.{event_comes, past_comes}
use Rattle.spec_control.specs.declared.entry.Joining.{Joining}
use Rattle.spec_control.specs.After.{answers_in}
use Rattle.ctl_plane.proofs.StillLemmas.{bind_still}
use Rattle.spec_control.specs.Control.{next_pair}
use Rattle.ctl_plane.proofs.history.History.bind_now.Goals as goal

pub bind_with_room-requires-clause-may : goal.bind_with_room-requires-clause-may
bind_with_room-requires-clause-may g c =
    let inner : Past (Given g.row.P-Name.Denot g.row.P-Out.Denot g.row.P-In.Denot) g.row.P-Name.Denot g.row.P-Story.Denot = record { workers = c.self.inside.workers; events = c.self.inside.events.items; given = given_in c.self.inside.state.boxes } in
    let lends = subst (λ (p : Past (Given g.row.P-Name.Denot g.row.P-Out.Denot g.row.P-In.Denot) g.row.P-Name.Denot g.row.P-Story.Denot). Lends (control_of p) c.args.socket.0 (g.H.Holder.holding c.args.holder.now)) (sym c.self.view_is) c.requires.lends in
    let allowed = subst (λ (p : Past (Given g.row.P-Name.Denot g.row.P-Out.Denot g.row.P-In.Denot) g.row.P-Name.Denot g.row.P-Story.Denot). refusal_in (reply_of (control_of p) (Bind c.args.socket (Inproc c.args.name))) ≡ None) (sym c.self.view_is) c.requires.free in
    let stands = c.self.invariant.history.stands in
    let has = subst (λ (p : Past (Given g.row.P-Name.Denot g.row.P-Out.Denot g.row.P-In.Denot) g.row.P-Name.Denot g.row.P-Story.Denot). HasWhat p (g.H.Holder.holding c.args.holder.now)) (sym c.self.view_is) c.requires.has in
    let wakers = subst (λ (p : Past (Given g.row.P-Name.Denot g.row.P-Out.Denot g.row.P-In.Denot) g.row.P-Name.Denot g.row.P-Story.Denot). (control_of p).slots ≤ length c.args.wakers.now) (sym c.self.view_is) c.requires.wakers in
    let all = may_fulfil_all g.P.Pipes.known.out_name g.P.Pipes.known.in_name c.self.inside.state _ _ c.args.socket c.args.name c.self.invariant (g.H.Holder.holding c.args.holder.now) lends allowed (c.needs.ensures _ stands) (length c.args.wakers.now) wakers has in
    all

pub bind_with_room-requires-clause-makes : goal.bind_with_room-requires-clause-makes
bind_with_room-requires-clause-makes g c =
    let inner : Past (Given g.row.P-Name.Denot g.row.P-Out.Denot g.row.P-In.Denot) g.row.P-Name.Denot g.row.P-Story.Denot = record { workers = c.self.inside.workers; events = c.self.inside.events.items; given = given_in c.self.inside.state.boxes } in
    let lends = subst (λ (p : Past (Given g.row.P-Name.Denot g.row.P-Out.Denot g.row.P-In.Denot) g.row.P-Name.Denot g.row.P-Story.Denot). Lends (control_of p) c.args.socket.0 (g.H.Holder.holding c.args.holder.now)) (sym c.self.view_is) c.requires.lends in
    let allowed = subst (λ (p : Past (Given g.row.P-Name.Denot g.row.P-Out.Denot g.row.P-In.Denot) g.row.P-Name.Denot g.row.P-Story.Denot). refusal_in (reply_of (control_of p) (Bind c.args.socket (Inproc c.args.name))) ≡ None) (sym c.self.view_is) c.requires.free in
    let stands = c.self.invariant.history.stands in
    let has = subst (λ (p : Past (Given g.row.P-Name.Denot g.row.P-Out.Denot g.row.P-In.Denot) g.row.P-Name.Denot g.row.P-Story.Denot). HasWhat p (g.H.Holder.holding c.args.holder.now)) (sym c.self.view_is) c.requires.has in
    let wakers = subst (λ (p : Past (Given g.row.P-Name.Denot g.row.P-Out.Denot g.row.P-In.Denot) g.row.P-Name.Denot g.row.P-Story.Denot). (control_of p).slots ≤ length c.args.wakers.now) (sym c.self.view_is) c.requires.wakers in
    may_make_for g.P.Pipes.known.out_name g.P.Pipes.known.in_name c.self.inside.state _ _ c.args.socket c.args.name c.self.invariant (g.H.Holder.holding c.args.holder.now) lends allowed (c.needs.ensures _ stands) (length c.args.wakers.now) wakers has g.H.Holder.may_make
    (subst (λ (p : Past (Given g.row.P-Name.Denot g.row.P-Out.Denot g.row.P-In.Denot) g.row.P-Name.Denot g.row.P-Story.Denot). MakesSo (control_of p) (Bind c.args.socket (Inproc c.args.name)) g.H.Holder.may_make) (sym c.self.view_is) c.requires.makes)

pub push-requires : goal.push-requires
push-requires g c =
    let inner : Past (Given g.row.P-Name.Denot g.row.P-Out.Denot g.row.P-In.Denot) g.row.P-Name.Denot g.row.P-Story.Denot = record { workers = c.self.inside.workers; events = c.self.inside.events.items; given = given_in c.self.inside.state.boxes } in
    let lends = subst (λ (p : Past (Given g.row.P-Name.Denot g.row.P-Out.Denot g.row.P-In.Denot) g.row.P-Name.Denot g.row.P-Story.Denot). Lends (control_of p) c.args.socket.0 (g.H.Holder.holding c.args.holder.now)) (sym c.self.view_is) c.requires.lends in
    let allowed = subst (λ (p : Past (Given g.row.P-Name.Denot g.row.P-Out.Denot g.row.P-In.Denot) g.row.P-Name.Denot g.row.P-Story.Denot). refusal_in (reply_of (control_of p) (Bind c.args.socket (Inproc c.args.name))) ≡ None) (sym c.self.view_is) c.requires.free in
    let stands = c.self.invariant.history.stands in
    let has = subst (λ (p : Past (Given g.row.P-Name.Denot g.row.P-Out.Denot g.row.P-In.Denot) g.row.P-Name.Denot g.row.P-Story.Denot). HasWhat p (g.H.Holder.holding c.args.holder.now)) (sym c.self.view_is) c.requires.has in
    let wakers = subst (λ (p : Past (Given g.row.P-Name.Denot g.row.P-Out.Denot g.row.P-In.Denot) g.row.P-Name.Denot g.row.P-Story.Denot). (control_of p).slots ≤ length c.args.wakers.now) (sym c.self.view_is) c.requires.wakers in
    let all = may_fulfil_all g.P.Pipes.known.out_name g.P.Pipes.known.in_name c.self.inside.state _ _ c.args.socket c.args.name c.self.invariant (g.H.Holder.holding c.args.holder.now) lends allowed (c.needs.ensures _ stands) (length c.args.wakers.now) wakers has in
    let more = ap (λ (l : Listed (Did g.row.P-Name.Denot g.row.P-Story.Denot)). l.spare) (c.in_ok-notes.ensures.room all) in
    record { room = omega (arith, more) }

pub invariant_of-self-2 : goal.invariant_of-self-2
invariant_of-self-2 g c =
    let inner : Past (Given g.row.P-Name.Denot g.row.P-Out.Denot g.row.P-In.Denot) g.row.P-Name.Denot g.row.P-Story.Denot = record { workers = c.self.inside.workers; events = c.self.inside.events.items; given = given_in c.self.inside.state.boxes } in
    let lends = subst (λ (p : Past (Given g.row.P-Name.Denot g.row.P-Out.Denot g.row.P-In.Denot) g.row.P-Name.Denot g.row.P-Story.Denot). Lends (control_of p) c.args.socket.0 (g.H.Holder.holding c.args.holder.now)) (sym c.self.view_is) c.requires.lends in
    let allowed = subst (λ (p : Past (Given g.row.P-Name.Denot g.row.P-Out.Denot g.row.P-In.Denot) g.row.P-Name.Denot g.row.P-Story.Denot). refusal_in (reply_of (control_of p) (Bind c.args.socket (Inproc c.args.name))) ≡ None) (sym c.self.view_is) c.requires.free in
    let stands = c.self.invariant.history.stands in
    let has = subst (λ (p : Past (Given g.row.P-Name.Denot g.row.P-Out.Denot g.row.P-In.Denot) g.row.P-Name.Denot g.row.P-Story.Denot). HasWhat p (g.H.Holder.holding c.args.holder.now)) (sym c.self.view_is) c.requires.has in
    let wakers = subst (λ (p : Past (Given g.row.P-Name.Denot g.row.P-Out.Denot g.row.P-In.Denot) g.row.P-Name.Denot g.row.P-Story.Denot). (control_of p).slots ≤ length c.args.wakers.now) (sym c.self.view_is) c.requires.wakers in
    let all = may_fulfil_all g.P.Pipes.known.out_name g.P.Pipes.known.in_name c.self.inside.state _ _ c.args.socket c.args.name c.self.invariant (g.H.Holder.holding c.args.holder.now) lends allowed (c.needs.ensures _ stands) (length c.args.wakers.now) wakers has in
    let fulfils = c.in_ok-notes.ensures.ok all in
    planed_now g.P.Pipes.known.out_name g.P.Pipes.known.in_name c.bind_with_room.new.state c.self.inside.workers (with_room (8 * length all.waiters + 1) c.self.inside.events) c.push.new.self _ _ _
    (c.push.ensures ∙ ap (with_last _) (c.in_ok-notes.ensures.room all))
    (plane_bound g.P.Pipes.known.out_name g.P.Pipes.known.in_name c.self.inside.state _ _ c.args.socket c.args.name c.self.invariant (g.H.Holder.holding c.args.holder.now) lends allowed c.in_ok-notes.notes c.bind_with_room.new.state (g.H.Holder.holding c.bind_with_room.new.holder) fulfils c.with_notes.result c.with_notes.ensures (c.self.inside.events.spare + (8 * length all.waiters + 1) - 1) (let many = length-map (waits_for_it (control_of inner) c.args.socket c.args.name) (λ (w : Waiting). w.waiter) in omega (arith, many)))

pub returns-clause-ok : goal.returns-clause-ok
returns-clause-ok g c =
    let inner : Past (Given g.row.P-Name.Denot g.row.P-Out.Denot g.row.P-In.Denot) g.row.P-Name.Denot g.row.P-Story.Denot = record { workers = c.self.inside.workers; events = c.self.inside.events.items; given = given_in c.self.inside.state.boxes } in
    let lends = subst (λ (p : Past (Given g.row.P-Name.Denot g.row.P-Out.Denot g.row.P-In.Denot) g.row.P-Name.Denot g.row.P-Story.Denot). Lends (control_of p) c.args.socket.0 (g.H.Holder.holding c.args.holder.now)) (sym c.self.view_is) c.requires.lends in
    let allowed = subst (λ (p : Past (Given g.row.P-Name.Denot g.row.P-Out.Denot g.row.P-In.Denot) g.row.P-Name.Denot g.row.P-Story.Denot). refusal_in (reply_of (control_of p) (Bind c.args.socket (Inproc c.args.name))) ≡ None) (sym c.self.view_is) c.requires.free in
    let stands = c.self.invariant.history.stands in
    let has = subst (λ (p : Past (Given g.row.P-Name.Denot g.row.P-Out.Denot g.row.P-In.Denot) g.row.P-Name.Denot g.row.P-Story.Denot). HasWhat p (g.H.Holder.holding c.args.holder.now)) (sym c.self.view_is) c.requires.has in
    let wakers = subst (λ (p : Past (Given g.row.P-Name.Denot g.row.P-Out.Denot g.row.P-In.Denot) g.row.P-Name.Denot g.row.P-Story.Denot). (control_of p).slots ≤ length c.args.wakers.now) (sym c.self.view_is) c.requires.wakers in
    let all = may_fulfil_all g.P.Pipes.known.out_name g.P.Pipes.known.in_name c.self.inside.state _ _ c.args.socket c.args.name c.self.invariant (g.H.Holder.holding c.args.holder.now) lends allowed (c.needs.ensures _ stands) (length c.args.wakers.now) wakers has in
    let fulfils = c.in_ok-notes.ensures.ok all in
    record {
      answered = c.with_notes.result;
      step = event_now c.args.self.now c.self.inside.workers (with_room (8 * length all.waiters + 1) c.self.inside.events) c.push.new.self _ _ _ (sym c.self.view_is)
          (c.push.ensures ∙ ap (with_last _) (c.in_ok-notes.ensures.room all)) (given_bound g.P.Pipes.known.out_name g.P.Pipes.known.in_name c.self.inside.state _ _ c.args.socket c.args.name c.self.invariant (g.H.Holder.holding c.args.holder.now) lends allowed c.in_ok-notes.notes c.bind_with_room.new.state (g.H.Holder.holding c.bind_with_room.new.holder) fulfils c.with_notes.result c.with_notes.ensures);
      ends = ends_bound g.P.Pipes.known.out_name g.P.Pipes.known.in_name c.self.inside.state _ _ c.args.socket c.args.name c.self.invariant (g.H.Holder.holding c.args.holder.now) lends allowed c.in_ok-notes.notes c.bind_with_room.new.state (g.H.Holder.holding c.bind_with_room.new.holder) fulfils c.with_notes.result c.with_notes.ensures;
    }

pub returns-clause-reply : goal.returns-clause-reply
returns-clause-reply g c = sym (bind_done (control_of c.args.self.now) c.args.socket c.args.name c.requires.free)

pub returns-clause-same : goal.returns-clause-same
returns-clause-same g c =
    let inner : Past (Given g.row.P-Name.Denot g.row.P-Out.Denot g.row.P-In.Denot) g.row.P-Name.Denot g.row.P-Story.Denot = record { workers = c.self.inside.workers; events = c.self.inside.events.items; given = given_in c.self.inside.state.boxes } in
    let lends = subst (λ (p : Past (Given g.row.P-Name.Denot g.row.P-Out.Denot g.row.P-In.Denot) g.row.P-Name.Denot g.row.P-Story.Denot). Lends (control_of p) c.args.socket.0 (g.H.Holder.holding c.args.holder.now)) (sym c.self.view_is) c.requires.lends in
    let allowed = subst (λ (p : Past (Given g.row.P-Name.Denot g.row.P-Out.Denot g.row.P-In.Denot) g.row.P-Name.Denot g.row.P-Story.Denot). refusal_in (reply_of (control_of p) (Bind c.args.socket (Inproc c.args.name))) ≡ None) (sym c.self.view_is) c.requires.free in
    let stands = c.self.invariant.history.stands in
    let has = subst (λ (p : Past (Given g.row.P-Name.Denot g.row.P-Out.Denot g.row.P-In.Denot) g.row.P-Name.Denot g.row.P-Story.Denot). HasWhat p (g.H.Holder.holding c.args.holder.now)) (sym c.self.view_is) c.requires.has in
    let wakers = subst (λ (p : Past (Given g.row.P-Name.Denot g.row.P-Out.Denot g.row.P-In.Denot) g.row.P-Name.Denot g.row.P-Story.Denot). (control_of p).slots ≤ length c.args.wakers.now) (sym c.self.view_is) c.requires.wakers in
    let all = may_fulfil_all g.P.Pipes.known.out_name g.P.Pipes.known.in_name c.self.inside.state _ _ c.args.socket c.args.name c.self.invariant (g.H.Holder.holding c.args.holder.now) lends allowed (c.needs.ensures _ stands) (length c.args.wakers.now) wakers has in
    let fulfils = c.in_ok-notes.ensures.ok all in
    record { objects = fulfils.gets.objects; kinds = fulfils.gets.kinds; output = fulfils.gets.output }

pub returns-clause-keeps : goal.returns-clause-keeps
returns-clause-keeps g c =
    let inner : Past (Given g.row.P-Name.Denot g.row.P-Out.Denot g.row.P-In.Denot) g.row.P-Name.Denot g.row.P-Story.Denot = record { workers = c.self.inside.workers; events = c.self.inside.events.items; given = given_in c.self.inside.state.boxes } in
    let lends = subst (λ (p : Past (Given g.row.P-Name.Denot g.row.P-Out.Denot g.row.P-In.Denot) g.row.P-Name.Denot g.row.P-Story.Denot). Lends (control_of p) c.args.socket.0 (g.H.Holder.holding c.args.holder.now)) (sym c.self.view_is) c.requires.lends in
    let allowed = subst (λ (p : Past (Given g.row.P-Name.Denot g.row.P-Out.Denot g.row.P-In.Denot) g.row.P-Name.Denot g.row.P-Story.Denot). refusal_in (reply_of (control_of p) (Bind c.args.socket (Inproc c.args.name))) ≡ None) (sym c.self.view_is) c.requires.free in
    let stands = c.self.invariant.history.stands in
    let has = subst (λ (p : Past (Given g.row.P-Name.Denot g.row.P-Out.Denot g.row.P-In.Denot) g.row.P-Name.Denot g.row.P-Story.Denot). HasWhat p (g.H.Holder.holding c.args.holder.now)) (sym c.self.view_is) c.requires.has in
    let wakers = subst (λ (p : Past (Given g.row.P-Name.Denot g.row.P-Out.Denot g.row.P-In.Denot) g.row.P-Name.Denot g.row.P-Story.Denot). (control_of p).slots ≤ length c.args.wakers.now) (sym c.self.view_is) c.requires.wakers in
    let all = may_fulfil_all g.P.Pipes.known.out_name g.P.Pipes.known.in_name c.self.inside.state _ _ c.args.socket c.args.name c.self.invariant (g.H.Holder.holding c.args.holder.now) lends allowed (c.needs.ensures _ stands) (length c.args.wakers.now) wakers has in
    let fulfils = c.in_ok-notes.ensures.ok all in
    subst (λ (p : Past (Given g.row.P-Name.Denot g.row.P-Out.Denot g.row.P-In.Denot) g.row.P-Name.Denot g.row.P-Story.Denot). HasWhat p (g.H.Holder.holding c.bind_with_room.new.holder))
    (sym (event_now (record { workers = c.self.inside.workers; events = c.self.inside.events.items; given = _ }) c.self.inside.workers (with_room (8 * length all.waiters + 1) c.self.inside.events) c.push.new.self _ _ _ refl
    (c.push.ensures ∙ ap (with_last _) (c.in_ok-notes.ensures.room all)) (given_bound g.P.Pipes.known.out_name g.P.Pipes.known.in_name c.self.inside.state _ _ c.args.socket c.args.name c.self.invariant (g.H.Holder.holding c.args.holder.now) lends allowed c.in_ok-notes.notes c.bind_with_room.new.state (g.H.Holder.holding c.bind_with_room.new.holder) fulfils c.with_notes.result c.with_notes.ensures)))
    (keeps_bound g.P.Pipes.known.out_name g.P.Pipes.known.in_name c.self.inside.state _ _ c.args.socket c.args.name c.self.invariant (g.H.Holder.holding c.args.holder.now) lends allowed c.in_ok-notes.notes c.bind_with_room.new.state (g.H.Holder.holding c.bind_with_room.new.holder) fulfils c.with_notes.result c.with_notes.ensures has)

pub invariant_of-self : goal.invariant_of-self
invariant_of-self g c =
    planed_back g.P.Pipes.known.out_name g.P.Pipes.known.in_name c.self.inside.state c.bind_with_room.new.state c.self.inside.workers c.self.inside.events c.bind_with_room.new.events c.in_err-notes.ensures.err
    c.in_err-notes.ensures.kept c.self.invariant

pub returns-in_err-notes-clause-keeps : goal.returns-in_err-notes-clause-keeps
returns-in_err-notes-clause-keeps g c =
    let inner : Past (Given g.row.P-Name.Denot g.row.P-Out.Denot g.row.P-In.Denot) g.row.P-Name.Denot g.row.P-Story.Denot = record { workers = c.self.inside.workers; events = c.self.inside.events.items; given = given_in c.self.inside.state.boxes } in
    let has = subst (λ (p : Past (Given g.row.P-Name.Denot g.row.P-Out.Denot g.row.P-In.Denot) g.row.P-Name.Denot g.row.P-Story.Denot). HasWhat p (g.H.Holder.holding c.args.holder.now)) (sym c.self.view_is) c.requires.has in
    let stands = c.self.invariant.history.stands in
    let back = subst (λ (n : ℕ). IsBack n c.args.socket.0 (g.H.Holder.holding c.args.holder.now) (g.H.Holder.holding c.bind_with_room.new.holder)) (sym stands.pairs.many) c.in_err-notes.ensures.back in
    subst (λ (p : Past (Given g.row.P-Name.Denot g.row.P-Out.Denot g.row.P-In.Denot) g.row.P-Name.Denot g.row.P-Story.Denot). HasWhat p (g.H.Holder.holding c.bind_with_room.new.holder))
    (sym (viewed_back inner c.self.inside.state c.bind_with_room.new.state c.self.inside.workers c.self.inside.events c.bind_with_room.new.events c.in_err-notes.ensures.err
    c.in_err-notes.ensures.kept refl))
    (has_back (name_of (items_of inner)) (control_of inner) c.args.socket.0 (g.H.Holder.holding c.args.holder.now) (g.H.Holder.holding c.bind_with_room.new.holder) stands.lists.known back has)

pub returns-clause-turned : goal.returns-clause-turned
returns-clause-turned g c =
    let inner : Past (Given g.row.P-Name.Denot g.row.P-Out.Denot g.row.P-In.Denot) g.row.P-Name.Denot g.row.P-Story.Denot = record { workers = c.self.inside.workers; events = c.self.inside.events.items; given = given_in c.self.inside.state.boxes } in
    let lends = subst (λ (p : Past (Given g.row.P-Name.Denot g.row.P-Out.Denot g.row.P-In.Denot) g.row.P-Name.Denot g.row.P-Story.Denot). Lends (control_of p) c.args.socket.0 (g.H.Holder.holding c.args.holder.now)) (sym c.self.view_is) c.requires.lends in
    let allowed = subst (λ (p : Past (Given g.row.P-Name.Denot g.row.P-Out.Denot g.row.P-In.Denot) g.row.P-Name.Denot g.row.P-Story.Denot). refusal_in (reply_of (control_of p) (Bind c.args.socket (Inproc c.args.name))) ≡ None) (sym c.self.view_is) c.requires.free in
    let stands = c.self.invariant.history.stands in
    let has = subst (λ (p : Past (Given g.row.P-Name.Denot g.row.P-Out.Denot g.row.P-In.Denot) g.row.P-Name.Denot g.row.P-Story.Denot). HasWhat p (g.H.Holder.holding c.args.holder.now)) (sym c.self.view_is) c.requires.has in
    let wakers = subst (λ (p : Past (Given g.row.P-Name.Denot g.row.P-Out.Denot g.row.P-In.Denot) g.row.P-Name.Denot g.row.P-Story.Denot). (control_of p).slots ≤ length c.args.wakers.now) (sym c.self.view_is) c.requires.wakers in
    let all = may_fulfil_all g.P.Pipes.known.out_name g.P.Pipes.known.in_name c.self.inside.state _ _ c.args.socket c.args.name c.self.invariant (g.H.Holder.holding c.args.holder.now) lends allowed (c.needs.ensures _ stands) (length c.args.wakers.now) wakers has in
    let fulfils = c.in_ok-notes.ensures.ok all in
    let step = event_now c.args.self.now c.self.inside.workers (with_room (8 * length all.waiters + 1) c.self.inside.events) c.push.new.self _ _ _ (sym c.self.view_is)
    (c.push.ensures ∙ ap (with_last _) (c.in_ok-notes.ensures.room all)) (given_bound g.P.Pipes.known.out_name g.P.Pipes.known.in_name c.self.inside.state _ _ c.args.socket c.args.name c.self.invariant (g.H.Holder.holding c.args.holder.now) lends allowed c.in_ok-notes.notes c.bind_with_room.new.state (g.H.Holder.holding c.bind_with_room.new.holder) fulfils c.with_notes.result c.with_notes.ensures) in
    subst (λ (p : Past (Given g.row.P-Name.Denot g.row.P-Out.Denot g.row.P-In.Denot) g.row.P-Name.Denot g.row.P-Story.Denot). HasTurned (control_of c.args.self.now) (control_of p) (g.H.Holder.holding c.args.holder.now) (g.H.Holder.holding c.bind_with_room.new.holder)) (sym step)
    (subst (λ (p : Past (Given g.row.P-Name.Denot g.row.P-Out.Denot g.row.P-In.Denot) g.row.P-Name.Denot g.row.P-Story.Denot). HasTurned (control_of p) (control_of (with_event (Asked (Bind c.args.socket (Inproc c.args.name)) Done c.with_notes.result) p)) (g.H.Holder.holding c.args.holder.now) (g.H.Holder.holding c.bind_with_room.new.holder)) c.self.view_is
    (told_fulfilled g.P.Pipes.known.out_name g.P.Pipes.known.in_name c.self.inside.state _ _ c.args.socket c.args.name c.self.invariant (g.H.Holder.holding c.args.holder.now) lends allowed c.in_ok-notes.notes c.bind_with_room.new.state (g.H.Holder.holding c.bind_with_room.new.holder) fulfils c.with_notes.result c.with_notes.ensures))

pub returns-in_err-notes-clause-turned : goal.returns-in_err-notes-clause-turned
returns-in_err-notes-clause-turned g c =
    subst (λ (p : Past (Given g.row.P-Name.Denot g.row.P-Out.Denot g.row.P-In.Denot) g.row.P-Name.Denot g.row.P-Story.Denot). HasTurned (control_of c.args.self.now) (control_of p) (g.H.Holder.holding c.args.holder.now) (g.H.Holder.holding c.bind_with_room.new.holder))
    (sym (viewed_back c.args.self.now c.self.inside.state c.bind_with_room.new.state c.self.inside.workers c.self.inside.events c.bind_with_room.new.events c.in_err-notes.ensures.err
    c.in_err-notes.ensures.kept c.self.view_is))
    (past_told c.args.self.now (g.H.Holder.holding c.args.holder.now) (g.H.Holder.holding c.bind_with_room.new.holder) (back_told (length c.self.inside.state.pairs) c.args.socket.0 (g.H.Holder.holding c.args.holder.now) (g.H.Holder.holding c.bind_with_room.new.holder) c.in_err-notes.ensures.back))

pub returns-in_err-copy-clause-turned : goal.returns-in_err-copy-clause-turned
returns-in_err-copy-clause-turned g c = past_told c.args.self.now (g.H.Holder.holding c.args.holder.now) (g.H.Holder.holding c.args.holder.now) (turns_same (g.H.Holder.holding c.args.holder.now))

pub returns-clause-joins : goal.returns-clause-joins
returns-clause-joins g c =
    let inner : Past (Given g.row.P-Name.Denot g.row.P-Out.Denot g.row.P-In.Denot) g.row.P-Name.Denot g.row.P-Story.Denot = record { workers = c.self.inside.workers; events = c.self.inside.events.items; given = given_in c.self.inside.state.boxes } in
    let lends = subst (λ (p : Past (Given g.row.P-Name.Denot g.row.P-Out.Denot g.row.P-In.Denot) g.row.P-Name.Denot g.row.P-Story.Denot). Lends (control_of p) c.args.socket.0 (g.H.Holder.holding c.args.holder.now)) (sym c.self.view_is) c.requires.lends in
    let allowed = subst (λ (p : Past (Given g.row.P-Name.Denot g.row.P-Out.Denot g.row.P-In.Denot) g.row.P-Name.Denot g.row.P-Story.Denot). refusal_in (reply_of (control_of p) (Bind c.args.socket (Inproc c.args.name))) ≡ None) (sym c.self.view_is) c.requires.free in
    let stands = c.self.invariant.history.stands in
    let has = subst (λ (p : Past (Given g.row.P-Name.Denot g.row.P-Out.Denot g.row.P-In.Denot) g.row.P-Name.Denot g.row.P-Story.Denot). HasWhat p (g.H.Holder.holding c.args.holder.now)) (sym c.self.view_is) c.requires.has in
    let wakers = subst (λ (p : Past (Given g.row.P-Name.Denot g.row.P-Out.Denot g.row.P-In.Denot) g.row.P-Name.Denot g.row.P-Story.Denot). (control_of p).slots ≤ length c.args.wakers.now) (sym c.self.view_is) c.requires.wakers in
    let all = may_fulfil_all g.P.Pipes.known.out_name g.P.Pipes.known.in_name c.self.inside.state _ _ c.args.socket c.args.name c.self.invariant (g.H.Holder.holding c.args.holder.now) lends allowed (c.needs.ensures _ stands) (length c.args.wakers.now) wakers has in
    let fulfils = c.in_ok-notes.ensures.ok all in
    let step = event_now c.args.self.now c.self.inside.workers (with_room (8 * length all.waiters + 1) c.self.inside.events) c.push.new.self _ _ _ (sym c.self.view_is)
    (c.push.ensures ∙ ap (with_last _) (c.in_ok-notes.ensures.room all)) (given_bound g.P.Pipes.known.out_name g.P.Pipes.known.in_name c.self.inside.state _ _ c.args.socket c.args.name c.self.invariant (g.H.Holder.holding c.args.holder.now) lends allowed c.in_ok-notes.notes c.bind_with_room.new.state (g.H.Holder.holding c.bind_with_room.new.holder) fulfils c.with_notes.result c.with_notes.ensures) in
    subst (λ (p : Past (Given g.row.P-Name.Denot g.row.P-Out.Denot g.row.P-In.Denot) g.row.P-Name.Denot g.row.P-Story.Denot). ComesWith c.args.self.now p (g.H.Holder.holding c.args.holder.now) (g.H.Holder.holding c.bind_with_room.new.holder)) (sym step)
    (event_comes c.args.self.now (Asked (Bind c.args.socket (Inproc c.args.name)) Done c.with_notes.result) (g.H.Holder.holding c.args.holder.now) (g.H.Holder.holding c.bind_with_room.new.holder)
    (fulfils.came ∙ ap (λ (js : List (Joining g.row.P-Name.Denot)). (g.H.Holder.holding c.args.holder.now).joined ++ js) (sym c.with_notes.ensures.joined)) fulfils.gets.objects fulfils.gets.kinds (bind_still c.args.socket c.args.name (answers_in c.with_notes.result) (control_of c.args.self.now)) (λ b n. refl) fulfils.heard)

pub returns-in_err-notes-clause-joins : goal.returns-in_err-notes-clause-joins
returns-in_err-notes-clause-joins g c =
    subst (λ (p : Past (Given g.row.P-Name.Denot g.row.P-Out.Denot g.row.P-In.Denot) g.row.P-Name.Denot g.row.P-Story.Denot). ComesWith c.args.self.now p (g.H.Holder.holding c.args.holder.now) (g.H.Holder.holding c.bind_with_room.new.holder))
    (sym (viewed_back c.args.self.now c.self.inside.state c.bind_with_room.new.state c.self.inside.workers c.self.inside.events c.bind_with_room.new.events c.in_err-notes.ensures.err
    c.in_err-notes.ensures.kept c.self.view_is))
    (past_comes c.args.self.now (g.H.Holder.holding c.args.holder.now) (g.H.Holder.holding c.bind_with_room.new.holder) c.in_err-notes.ensures.back.joined c.in_err-notes.ensures.back.now.objects c.in_err-notes.ensures.back.now.kinds c.in_err-notes.ensures.back.heard)

pub returns-in_err-copy-clause-joins : goal.returns-in_err-copy-clause-joins
returns-in_err-copy-clause-joins g c = past_comes c.args.self.now (g.H.Holder.holding c.args.holder.now) (g.H.Holder.holding c.args.holder.now) refl (λ i. refl) (λ i. refl) refl

pub bind_with_room-requires-clause-copy : goal.bind_with_room-requires-clause-copy
bind_with_room-requires-clause-copy g c = ap Inproc c.in_ok-copy.ensures

pub bind_with_room-requires-clause-calm : goal.bind_with_room-requires-clause-calm
bind_with_room-requires-clause-calm g c = c.requires.calm

pub returns-in_err-notes-clause-err : goal.returns-in_err-notes-clause-err
returns-in_err-notes-clause-err g c =
    let back = subst (λ (n : ℕ). IsBack n c.args.socket.0 (g.H.Holder.holding c.args.holder.now) (g.H.Holder.holding c.bind_with_room.new.holder)) (sym c.self.invariant.history.stands.pairs.many) c.in_err-notes.ensures.back in
    so_on_err _ c.from_residual-in_err-notes.result (
      viewed_back c.args.self.now c.self.inside.state c.bind_with_room.new.state c.self.inside.workers c.self.inside.events c.bind_with_room.new.events c.in_err-notes.ensures.err c.in_err-notes.ensures.kept c.self.view_is,
      subst (λ (p : Past (Given g.row.P-Name.Denot g.row.P-Out.Denot g.row.P-In.Denot) g.row.P-Name.Denot g.row.P-Story.Denot). IsBack (next_pair (control_of p)) c.args.socket.0 (g.H.Holder.holding c.args.holder.now) (g.H.Holder.holding c.bind_with_room.new.holder)) c.self.view_is back,
    )

pub returns-in_err-notes-clause-same : goal.returns-in_err-notes-clause-same
returns-in_err-notes-clause-same g c = record { objects = c.in_err-notes.ensures.back.now.objects; kinds = c.in_err-notes.ensures.back.now.kinds; output = c.in_err-notes.ensures.back.now.output }

pub returns-in_err-copy-clause-same : goal.returns-in_err-copy-clause-same
returns-in_err-copy-clause-same g c = record { objects = λ i. refl; kinds = λ i. refl; output = λ i. refl }

pub returns-in_err-copy-clause-keeps : goal.returns-in_err-copy-clause-keeps
returns-in_err-copy-clause-keeps g c = c.requires.has

pub returns-in_err-copy-clause-err : goal.returns-in_err-copy-clause-err
returns-in_err-copy-clause-err g c = so_on_err _ c.from_residual.result (refl, back_itself _ c.args.socket.0 (g.H.Holder.holding c.args.holder.now))
