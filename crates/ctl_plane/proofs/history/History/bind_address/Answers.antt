use Rattle.std.specs.Prelude.{◌≡◌, None}
use Rattle.std.proofs.Common.{ap, sym, ◌∙◌, subst, arith}
use Rattle.zq_base.specs.declared.endpoint.Endpoint.TheVariants.{Tcp}
use Rattle.spec_control.specs.declared.entry.Did.{Did}
use Rattle.spec_control.specs.declared.request.Req.TheVariants.{Bind}
use Rattle.spec_control.specs.declared.request.Reply.TheVariants.{Object}
use Rattle.spec_control.specs.Rows.{obj}
use Rattle.spec_control.specs.ControlRun.{IsOpenSocket}
use Rattle.spec_control.specs.Reply.{reply_of}
use Rattle.desk.specs.declared.given.Given.{Given}
use Rattle.ctl_state.specs.Listed.{Listed, with_last, with_room}
use Rattle.ctl_moves.specs.Refusals.{refusal_in}
use Rattle.ctl_moves.specs.Serving.{HasWorkers}
use Rattle.ctl_plane.specs.Past.{Past, control_of}
use Rattle.ctl_plane.proofs.DoneLemmas.{event_now}
use Rattle.ctl_plane.proofs.ListenLemmas.{given_listens, listener_is, may_listen, plane_listens}
use Rattle.ctl_plane.proofs.MakingLemmas.{planed_back, viewed_back}
use Rattle.ctl_plane.proofs.PlaneLemmas.{planed_now}
use Rattle.ctl_plane.proofs.history.History.bind_address.Goals as goal

pub served_by-owners-requires : goal.served_by-owners-requires
served_by-owners-requires g c =
    let h = c.self.invariant.history in
    record {
      next = record {
        control = _;
        stands = h.stands;
        workers = subst (λ (p : Past (Given g.row.P-Name.Denot g.row.P-Out.Denot g.row.P-In.Denot) g.row.P-Name.Denot g.row.P-Story.Denot). HasWorkers (control_of p)) (sym c.self.view_is) c.requires.workers;
        few = let most = h.objects in omega (arith, most);
      };
    }

pub listen_with_room-requires : goal.listen_with_room-requires
listen_with_room-requires g c =
    let h = c.self.invariant.history in
    record {
      may = may_listen g.P.Pipes.known.out_name g.P.Pipes.known.in_name c.self.inside.state _ _ c.self.invariant c.args.socket c.args.at
          (subst (λ (p : Past (Given g.row.P-Name.Denot g.row.P-Out.Denot g.row.P-In.Denot) g.row.P-Name.Denot g.row.P-Story.Denot). IsOpenSocket (obj (control_of p).rows c.args.socket.0)) (sym c.self.view_is) c.requires.«open»)
          (subst (λ (p : Past (Given g.row.P-Name.Denot g.row.P-Out.Denot g.row.P-In.Denot) g.row.P-Name.Denot g.row.P-Story.Denot). HasWorkers (control_of p)) (sym c.self.view_is) c.requires.workers)
          (subst (λ (p : Past (Given g.row.P-Name.Denot g.row.P-Out.Denot g.row.P-In.Denot) g.row.P-Name.Denot g.row.P-Story.Denot). refusal_in (reply_of (control_of p) (Bind c.args.socket (Tcp c.args.at))) ≡ None) (sym c.self.view_is) c.requires.free)
          c.served_by-owners.result (c.served_by-owners.ensures _ h.stands) (c.needs.ensures _ h.stands);
    }

pub push-requires : goal.push-requires
push-requires g c =
    let more = ap (λ (l : Listed (Did g.row.P-Name.Denot g.row.P-Story.Denot)). l.spare) c.in-Ok.ensures.room in
    record { room = omega (arith, more) }

pub invariant_of-self : goal.invariant_of-self
invariant_of-self g c =
    let h = c.self.invariant.history in
    let is_open = subst (λ (p : Past (Given g.row.P-Name.Denot g.row.P-Out.Denot g.row.P-In.Denot) g.row.P-Name.Denot g.row.P-Story.Denot). IsOpenSocket (obj (control_of p).rows c.args.socket.0)) (sym c.self.view_is) c.requires.«open» in
    let workers = subst (λ (p : Past (Given g.row.P-Name.Denot g.row.P-Out.Denot g.row.P-In.Denot) g.row.P-Name.Denot g.row.P-Story.Denot). HasWorkers (control_of p)) (sym c.self.view_is) c.requires.workers in
    let free = subst (λ (p : Past (Given g.row.P-Name.Denot g.row.P-Out.Denot g.row.P-In.Denot) g.row.P-Name.Denot g.row.P-Story.Denot). refusal_in (reply_of (control_of p) (Bind c.args.socket (Tcp c.args.at))) ≡ None) (sym c.self.view_is) c.requires.free in
    let are = c.served_by-owners.ensures _ h.stands in
    let met = c.needs.ensures _ h.stands in
    planed_now g.P.Pipes.known.out_name g.P.Pipes.known.in_name c.listen_with_room.new.state c.self.inside.workers (with_room 7 c.self.inside.events) c.push.new.self _ _ _
    (c.push.ensures ∙ ap (with_last _) c.in-Ok.ensures.room)
    (plane_listens g.P.Pipes.known.out_name g.P.Pipes.known.in_name c.self.inside.state _ _ c.self.invariant c.args.socket c.args.at is_open workers free c.served_by-owners.result are met
    c.listen_with_room.new.state c.in-Ok.listener (c.in-Ok.ensures.ok (may_listen g.P.Pipes.known.out_name g.P.Pipes.known.in_name c.self.inside.state _ _ c.self.invariant c.args.socket c.args.at is_open workers free c.served_by-owners.result are met)) c.args.h c.requires.silent)

pub returns-in-Ok-clause-ok : goal.returns-in-Ok-clause-ok
returns-in-Ok-clause-ok g c =
    let h = c.self.invariant.history in
    let is_open = subst (λ (p : Past (Given g.row.P-Name.Denot g.row.P-Out.Denot g.row.P-In.Denot) g.row.P-Name.Denot g.row.P-Story.Denot). IsOpenSocket (obj (control_of p).rows c.args.socket.0)) (sym c.self.view_is) c.requires.«open» in
    let workers = subst (λ (p : Past (Given g.row.P-Name.Denot g.row.P-Out.Denot g.row.P-In.Denot) g.row.P-Name.Denot g.row.P-Story.Denot). HasWorkers (control_of p)) (sym c.self.view_is) c.requires.workers in
    let free = subst (λ (p : Past (Given g.row.P-Name.Denot g.row.P-Out.Denot g.row.P-In.Denot) g.row.P-Name.Denot g.row.P-Story.Denot). refusal_in (reply_of (control_of p) (Bind c.args.socket (Tcp c.args.at))) ≡ None) (sym c.self.view_is) c.requires.free in
    let are = c.served_by-owners.ensures _ h.stands in
    let met = c.needs.ensures _ h.stands in
    event_now c.args.self.now c.self.inside.workers (with_room 7 c.self.inside.events) c.push.new.self _ _ _ (sym c.self.view_is)
    (c.push.ensures ∙ ap (with_last _) c.in-Ok.ensures.room)
    (given_listens g.P.Pipes.known.out_name g.P.Pipes.known.in_name c.self.inside.state _ _ c.self.invariant c.args.socket c.args.at is_open workers free c.served_by-owners.result are met
    c.listen_with_room.new.state c.in-Ok.listener (c.in-Ok.ensures.ok (may_listen g.P.Pipes.known.out_name g.P.Pipes.known.in_name c.self.inside.state _ _ c.self.invariant c.args.socket c.args.at is_open workers free c.served_by-owners.result are met)) c.args.h c.requires.silent)

pub returns-in-Ok-clause-reply : goal.returns-in-Ok-clause-reply
returns-in-Ok-clause-reply g c =
    let h = c.self.invariant.history in
    let is_open = subst (λ (p : Past (Given g.row.P-Name.Denot g.row.P-Out.Denot g.row.P-In.Denot) g.row.P-Name.Denot g.row.P-Story.Denot). IsOpenSocket (obj (control_of p).rows c.args.socket.0)) (sym c.self.view_is) c.requires.«open» in
    let workers = subst (λ (p : Past (Given g.row.P-Name.Denot g.row.P-Out.Denot g.row.P-In.Denot) g.row.P-Name.Denot g.row.P-Story.Denot). HasWorkers (control_of p)) (sym c.self.view_is) c.requires.workers in
    let free = subst (λ (p : Past (Given g.row.P-Name.Denot g.row.P-Out.Denot g.row.P-In.Denot) g.row.P-Name.Denot g.row.P-Story.Denot). refusal_in (reply_of (control_of p) (Bind c.args.socket (Tcp c.args.at))) ≡ None) (sym c.self.view_is) c.requires.free in
    let are = c.served_by-owners.ensures _ h.stands in
    let met = c.needs.ensures _ h.stands in
    subst (λ (p : Past (Given g.row.P-Name.Denot g.row.P-Out.Denot g.row.P-In.Denot) g.row.P-Name.Denot g.row.P-Story.Denot). Object c.in-Ok.listener ≡ reply_of (control_of p) (Bind c.args.socket (Tcp c.args.at))) c.self.view_is
    (listener_is g.P.Pipes.known.out_name g.P.Pipes.known.in_name c.self.inside.state _ _ c.self.invariant c.args.socket c.args.at is_open workers free c.served_by-owners.result are met
    c.listen_with_room.new.state c.in-Ok.listener (c.in-Ok.ensures.ok (may_listen g.P.Pipes.known.out_name g.P.Pipes.known.in_name c.self.inside.state _ _ c.self.invariant c.args.socket c.args.at is_open workers free c.served_by-owners.result are met)) c.args.h c.requires.silent)

pub invariant_of-self-in-Err : goal.invariant_of-self-in-Err
invariant_of-self-in-Err g c =
    planed_back g.P.Pipes.known.out_name g.P.Pipes.known.in_name c.self.inside.state c.listen_with_room.new.state c.self.inside.workers c.self.inside.events c.listen_with_room.new.events c.in-Err.ensures.err c.in-Err.ensures.kept c.self.invariant

pub returns-in-Err-clause-err : goal.returns-in-Err-clause-err
returns-in-Err-clause-err g c =
    viewed_back c.args.self.now c.self.inside.state c.listen_with_room.new.state c.self.inside.workers c.self.inside.events c.listen_with_room.new.events c.in-Err.ensures.err c.in-Err.ensures.kept c.self.view_is
