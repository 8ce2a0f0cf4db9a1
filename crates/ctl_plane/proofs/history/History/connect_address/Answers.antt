use Rattle.std.specs.Prelude.{◌≡◌, ℕ, None, length, refl}
use Rattle.std.proofs.Common.{arith, ap, sym, ◌∙◌, subst}
use Rattle.zq_base.specs.declared.endpoint.Endpoint.TheVariants.{Tcp}
use Rattle.zq_base.specs.declared.ids.ObjId.{ObjId}
use Rattle.spec_control.specs.declared.entry.Did.{Did}
use Rattle.spec_control.specs.declared.entry.Did.TheVariants.{Asked}
use Rattle.spec_control.specs.declared.request.Req.TheVariants.{Connect}
use Rattle.spec_control.specs.declared.request.Reply.TheVariants.{Both}
use Rattle.spec_control.specs.Names.{name_of}
use Rattle.spec_control.specs.Control.{next_pair}
use Rattle.spec_control.specs.Reply.{reply_of}
use Rattle.desk.specs.declared.given.Given.{Given}
use Rattle.desk.specs.Making.{MakesSo}
use Rattle.desk.specs.Turns.{HasTurned}
use Rattle.ctl_state.specs.Listed.{Listed, with_last, with_room}
use Rattle.ctl_state.proofs.KeptLemmas.{so_on_err}
use Rattle.ctl_moves.specs.Drawing.{IsBack}
use Rattle.ctl_moves.specs.Refusals.{refusal_in}
use Rattle.ctl_moves.specs.Serving.{HasWorkers}
use Rattle.ctl_plane.specs.Coming.{ComesWith}
use Rattle.ctl_plane.specs.Hearing.{HasWhat}
use Rattle.ctl_plane.specs.Joining.{Lends}
use Rattle.ctl_plane.specs.Past.{Past, control_of, items_of, with_event}
use Rattle.ctl_plane.proofs.ComeLemmas.{past_comes}
use Rattle.ctl_plane.proofs.DialEventLemmas.{Dialed, dial_reply, may_dial, may_make_out}
use Rattle.ctl_plane.proofs.DialPlaneLemmas.{comes_dialed, ends_dialed, given_dialed, keeps_dialed, plane_dialed, told_dialed}
use Rattle.ctl_plane.proofs.DoneLemmas.{event_now}
use Rattle.ctl_plane.proofs.FulfilPlaneLemmas.{back_told, has_back}
use Rattle.ctl_plane.proofs.MakingLemmas.{planed_back, viewed_back}
use Rattle.ctl_plane.proofs.PlaneLemmas.{planed_now}
use Rattle.ctl_plane.proofs.ToldLemmas.{past_told}
use Rattle.ctl_plane.proofs.history.History.connect_address.Goals as goal

pub served_by-o-requires : goal.served_by-o-requires
served_by-o-requires g c =
    let h = c.self.invariant.history in
    record {
      next = record {
        control = _;
        stands = h.stands;
        workers = subst (λ (p : Past (Given g.row.P-Name.Denot g.row.P-Out.Denot g.row.P-In.Denot) g.row.P-Name.Denot g.row.P-Story.Denot). HasWorkers (control_of p)) (sym c.self.view_is) c.requires.workers;
        few = let most = h.objects in omega (arith, most);
      };
    }

pub dial_with_room-requires-clause-may : goal.dial_with_room-requires-clause-may
dial_with_room-requires-clause-may g c =
    let stands = c.self.invariant.history.stands in
    let lends = subst (λ (p : Past (Given g.row.P-Name.Denot g.row.P-Out.Denot g.row.P-In.Denot) g.row.P-Name.Denot g.row.P-Story.Denot). Lends (control_of p) c.args.socket.0 (g.H.Holder.holding c.args.holder.now)) (sym c.self.view_is) c.requires.lends in
    let workers = subst (λ (p : Past (Given g.row.P-Name.Denot g.row.P-Out.Denot g.row.P-In.Denot) g.row.P-Name.Denot g.row.P-Story.Denot). HasWorkers (control_of p)) (sym c.self.view_is) c.requires.workers in
    let has = subst (λ (p : Past (Given g.row.P-Name.Denot g.row.P-Out.Denot g.row.P-In.Denot) g.row.P-Name.Denot g.row.P-Story.Denot). HasWhat p (g.H.Holder.holding c.args.holder.now)) (sym c.self.view_is) c.requires.has in
    let are = c.served_by-o.ensures _ stands in
    let met = c.needs.ensures _ stands in
    let may = may_dial g.P.Pipes.known.out_name g.P.Pipes.known.in_name c.self.inside.state _ _ c.args.socket c.args.at c.self.invariant (g.H.Holder.holding c.args.holder.now) lends workers c.served_by-o.result are met has in
    may

pub dial_with_room-requires-clause-calm : goal.dial_with_room-requires-clause-calm
dial_with_room-requires-clause-calm g c = c.requires.calm

pub dial_with_room-requires-clause-makes : goal.dial_with_room-requires-clause-makes
dial_with_room-requires-clause-makes g c =
    let stands = c.self.invariant.history.stands in
    let lends = subst (λ (p : Past (Given g.row.P-Name.Denot g.row.P-Out.Denot g.row.P-In.Denot) g.row.P-Name.Denot g.row.P-Story.Denot). Lends (control_of p) c.args.socket.0 (g.H.Holder.holding c.args.holder.now)) (sym c.self.view_is) c.requires.lends in
    let workers = subst (λ (p : Past (Given g.row.P-Name.Denot g.row.P-Out.Denot g.row.P-In.Denot) g.row.P-Name.Denot g.row.P-Story.Denot). HasWorkers (control_of p)) (sym c.self.view_is) c.requires.workers in
    let has = subst (λ (p : Past (Given g.row.P-Name.Denot g.row.P-Out.Denot g.row.P-In.Denot) g.row.P-Name.Denot g.row.P-Story.Denot). HasWhat p (g.H.Holder.holding c.args.holder.now)) (sym c.self.view_is) c.requires.has in
    let are = c.served_by-o.ensures _ stands in
    let met = c.needs.ensures _ stands in
    let may = may_dial g.P.Pipes.known.out_name g.P.Pipes.known.in_name c.self.inside.state _ _ c.args.socket c.args.at c.self.invariant (g.H.Holder.holding c.args.holder.now) lends workers c.served_by-o.result are met has in
    may_make_out g.P.Pipes.known.out_name g.P.Pipes.known.in_name c.self.inside.state _ _ c.args.socket c.args.at c.self.invariant (g.H.Holder.holding c.args.holder.now) lends workers c.served_by-o.result are met has g.H.Holder.may_make
    (subst (λ (p : Past (Given g.row.P-Name.Denot g.row.P-Out.Denot g.row.P-In.Denot) g.row.P-Name.Denot g.row.P-Story.Denot). MakesSo (control_of p) (Connect c.args.socket (Tcp c.args.at)) g.H.Holder.may_make) (sym c.self.view_is) c.requires.makes)

pub push-requires : goal.push-requires
push-requires g c =
    let more = ap (λ (l : Listed (Did g.row.P-Name.Denot g.row.P-Story.Denot)). l.spare) c.in_ok-made.ensures.room in
    record { room = omega (arith, more) }

pub invariant_of-self-2 : goal.invariant_of-self-2
invariant_of-self-2 g c =
    let stands = c.self.invariant.history.stands in
    let lends = subst (λ (p : Past (Given g.row.P-Name.Denot g.row.P-Out.Denot g.row.P-In.Denot) g.row.P-Name.Denot g.row.P-Story.Denot). Lends (control_of p) c.args.socket.0 (g.H.Holder.holding c.args.holder.now)) (sym c.self.view_is) c.requires.lends in
    let workers = subst (λ (p : Past (Given g.row.P-Name.Denot g.row.P-Out.Denot g.row.P-In.Denot) g.row.P-Name.Denot g.row.P-Story.Denot). HasWorkers (control_of p)) (sym c.self.view_is) c.requires.workers in
    let has = subst (λ (p : Past (Given g.row.P-Name.Denot g.row.P-Out.Denot g.row.P-In.Denot) g.row.P-Name.Denot g.row.P-Story.Denot). HasWhat p (g.H.Holder.holding c.args.holder.now)) (sym c.self.view_is) c.requires.has in
    let are = c.served_by-o.ensures _ stands in
    let met = c.needs.ensures _ stands in
    let may = may_dial g.P.Pipes.known.out_name g.P.Pipes.known.in_name c.self.inside.state _ _ c.args.socket c.args.at c.self.invariant (g.H.Holder.holding c.args.holder.now) lends workers c.served_by-o.result are met has in
    let free = subst (λ (p : Past (Given g.row.P-Name.Denot g.row.P-Out.Denot g.row.P-In.Denot) g.row.P-Name.Denot g.row.P-Story.Denot). refusal_in (reply_of (control_of p) (Connect c.args.socket (Tcp c.args.at))) ≡ None) (sym c.self.view_is) c.requires.free in
    let dials = c.in_ok-made.ensures.ok may in
    let d : Dialed g.P.Pipes.known.out_name g.P.Pipes.known.in_name c.self.inside.state _ _ c.args.socket c.args.at (g.H.Holder.holding c.args.holder.now) = record {
      plane = c.self.invariant;
      lends = lends;
      free = free;
      o = c.served_by-o.result;
      are = are;
      may = may;
      same_control = refl;
      child = c.in_ok-made.made.0;
      pair = c.in_ok-made.made.1;
      notes = c.in_ok-made.made.2;
      t = c.dial_with_room.new.state;
      k = (g.H.Holder.holding c.dial_with_room.new.holder);
      dials = dials;
      a = c.with_notes.result;
      noted = c.with_notes.ensures;
    } in
    planed_now g.P.Pipes.known.out_name g.P.Pipes.known.in_name c.dial_with_room.new.state c.self.inside.workers (with_room 17 c.self.inside.events) c.push.new.self _ _ _
    (c.push.ensures ∙ ap (with_last _) c.in_ok-made.ensures.room) (plane_dialed g.P.Pipes.known.out_name g.P.Pipes.known.in_name c.self.inside.state _ _ c.args.socket c.args.at (g.H.Holder.holding c.args.holder.now) d)

pub returns-clause-ok : goal.returns-clause-ok
returns-clause-ok g c =
    let stands = c.self.invariant.history.stands in
    let lends = subst (λ (p : Past (Given g.row.P-Name.Denot g.row.P-Out.Denot g.row.P-In.Denot) g.row.P-Name.Denot g.row.P-Story.Denot). Lends (control_of p) c.args.socket.0 (g.H.Holder.holding c.args.holder.now)) (sym c.self.view_is) c.requires.lends in
    let workers = subst (λ (p : Past (Given g.row.P-Name.Denot g.row.P-Out.Denot g.row.P-In.Denot) g.row.P-Name.Denot g.row.P-Story.Denot). HasWorkers (control_of p)) (sym c.self.view_is) c.requires.workers in
    let has = subst (λ (p : Past (Given g.row.P-Name.Denot g.row.P-Out.Denot g.row.P-In.Denot) g.row.P-Name.Denot g.row.P-Story.Denot). HasWhat p (g.H.Holder.holding c.args.holder.now)) (sym c.self.view_is) c.requires.has in
    let are = c.served_by-o.ensures _ stands in
    let met = c.needs.ensures _ stands in
    let may = may_dial g.P.Pipes.known.out_name g.P.Pipes.known.in_name c.self.inside.state _ _ c.args.socket c.args.at c.self.invariant (g.H.Holder.holding c.args.holder.now) lends workers c.served_by-o.result are met has in
    let free = subst (λ (p : Past (Given g.row.P-Name.Denot g.row.P-Out.Denot g.row.P-In.Denot) g.row.P-Name.Denot g.row.P-Story.Denot). refusal_in (reply_of (control_of p) (Connect c.args.socket (Tcp c.args.at))) ≡ None) (sym c.self.view_is) c.requires.free in
    let dials = c.in_ok-made.ensures.ok may in
    let d : Dialed g.P.Pipes.known.out_name g.P.Pipes.known.in_name c.self.inside.state _ _ c.args.socket c.args.at (g.H.Holder.holding c.args.holder.now) = record {
      plane = c.self.invariant;
      lends = lends;
      free = free;
      o = c.served_by-o.result;
      are = are;
      may = may;
      same_control = refl;
      child = c.in_ok-made.made.0;
      pair = c.in_ok-made.made.1;
      notes = c.in_ok-made.made.2;
      t = c.dial_with_room.new.state;
      k = (g.H.Holder.holding c.dial_with_room.new.holder);
      dials = dials;
      a = c.with_notes.result;
      noted = c.with_notes.ensures;
    } in
    record {
      answered = c.with_notes.result;
      step = event_now c.args.self.now c.self.inside.workers (with_room 17 c.self.inside.events) c.push.new.self _ _ _ (sym c.self.view_is)
          (c.push.ensures ∙ ap (with_last _) c.in_ok-made.ensures.room) (given_dialed g.P.Pipes.known.out_name g.P.Pipes.known.in_name c.self.inside.state _ _ c.args.socket c.args.at (g.H.Holder.holding c.args.holder.now) d);
      ends = ends_dialed g.P.Pipes.known.out_name g.P.Pipes.known.in_name c.self.inside.state _ _ c.args.socket c.args.at (g.H.Holder.holding c.args.holder.now) d;
    }

pub returns-clause-reply : goal.returns-clause-reply
returns-clause-reply g c =
    let stands = c.self.invariant.history.stands in
    let lends = subst (λ (p : Past (Given g.row.P-Name.Denot g.row.P-Out.Denot g.row.P-In.Denot) g.row.P-Name.Denot g.row.P-Story.Denot). Lends (control_of p) c.args.socket.0 (g.H.Holder.holding c.args.holder.now)) (sym c.self.view_is) c.requires.lends in
    let workers = subst (λ (p : Past (Given g.row.P-Name.Denot g.row.P-Out.Denot g.row.P-In.Denot) g.row.P-Name.Denot g.row.P-Story.Denot). HasWorkers (control_of p)) (sym c.self.view_is) c.requires.workers in
    let has = subst (λ (p : Past (Given g.row.P-Name.Denot g.row.P-Out.Denot g.row.P-In.Denot) g.row.P-Name.Denot g.row.P-Story.Denot). HasWhat p (g.H.Holder.holding c.args.holder.now)) (sym c.self.view_is) c.requires.has in
    let are = c.served_by-o.ensures _ stands in
    let met = c.needs.ensures _ stands in
    let may = may_dial g.P.Pipes.known.out_name g.P.Pipes.known.in_name c.self.inside.state _ _ c.args.socket c.args.at c.self.invariant (g.H.Holder.holding c.args.holder.now) lends workers c.served_by-o.result are met has in
    let free = subst (λ (p : Past (Given g.row.P-Name.Denot g.row.P-Out.Denot g.row.P-In.Denot) g.row.P-Name.Denot g.row.P-Story.Denot). refusal_in (reply_of (control_of p) (Connect c.args.socket (Tcp c.args.at))) ≡ None) (sym c.self.view_is) c.requires.free in
    let dials = c.in_ok-made.ensures.ok may in
    let d : Dialed g.P.Pipes.known.out_name g.P.Pipes.known.in_name c.self.inside.state _ _ c.args.socket c.args.at (g.H.Holder.holding c.args.holder.now) = record {
      plane = c.self.invariant;
      lends = lends;
      free = free;
      o = c.served_by-o.result;
      are = are;
      may = may;
      same_control = refl;
      child = c.in_ok-made.made.0;
      pair = c.in_ok-made.made.1;
      notes = c.in_ok-made.made.2;
      t = c.dial_with_room.new.state;
      k = (g.H.Holder.holding c.dial_with_room.new.holder);
      dials = dials;
      a = c.with_notes.result;
      noted = c.with_notes.ensures;
    } in
    subst (λ (p : Past (Given g.row.P-Name.Denot g.row.P-Out.Denot g.row.P-In.Denot) g.row.P-Name.Denot g.row.P-Story.Denot). Both c.in_ok-made.made.0 c.in_ok-made.made.1 ≡ reply_of (control_of p) (Connect c.args.socket (Tcp c.args.at))) c.self.view_is (dial_reply g.P.Pipes.known.out_name g.P.Pipes.known.in_name c.self.inside.state _ _ c.args.socket c.args.at (g.H.Holder.holding c.args.holder.now) d)

pub returns-clause-same : goal.returns-clause-same
returns-clause-same g c =
    let stands = c.self.invariant.history.stands in
    let lends = subst (λ (p : Past (Given g.row.P-Name.Denot g.row.P-Out.Denot g.row.P-In.Denot) g.row.P-Name.Denot g.row.P-Story.Denot). Lends (control_of p) c.args.socket.0 (g.H.Holder.holding c.args.holder.now)) (sym c.self.view_is) c.requires.lends in
    let workers = subst (λ (p : Past (Given g.row.P-Name.Denot g.row.P-Out.Denot g.row.P-In.Denot) g.row.P-Name.Denot g.row.P-Story.Denot). HasWorkers (control_of p)) (sym c.self.view_is) c.requires.workers in
    let has = subst (λ (p : Past (Given g.row.P-Name.Denot g.row.P-Out.Denot g.row.P-In.Denot) g.row.P-Name.Denot g.row.P-Story.Denot). HasWhat p (g.H.Holder.holding c.args.holder.now)) (sym c.self.view_is) c.requires.has in
    let are = c.served_by-o.ensures _ stands in
    let met = c.needs.ensures _ stands in
    let may = may_dial g.P.Pipes.known.out_name g.P.Pipes.known.in_name c.self.inside.state _ _ c.args.socket c.args.at c.self.invariant (g.H.Holder.holding c.args.holder.now) lends workers c.served_by-o.result are met has in
    let dials = c.in_ok-made.ensures.ok may in
    record { objects = dials.gets.objects; kinds = dials.gets.kinds; output = dials.gets.output }

pub returns-clause-keeps : goal.returns-clause-keeps
returns-clause-keeps g c =
    let stands = c.self.invariant.history.stands in
    let lends = subst (λ (p : Past (Given g.row.P-Name.Denot g.row.P-Out.Denot g.row.P-In.Denot) g.row.P-Name.Denot g.row.P-Story.Denot). Lends (control_of p) c.args.socket.0 (g.H.Holder.holding c.args.holder.now)) (sym c.self.view_is) c.requires.lends in
    let workers = subst (λ (p : Past (Given g.row.P-Name.Denot g.row.P-Out.Denot g.row.P-In.Denot) g.row.P-Name.Denot g.row.P-Story.Denot). HasWorkers (control_of p)) (sym c.self.view_is) c.requires.workers in
    let has = subst (λ (p : Past (Given g.row.P-Name.Denot g.row.P-Out.Denot g.row.P-In.Denot) g.row.P-Name.Denot g.row.P-Story.Denot). HasWhat p (g.H.Holder.holding c.args.holder.now)) (sym c.self.view_is) c.requires.has in
    let are = c.served_by-o.ensures _ stands in
    let met = c.needs.ensures _ stands in
    let may = may_dial g.P.Pipes.known.out_name g.P.Pipes.known.in_name c.self.inside.state _ _ c.args.socket c.args.at c.self.invariant (g.H.Holder.holding c.args.holder.now) lends workers c.served_by-o.result are met has in
    let free = subst (λ (p : Past (Given g.row.P-Name.Denot g.row.P-Out.Denot g.row.P-In.Denot) g.row.P-Name.Denot g.row.P-Story.Denot). refusal_in (reply_of (control_of p) (Connect c.args.socket (Tcp c.args.at))) ≡ None) (sym c.self.view_is) c.requires.free in
    let dials = c.in_ok-made.ensures.ok may in
    let d : Dialed g.P.Pipes.known.out_name g.P.Pipes.known.in_name c.self.inside.state _ _ c.args.socket c.args.at (g.H.Holder.holding c.args.holder.now) = record {
      plane = c.self.invariant;
      lends = lends;
      free = free;
      o = c.served_by-o.result;
      are = are;
      may = may;
      same_control = refl;
      child = c.in_ok-made.made.0;
      pair = c.in_ok-made.made.1;
      notes = c.in_ok-made.made.2;
      t = c.dial_with_room.new.state;
      k = (g.H.Holder.holding c.dial_with_room.new.holder);
      dials = dials;
      a = c.with_notes.result;
      noted = c.with_notes.ensures;
    } in
    subst (λ (p : Past (Given g.row.P-Name.Denot g.row.P-Out.Denot g.row.P-In.Denot) g.row.P-Name.Denot g.row.P-Story.Denot). HasWhat p (g.H.Holder.holding c.dial_with_room.new.holder))
    (sym (event_now (record { workers = c.self.inside.workers; events = c.self.inside.events.items; given = _ }) c.self.inside.workers (with_room 17 c.self.inside.events) c.push.new.self _ _ _ refl
    (c.push.ensures ∙ ap (with_last _) c.in_ok-made.ensures.room) (given_dialed g.P.Pipes.known.out_name g.P.Pipes.known.in_name c.self.inside.state _ _ c.args.socket c.args.at (g.H.Holder.holding c.args.holder.now) d)))
    (keeps_dialed g.P.Pipes.known.out_name g.P.Pipes.known.in_name c.self.inside.state _ _ c.args.socket c.args.at (g.H.Holder.holding c.args.holder.now) d has)

pub returns-clause-turned : goal.returns-clause-turned
returns-clause-turned g c =
    let stands = c.self.invariant.history.stands in
    let lends = subst (λ (p : Past (Given g.row.P-Name.Denot g.row.P-Out.Denot g.row.P-In.Denot) g.row.P-Name.Denot g.row.P-Story.Denot). Lends (control_of p) c.args.socket.0 (g.H.Holder.holding c.args.holder.now)) (sym c.self.view_is) c.requires.lends in
    let workers = subst (λ (p : Past (Given g.row.P-Name.Denot g.row.P-Out.Denot g.row.P-In.Denot) g.row.P-Name.Denot g.row.P-Story.Denot). HasWorkers (control_of p)) (sym c.self.view_is) c.requires.workers in
    let has = subst (λ (p : Past (Given g.row.P-Name.Denot g.row.P-Out.Denot g.row.P-In.Denot) g.row.P-Name.Denot g.row.P-Story.Denot). HasWhat p (g.H.Holder.holding c.args.holder.now)) (sym c.self.view_is) c.requires.has in
    let are = c.served_by-o.ensures _ stands in
    let met = c.needs.ensures _ stands in
    let may = may_dial g.P.Pipes.known.out_name g.P.Pipes.known.in_name c.self.inside.state _ _ c.args.socket c.args.at c.self.invariant (g.H.Holder.holding c.args.holder.now) lends workers c.served_by-o.result are met has in
    let free = subst (λ (p : Past (Given g.row.P-Name.Denot g.row.P-Out.Denot g.row.P-In.Denot) g.row.P-Name.Denot g.row.P-Story.Denot). refusal_in (reply_of (control_of p) (Connect c.args.socket (Tcp c.args.at))) ≡ None) (sym c.self.view_is) c.requires.free in
    let dials = c.in_ok-made.ensures.ok may in
    let d : Dialed g.P.Pipes.known.out_name g.P.Pipes.known.in_name c.self.inside.state _ _ c.args.socket c.args.at (g.H.Holder.holding c.args.holder.now) = record {
      plane = c.self.invariant;
      lends = lends;
      free = free;
      o = c.served_by-o.result;
      are = are;
      may = may;
      same_control = refl;
      child = c.in_ok-made.made.0;
      pair = c.in_ok-made.made.1;
      notes = c.in_ok-made.made.2;
      t = c.dial_with_room.new.state;
      k = (g.H.Holder.holding c.dial_with_room.new.holder);
      dials = dials;
      a = c.with_notes.result;
      noted = c.with_notes.ensures;
    } in
    let step = event_now c.args.self.now c.self.inside.workers (with_room 17 c.self.inside.events) c.push.new.self _ _ _ (sym c.self.view_is)
    (c.push.ensures ∙ ap (with_last _) c.in_ok-made.ensures.room) (given_dialed g.P.Pipes.known.out_name g.P.Pipes.known.in_name c.self.inside.state _ _ c.args.socket c.args.at (g.H.Holder.holding c.args.holder.now) d) in
    subst (λ (p : Past (Given g.row.P-Name.Denot g.row.P-Out.Denot g.row.P-In.Denot) g.row.P-Name.Denot g.row.P-Story.Denot). HasTurned (control_of c.args.self.now) (control_of p) (g.H.Holder.holding c.args.holder.now) (g.H.Holder.holding c.dial_with_room.new.holder)) (sym step)
    (subst (λ (p : Past (Given g.row.P-Name.Denot g.row.P-Out.Denot g.row.P-In.Denot) g.row.P-Name.Denot g.row.P-Story.Denot). HasTurned (control_of p) (control_of (with_event (Asked (Connect c.args.socket (Tcp c.args.at)) (Both c.in_ok-made.made.0 c.in_ok-made.made.1) c.with_notes.result) p)) (g.H.Holder.holding c.args.holder.now) (g.H.Holder.holding c.dial_with_room.new.holder)) c.self.view_is
    (told_dialed g.P.Pipes.known.out_name g.P.Pipes.known.in_name c.self.inside.state _ _ c.args.socket c.args.at (g.H.Holder.holding c.args.holder.now) d))

pub returns-clause-joins : goal.returns-clause-joins
returns-clause-joins g c =
    let stands = c.self.invariant.history.stands in
    let lends = subst (λ (p : Past (Given g.row.P-Name.Denot g.row.P-Out.Denot g.row.P-In.Denot) g.row.P-Name.Denot g.row.P-Story.Denot). Lends (control_of p) c.args.socket.0 (g.H.Holder.holding c.args.holder.now)) (sym c.self.view_is) c.requires.lends in
    let workers = subst (λ (p : Past (Given g.row.P-Name.Denot g.row.P-Out.Denot g.row.P-In.Denot) g.row.P-Name.Denot g.row.P-Story.Denot). HasWorkers (control_of p)) (sym c.self.view_is) c.requires.workers in
    let has = subst (λ (p : Past (Given g.row.P-Name.Denot g.row.P-Out.Denot g.row.P-In.Denot) g.row.P-Name.Denot g.row.P-Story.Denot). HasWhat p (g.H.Holder.holding c.args.holder.now)) (sym c.self.view_is) c.requires.has in
    let are = c.served_by-o.ensures _ stands in
    let met = c.needs.ensures _ stands in
    let may = may_dial g.P.Pipes.known.out_name g.P.Pipes.known.in_name c.self.inside.state _ _ c.args.socket c.args.at c.self.invariant (g.H.Holder.holding c.args.holder.now) lends workers c.served_by-o.result are met has in
    let free = subst (λ (p : Past (Given g.row.P-Name.Denot g.row.P-Out.Denot g.row.P-In.Denot) g.row.P-Name.Denot g.row.P-Story.Denot). refusal_in (reply_of (control_of p) (Connect c.args.socket (Tcp c.args.at))) ≡ None) (sym c.self.view_is) c.requires.free in
    let dials = c.in_ok-made.ensures.ok may in
    let d : Dialed g.P.Pipes.known.out_name g.P.Pipes.known.in_name c.self.inside.state _ _ c.args.socket c.args.at (g.H.Holder.holding c.args.holder.now) = record {
      plane = c.self.invariant;
      lends = lends;
      free = free;
      o = c.served_by-o.result;
      are = are;
      may = may;
      same_control = refl;
      child = c.in_ok-made.made.0;
      pair = c.in_ok-made.made.1;
      notes = c.in_ok-made.made.2;
      t = c.dial_with_room.new.state;
      k = (g.H.Holder.holding c.dial_with_room.new.holder);
      dials = dials;
      a = c.with_notes.result;
      noted = c.with_notes.ensures;
    } in
    let step = event_now c.args.self.now c.self.inside.workers (with_room 17 c.self.inside.events) c.push.new.self _ _ _ (sym c.self.view_is)
    (c.push.ensures ∙ ap (with_last _) c.in_ok-made.ensures.room) (given_dialed g.P.Pipes.known.out_name g.P.Pipes.known.in_name c.self.inside.state _ _ c.args.socket c.args.at (g.H.Holder.holding c.args.holder.now) d) in
    subst (λ (p : Past (Given g.row.P-Name.Denot g.row.P-Out.Denot g.row.P-In.Denot) g.row.P-Name.Denot g.row.P-Story.Denot). ComesWith c.args.self.now p (g.H.Holder.holding c.args.holder.now) (g.H.Holder.holding c.dial_with_room.new.holder)) (sym step)
    (subst (λ (p : Past (Given g.row.P-Name.Denot g.row.P-Out.Denot g.row.P-In.Denot) g.row.P-Name.Denot g.row.P-Story.Denot). ComesWith p (with_event (Asked (Connect c.args.socket (Tcp c.args.at)) (Both c.in_ok-made.made.0 c.in_ok-made.made.1) c.with_notes.result) p) (g.H.Holder.holding c.args.holder.now) (g.H.Holder.holding c.dial_with_room.new.holder)) c.self.view_is
    (comes_dialed g.P.Pipes.known.out_name g.P.Pipes.known.in_name c.self.inside.state _ _ c.args.socket c.args.at (g.H.Holder.holding c.args.holder.now) d))

pub invariant_of-self : goal.invariant_of-self
invariant_of-self g c =
    planed_back g.P.Pipes.known.out_name g.P.Pipes.known.in_name c.self.inside.state c.dial_with_room.new.state c.self.inside.workers c.self.inside.events c.dial_with_room.new.events c.in_err-made.ensures.err c.in_err-made.ensures.kept c.self.invariant

pub returns-in_err-made-clause-err : goal.returns-in_err-made-clause-err
returns-in_err-made-clause-err g c =
    let back = subst (λ (n : ℕ). IsBack n c.args.socket.0 (g.H.Holder.holding c.args.holder.now) (g.H.Holder.holding c.dial_with_room.new.holder)) (sym c.self.invariant.history.stands.pairs.many)
    (subst (λ (x : ObjId). IsBack (length c.self.inside.state.pairs) x.0 (g.H.Holder.holding c.args.holder.now) (g.H.Holder.holding c.dial_with_room.new.holder)) (c.served_by-o.ensures _ c.self.invariant.history.stands).first c.in_err-made.ensures.back) in
    so_on_err _ c.from_residual.result (
      viewed_back c.args.self.now c.self.inside.state c.dial_with_room.new.state c.self.inside.workers c.self.inside.events c.dial_with_room.new.events c.in_err-made.ensures.err c.in_err-made.ensures.kept c.self.view_is,
      subst (λ (p : Past (Given g.row.P-Name.Denot g.row.P-Out.Denot g.row.P-In.Denot) g.row.P-Name.Denot g.row.P-Story.Denot). IsBack (next_pair (control_of p)) c.args.socket.0 (g.H.Holder.holding c.args.holder.now) (g.H.Holder.holding c.dial_with_room.new.holder)) c.self.view_is back,
    )

pub returns-in_err-made-clause-same : goal.returns-in_err-made-clause-same
returns-in_err-made-clause-same g c = record { objects = c.in_err-made.ensures.back.now.objects; kinds = c.in_err-made.ensures.back.now.kinds; output = c.in_err-made.ensures.back.now.output }

pub returns-in_err-made-clause-keeps : goal.returns-in_err-made-clause-keeps
returns-in_err-made-clause-keeps g c =
    let back = subst (λ (n : ℕ). IsBack n c.args.socket.0 (g.H.Holder.holding c.args.holder.now) (g.H.Holder.holding c.dial_with_room.new.holder)) (sym c.self.invariant.history.stands.pairs.many)
    (subst (λ (x : ObjId). IsBack (length c.self.inside.state.pairs) x.0 (g.H.Holder.holding c.args.holder.now) (g.H.Holder.holding c.dial_with_room.new.holder)) (c.served_by-o.ensures _ c.self.invariant.history.stands).first c.in_err-made.ensures.back) in
    let inner : Past (Given g.row.P-Name.Denot g.row.P-Out.Denot g.row.P-In.Denot) g.row.P-Name.Denot g.row.P-Story.Denot = record { workers = c.self.inside.workers; events = c.self.inside.events.items; given = _ } in
    let has = subst (λ (p : Past (Given g.row.P-Name.Denot g.row.P-Out.Denot g.row.P-In.Denot) g.row.P-Name.Denot g.row.P-Story.Denot). HasWhat p (g.H.Holder.holding c.args.holder.now)) (sym c.self.view_is) c.requires.has in
    subst (λ (p : Past (Given g.row.P-Name.Denot g.row.P-Out.Denot g.row.P-In.Denot) g.row.P-Name.Denot g.row.P-Story.Denot). HasWhat p (g.H.Holder.holding c.dial_with_room.new.holder))
    (sym (viewed_back inner c.self.inside.state c.dial_with_room.new.state c.self.inside.workers c.self.inside.events c.dial_with_room.new.events c.in_err-made.ensures.err c.in_err-made.ensures.kept refl))
    (has_back (name_of (items_of inner)) (control_of inner) c.args.socket.0 (g.H.Holder.holding c.args.holder.now) (g.H.Holder.holding c.dial_with_room.new.holder) c.self.invariant.history.stands.lists.known back has)

pub returns-in_err-made-clause-turned : goal.returns-in_err-made-clause-turned
returns-in_err-made-clause-turned g c =
    subst (λ (p : Past (Given g.row.P-Name.Denot g.row.P-Out.Denot g.row.P-In.Denot) g.row.P-Name.Denot g.row.P-Story.Denot). HasTurned (control_of c.args.self.now) (control_of p) (g.H.Holder.holding c.args.holder.now) (g.H.Holder.holding c.dial_with_room.new.holder)) (sym (viewed_back c.args.self.now c.self.inside.state c.dial_with_room.new.state c.self.inside.workers c.self.inside.events c.dial_with_room.new.events c.in_err-made.ensures.err c.in_err-made.ensures.kept c.self.view_is))
    (past_told c.args.self.now (g.H.Holder.holding c.args.holder.now) (g.H.Holder.holding c.dial_with_room.new.holder) (back_told (length c.self.inside.state.pairs) c.served_by-o.result.first.0 (g.H.Holder.holding c.args.holder.now) (g.H.Holder.holding c.dial_with_room.new.holder) c.in_err-made.ensures.back))

pub returns-in_err-made-clause-joins : goal.returns-in_err-made-clause-joins
returns-in_err-made-clause-joins g c =
    subst (λ (p : Past (Given g.row.P-Name.Denot g.row.P-Out.Denot g.row.P-In.Denot) g.row.P-Name.Denot g.row.P-Story.Denot). ComesWith c.args.self.now p (g.H.Holder.holding c.args.holder.now) (g.H.Holder.holding c.dial_with_room.new.holder)) (sym (viewed_back c.args.self.now c.self.inside.state c.dial_with_room.new.state c.self.inside.workers c.self.inside.events c.dial_with_room.new.events c.in_err-made.ensures.err c.in_err-made.ensures.kept c.self.view_is))
    (past_comes c.args.self.now (g.H.Holder.holding c.args.holder.now) (g.H.Holder.holding c.dial_with_room.new.holder) c.in_err-made.ensures.back.joined c.in_err-made.ensures.back.now.objects c.in_err-made.ensures.back.now.kinds c.in_err-made.ensures.back.heard)
