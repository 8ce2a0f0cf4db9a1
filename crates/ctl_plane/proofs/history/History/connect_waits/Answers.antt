use Rattle.std.proofs.Common.{ap, sym, subst, arith}
use Rattle.desk.specs.declared.given.Given.{Given}
use Rattle.ctl_plane.specs.Carried.{given_in}
use Rattle.ctl_plane.specs.Connecting.{MayWait}
use Rattle.ctl_plane.specs.Past.{Past, control_of}
use Rattle.ctl_plane.proofs.ConnectLemmas.{wait_listed, wait_reply, waits_plane}
use Rattle.ctl_plane.proofs.DoneLemmas.{noted_event}
use Rattle.ctl_plane.proofs.MakingLemmas.{planed_back, viewed_back}
use Rattle.ctl_plane.proofs.PlaneLemmas.{planed_noted}
use Rattle.std.specs.Prelude.{refl}
use Rattle.zq_base.specs.declared.endpoint.Endpoint.TheVariants.{Inproc}
use Rattle.ctl_state.specs.Listed.{Listed}
use Rattle.spec_control.specs.declared.entry.Did.{Did}
use Rattle.ctl_plane.proofs.history.History.connect_waits.Goals as goal

pub wait_with_room-requires-clause-there : goal.wait_with_room-requires-clause-there
wait_with_room-requires-clause-there g c =
    wait_listed _ c.args.socket c.args.name (subst (λ (p : Past (Given g.row.P-Name.Denot g.row.P-Out.Denot g.row.P-In.Denot) g.row.P-Name.Denot g.row.P-Story.Denot). MayWait (control_of p) c.args.socket.0 c.args.name) (sym c.self.view_is) c.requires.may) c.self.inside.state (c.needs.ensures _ c.self.invariant.history.stands)

pub invariant_of-self : goal.invariant_of-self
invariant_of-self g c =
    planed_noted g.P.Pipes.known.out_name g.P.Pipes.known.in_name c.wait_with_room.new.state c.self.inside.workers c.self.inside.events c.wait_with_room.new.events c.push.new.self _ _ _ c.in-Ok-wait_with_room.ensures.room c.push.ensures
    (waits_plane g.P.Pipes.known.out_name g.P.Pipes.known.in_name c.self.inside.state c.wait_with_room.new.state _ _ c.args.socket c.args.name c.args.h c.self.invariant (subst (λ (p : Past (Given g.row.P-Name.Denot g.row.P-Out.Denot g.row.P-In.Denot) g.row.P-Name.Denot g.row.P-Story.Denot). MayWait (control_of p) c.args.socket.0 c.args.name) (sym c.self.view_is) c.requires.may) c.requires.silent c.in-Ok-wait_with_room.ensures.ok c.wait_with_room.ensures.boxes c.in-Ok-wait_with_room.ensures.ends)

pub invariant_of-self-in-Err-wait_with_room : goal.invariant_of-self-in-Err-wait_with_room
invariant_of-self-in-Err-wait_with_room g c =
    planed_back g.P.Pipes.known.out_name g.P.Pipes.known.in_name c.self.inside.state c.wait_with_room.new.state c.self.inside.workers c.self.inside.events c.wait_with_room.new.events c.in-Err-wait_with_room.ensures.err
    c.in-Err-wait_with_room.ensures.kept c.self.invariant

pub returns-in-Ok-wait_with_room-clause-ok : goal.returns-in-Ok-wait_with_room-clause-ok
returns-in-Ok-wait_with_room-clause-ok g c =
    noted_event c.args.self.now c.self.inside.workers c.self.inside.events c.wait_with_room.new.events c.push.new.self _ _ _ (sym c.self.view_is) c.in-Ok-wait_with_room.ensures.room c.push.ensures
    (ap given_in c.wait_with_room.ensures.boxes)

pub returns-in-Ok-wait_with_room-clause-reply : goal.returns-in-Ok-wait_with_room-clause-reply
returns-in-Ok-wait_with_room-clause-reply g c = sym (wait_reply (control_of c.args.self.now) c.args.socket c.args.name c.requires.may)

pub returns-in-Err-wait_with_room-clause-err : goal.returns-in-Err-wait_with_room-clause-err
returns-in-Err-wait_with_room-clause-err g c =
    (viewed_back c.args.self.now c.self.inside.state c.wait_with_room.new.state c.self.inside.workers c.self.inside.events c.wait_with_room.new.events c.in-Err-wait_with_room.ensures.err
    c.in-Err-wait_with_room.ensures.kept c.self.view_is)

pub wait_with_room-requires-clause-copy : goal.wait_with_room-requires-clause-copy
wait_with_room-requires-clause-copy g c = ap Inproc c.in-Ok.ensures

pub push-requires : goal.push-requires
push-requires g c =
    let more = ap (λ (l : Listed (Did g.row.P-Name.Denot g.row.P-Story.Denot)). l.spare) c.in-Ok-wait_with_room.ensures.room in
    record { room = omega (arith, more) }

pub returns-in-Err-clause-err : goal.returns-in-Err-clause-err
returns-in-Err-clause-err g c = refl
