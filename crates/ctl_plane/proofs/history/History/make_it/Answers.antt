use Rattle.std.specs.Prelude.{◌≡◌, None, refl}
use Rattle.std.proofs.Common.{ap, sym, ◌∙◌, subst, arith}
use Rattle.spec_control.specs.declared.request.Req.TheVariants.{Socket as MakeSocket}
use Rattle.spec_control.specs.Reply.{reply_of}
use Rattle.desk.specs.declared.given.Given.{Given}
use Rattle.ctl_state.specs.Listed.{with_last, with_room, Listed}
use Rattle.ctl_plane.specs.Past.{Past, control_of}
use Rattle.ctl_moves.specs.Refusals.{refusal_in}
use Rattle.ctl_plane.proofs.DoneLemmas.{event_now}
use Rattle.ctl_plane.proofs.MakingLemmas.{lives, takes_socket, makes_one, made_given, made_plane, copied_row, viewed_back, planed_back}
use Rattle.ctl_plane.proofs.PlaneLemmas.{planed_now}
use Rattle.spec_control.specs.declared.entry.Did.{Did}
use Rattle.ctl_plane.proofs.history.History.make_it.Goals as goal

pub make_with_room-requires : goal.make_with_room-requires
make_with_room-requires g c =
    let h = c.self.invariant.history in
    record { takes = takes_socket c.self.inside.state _ _ h (lives c.self.inside.state _ _ h c.args.kind c.args.options (subst (λ (p : Past (Given g.row.P-Name.Denot g.row.P-Out.Denot g.row.P-In.Denot) g.row.P-Name.Denot g.row.P-Story.Denot). refusal_in (reply_of (control_of p) (MakeSocket c.args.kind c.args.options)) ≡ None) (sym c.self.view_is) c.requires.may)) (c.needs.ensures _ h.stands) }

pub invariant_of-self : goal.invariant_of-self
invariant_of-self g c =
    let h = c.self.invariant.history in
    planed_now g.P.Pipes.known.out_name g.P.Pipes.known.in_name c.make_with_room.new.state c.self.inside.workers (with_room 6 c.self.inside.events) c.push.new.self _ _ _
    (c.push.ensures ∙ ap (with_last _) c.in-Ok-make_with_room.ensures.room)
    (made_plane g.P.Pipes.known.out_name g.P.Pipes.known.in_name c.self.inside.state c.make_with_room.new.state _ c.args.kind c.args.options c.in-Ok-make_with_room.socket c.socket_made-made.result c.args.h _ _ c.self.invariant
    (makes_one c.self.inside.state _ _ h c.args.kind c.args.options (subst (λ (p : Past (Given g.row.P-Name.Denot g.row.P-Out.Denot g.row.P-In.Denot) g.row.P-Name.Denot g.row.P-Story.Denot). refusal_in (reply_of (control_of p) (MakeSocket c.args.kind c.args.options)) ≡ None) (sym c.self.view_is) c.requires.may) c.make_with_room.new.state c.args.h c.requires.silent c.in-Ok-make_with_room.socket c.socket_made-made.result c.in-Ok-make_with_room.ensures.number
    (copied_row c.self.inside.state _ c.socket_made-made.result c.args.kind _ c.args.options h.stands c.socket_made-made.ensures c.in-Ok.ensures) c.in-Ok-make_with_room.ensures.ok) c.requires.silent c.in-Ok-make_with_room.ensures.ok)

pub returns-in-Ok-make_with_room-clause-ok : goal.returns-in-Ok-make_with_room-clause-ok
returns-in-Ok-make_with_room-clause-ok g c =
    event_now c.args.self.now c.self.inside.workers (with_room 6 c.self.inside.events) c.push.new.self _ _ _ (sym c.self.view_is)
    (c.push.ensures ∙ ap (with_last _) c.in-Ok-make_with_room.ensures.room) (made_given c.self.inside.state c.make_with_room.new.state c.socket_made-made.result c.in-Ok-make_with_room.ensures.ok)

pub push-requires : goal.push-requires
push-requires g c =
    let more = ap (λ (l : Listed (Did g.row.P-Name.Denot g.row.P-Story.Denot)). l.spare) c.in-Ok-make_with_room.ensures.room in
    record { room = omega (arith, more) }

pub invariant_of-self-in-Err-make_with_room : goal.invariant_of-self-in-Err-make_with_room
invariant_of-self-in-Err-make_with_room g c =
    planed_back g.P.Pipes.known.out_name g.P.Pipes.known.in_name c.self.inside.state c.make_with_room.new.state c.self.inside.workers c.self.inside.events c.make_with_room.new.events c.in-Err-make_with_room.ensures.err
    c.in-Err-make_with_room.ensures.back c.self.invariant

pub returns-in-Err-make_with_room-clause-err : goal.returns-in-Err-make_with_room-clause-err
returns-in-Err-make_with_room-clause-err g c =
    (viewed_back c.args.self.now c.self.inside.state c.make_with_room.new.state c.self.inside.workers c.self.inside.events c.make_with_room.new.events c.in-Err-make_with_room.ensures.err
    c.in-Err-make_with_room.ensures.back c.self.view_is)

pub returns-in-Err-clause-err : goal.returns-in-Err-clause-err
returns-in-Err-clause-err g c = refl
