use Rattle.std.specs.Prelude.{◌++◌, ◌∷◌, [], List, ℕ, Some, true}
use Rattle.std.proofs.Common.{ap, ◌∙◌}
use Rattle.zq_base.specs.declared.endpoint.Endpoint.TheVariants.{Tcp}
use Rattle.spec_control.specs.declared.entry.Joining.{Joining}
use Rattle.spec_control.specs.declared.entry.PipeName.{PipeName}
use Rattle.spec_control.specs.Control.{end_of}
use Rattle.ctl_state.specs.declared.hold.Held.TheVariants.{Joined}
use Rattle.ctl_moves.specs.JoinNoting.{joins_named, pipes_named}
use Rattle.ctl_moves.proofs.DialingLemmas.{dials, hold_room, made_out, mail, may_join, not_there, seats}
use Rattle.ctl_moves.proofs.dialing.dial.Goals as goal

pub make_dialed-requires-clause-new : goal.make_dialed-requires-clause-new
make_dialed-requires-clause-new g c =
    not_there c.args.state.now (g.H.Holder.holding c.args.holder.now) c.args.o c.requires.may c.in-Ok-draw_dialed.pair c.in-Ok-draw_dialed.ensures.number

pub make_dialed-requires-clause-written : goal.make_dialed-requires-clause-written
make_dialed-requires-clause-written g c =
    let w = c.requires.may in
    (c.outward_of-sizes.ensures (record { control = w.control; stands = w.stands; marks = w.marks }) (end_of 0 true)).written_fits

pub make_dialed-requires-clause-read : goal.make_dialed-requires-clause-read
make_dialed-requires-clause-read g c =
    let w = c.requires.may in
    (c.outward_of-sizes.ensures (record { control = w.control; stands = w.stands; marks = w.marks }) (end_of 0 true)).read_fits

pub make_dialed-requires-clause-may : goal.make_dialed-requires-clause-may
make_dialed-requires-clause-may g c =
    let m = c.requires.makes in
    made_out c.args.state.now c.args.o g.H.Holder.may_make m c.in-Ok-draw_dialed.pair c.in-Ok-draw_dialed.ensures.number c.outward_of-sizes.result (c.outward_of-sizes.ensures (record { control = m.control; stands = m.stands; marks = m.marks }))

pub hold_served-requires-clause-room : goal.hold_served-requires-clause-room
hold_served-requires-clause-room g c =
    let w = c.requires.may in
    hold_room c.args.state.now (g.H.Holder.holding c.args.holder.now) c.args.o w c.in-Ok-draw_dialed.pair c.in-Ok-draw_dialed.ensures.number c.in-Ok.made (c.in-Ok.ensures w.control w.stands w.served)
    c.draw_dialed.new.state c.make_dialed.new.state c.in-Ok-draw_dialed.ensures.next c.in-Ok-make_dialed.child c.in-Ok-make_dialed.ensures.session (c.in-Ok-draw_dialed.ensures.ok w.control w.stands)

pub hold_served-requires-clause-mail : goal.hold_served-requires-clause-mail
hold_served-requires-clause-mail g c =
    let w = c.requires.may in
    mail c.args.state.now (g.H.Holder.holding c.args.holder.now) c.args.o w c.in-Ok-draw_dialed.pair c.in-Ok-draw_dialed.ensures.number c.in-Ok.made (c.in-Ok.ensures w.control w.stands w.served)
    c.draw_dialed.new.state c.make_dialed.new.state c.in-Ok-draw_dialed.ensures.next c.in-Ok-make_dialed.child c.in-Ok-make_dialed.ensures.session (c.in-Ok-draw_dialed.ensures.ok w.control w.stands)

pub join_dialed-requires : goal.join_dialed-requires
join_dialed-requires g c =
    let w = c.requires.may in
    let moves = c.in-Ok-draw_dialed.ensures.ok w.control w.stands in
    record {
      may = may_join c.args.state.now (g.H.Holder.holding c.args.holder.now) c.args.o w c.in-Ok-draw_dialed.pair c.in-Ok-draw_dialed.ensures.number c.in-Ok.made (c.in-Ok.ensures w.control w.stands w.served)
          c.draw_dialed.new.state c.make_dialed.new.state c.in-Ok-draw_dialed.ensures.next c.in-Ok-make_dialed.child c.in-Ok-make_dialed.ensures.session moves
          c.args.at c.hold_served.new.state (record { at = Tcp c.args.at; held = Joined c.in-Ok-draw_dialed.pair (Some c.in-Ok-make_dialed.child) }) c.hold_served.ensures.next
          (c.hold_served.ensures.stands _ (c.in-Ok-make_dialed.ensures.session.stands _ moves))
          g.P.Pipes.known.out_name g.P.Pipes.known.in_name c.in-Ok-make_dialed.end (g.H.Holder.holding c.make_dialed.new.holder) c.in-Ok-make_dialed.ensures.end;
    }

pub returns-in-Ok-make_dialed-clause-ok : goal.returns-in-Ok-make_dialed-clause-ok
returns-in-Ok-make_dialed-clause-ok g c = λ w.
    let moves = c.in-Ok-draw_dialed.ensures.ok w.control w.stands in
    let first = end_of c.in-Ok-draw_dialed.pair.0 true in
    dials c.args.state.now (g.H.Holder.holding c.args.holder.now) c.args.o w c.in-Ok-draw_dialed.pair c.in-Ok-draw_dialed.ensures.number c.in-Ok.made (c.in-Ok.ensures w.control w.stands w.served)
    c.draw_dialed.new.state c.make_dialed.new.state c.in-Ok-draw_dialed.ensures.next c.in-Ok-make_dialed.child c.in-Ok-make_dialed.ensures.session moves
    c.args.at c.hold_served.new.state (record { at = Tcp c.args.at; held = Joined c.in-Ok-draw_dialed.pair (Some c.in-Ok-make_dialed.child) }) c.hold_served.ensures.next
    (c.hold_served.ensures.stands _ (c.in-Ok-make_dialed.ensures.session.stands _ moves))
    g.P.Pipes.known.out_name g.P.Pipes.known.in_name c.in-Ok-make_dialed.end (g.H.Holder.holding c.make_dialed.new.holder) c.in-Ok-make_dialed.ensures.end
    c.join_dialed.new.state (g.H.Holder.holding c.join_dialed.new.holder) c.note.new.self
    (c.join_dialed.ensures (may_join c.args.state.now (g.H.Holder.holding c.args.holder.now) c.args.o w c.in-Ok-draw_dialed.pair c.in-Ok-draw_dialed.ensures.number c.in-Ok.made (c.in-Ok.ensures w.control w.stands w.served)
    c.draw_dialed.new.state c.make_dialed.new.state c.in-Ok-draw_dialed.ensures.next c.in-Ok-make_dialed.child c.in-Ok-make_dialed.ensures.session moves
    c.args.at c.hold_served.new.state (record { at = Tcp c.args.at; held = Joined c.in-Ok-draw_dialed.pair (Some c.in-Ok-make_dialed.child) }) c.hold_served.ensures.next
    (c.hold_served.ensures.stands _ (c.in-Ok-make_dialed.ensures.session.stands _ moves))
    g.P.Pipes.known.out_name g.P.Pipes.known.in_name c.in-Ok-make_dialed.end (g.H.Holder.holding c.make_dialed.new.holder) c.in-Ok-make_dialed.ensures.end))
    (c.note.ensures.joined ∙ ap (λ (xs : List (Joining g.row.P-Name.Denot)). xs ++ joins_named first c.new.result c.in-Ok-make_dialed.end.answer c.in-Ok-make_dialed.end.told ∷ []) c.in_ok-notes.ensures.joined
    ∙ ap (λ (peer : List ℕ). joins_named first peer c.in-Ok-make_dialed.end.answer c.in-Ok-make_dialed.end.told ∷ []) c.new.ensures)
    (c.note.ensures.opened ∙ ap (λ (xs : List (PipeName g.row.P-Name.Denot)). xs ++ pipes_named first c.in-Ok-make_dialed.end.opened) c.in_ok-notes.ensures.opened)

pub undraw_dialed-requires-clause-drawn : goal.undraw_dialed-requires-clause-drawn
undraw_dialed-requires-clause-drawn g c =
    record { before = c.args.state.now; seats = seats c.args.state.now (g.H.Holder.holding c.args.holder.now) c.args.o c.requires.may; is = c.in-Err-make_dialed.ensures.err ∙ c.in-Ok-draw_dialed.ensures.next }

pub returns-in-Err-make_dialed-clause-err : goal.returns-in-Err-make_dialed-clause-err
returns-in-Err-make_dialed-clause-err g c =
    c.undraw_dialed.ensures (record { before = c.args.state.now; seats = seats c.args.state.now (g.H.Holder.holding c.args.holder.now) c.args.o c.requires.may; is = c.in-Err-make_dialed.ensures.err ∙ c.in-Ok-draw_dialed.ensures.next })
