use Rattle.std.specs.Prelude.{Some}
use Rattle.ctl_state.specs.declared.hold.Held.TheVariants.{Bound}
use Rattle.std.proofs.Common.{◌∙◌}
use Rattle.zq_base.specs.declared.endpoint.Endpoint.TheVariants.{Tcp}
use Rattle.ctl_moves.proofs.ListeningLemmas.{listens, mail, plug_room, seats}
use Rattle.ctl_moves.proofs.listening.listen.Goals as goal

pub hold_served-requires-clause-mail : goal.hold_served-requires-clause-mail
hold_served-requires-clause-mail g c =
    let w = c.requires.may in
    mail c.args.state.now c.args.o c.args.at w c.in_ok-made.made (c.in_ok-made.ensures w.control w.stands w.served) c.keep_served.new.state c.name_listener.new.state c.in-Ok-name_listener.child c.in-Ok.ensures.next (c.in-Ok.ensures.ok w.control w.stands)
    c.in-Ok-name_listener.ensures.ok c.in-Ok-name_listener.ensures.number

pub put-requires : goal.put-requires
put-requires g c =
    let w = c.requires.may in
    record {
      room = plug_room c.args.state.now c.args.o c.args.at w c.in_ok-made.made (c.in_ok-made.ensures w.control w.stands w.served) c.keep_served.new.state c.name_listener.new.state c.in-Ok-name_listener.child c.in-Ok.ensures.next (c.in-Ok.ensures.ok w.control w.stands)
          c.in-Ok-name_listener.ensures.ok c.in-Ok-name_listener.ensures.number c.hold_served.new.state (record { at = Tcp c.args.at; held = Bound (Some c.in-Ok-name_listener.child) }) c.hold_served.ensures.next;
    }

pub returns-in-Ok-name_listener-clause-ok : goal.returns-in-Ok-name_listener-clause-ok
returns-in-Ok-name_listener-clause-ok g c = λ w.
    let kept = c.in-Ok.ensures.ok w.control w.stands in
    listens c.args.state.now c.args.o c.args.at w c.in_ok-made.made (c.in_ok-made.ensures w.control w.stands w.served) c.keep_served.new.state c.name_listener.new.state c.in-Ok-name_listener.child c.in-Ok.ensures.next kept
    c.in-Ok-name_listener.ensures.ok c.in-Ok-name_listener.ensures.number c.hold_served.new.state (record { at = Tcp c.args.at; held = Bound (Some c.in-Ok-name_listener.child) }) c.hold_served.ensures.next
    c.put.new.self (c.hold_served.ensures.stands _ (c.in-Ok-name_listener.ensures.ok.stands w.control kept)) c.put.ensures.stands c.put.ensures.next

pub give_served_back-requires : goal.give_served_back-requires
give_served_back-requires g c = record {
  kept = record { before = c.args.state.now; seats = seats c.args.state.now c.args.o c.args.at c.requires.may; is = c.in-Err-name_listener.ensures.err ∙ c.in-Ok.ensures.next };
}

pub returns-in-Err-name_listener-clause-err : goal.returns-in-Err-name_listener-clause-err
returns-in-Err-name_listener-clause-err g c =
    c.give_served_back.ensures (record { before = c.args.state.now; seats = seats c.args.state.now c.args.o c.args.at c.requires.may; is = c.in-Err-name_listener.ensures.err ∙ c.in-Ok.ensures.next })
