use Rattle.std.proofs.Common.{ap, sym, subst, ◌∙◌}
use Rattle.ctl_state.specs.declared.state.State.{State}
use Rattle.ctl_moves.specs.Room.{HavePlaces, with_places}
use Rattle.ctl_moves.proofs.RoomLemmas.{have_boxes, places_there}
use Rattle.ctl_moves.proofs.room.keep_room.Goals as goal

pub keep_commands-requires : goal.keep_commands-requires
keep_commands-requires g c = record { there = have_boxes c.args.state.now c.args.o c.requires.there }

pub keep_places-requires : goal.keep_places-requires
keep_places-requires g c = record {
  there = subst (λ (x : State g.row.L.Denot). HavePlaces x c.args.o) (sym c.in_ok-keep_commands.ensures.next) (places_there c.args.state.now c.args.o c.requires.there);
}

pub returns-in-Ok-clause-ok : goal.returns-in-Ok-clause-ok
returns-in-Ok-clause-ok g c = λ k h. c.in-Ok.ensures.ok k (c.in_ok-keep_commands.ensures.ok k h)

pub returns-in-Ok-clause-next : goal.returns-in-Ok-clause-next
returns-in-Ok-clause-next g c = c.in-Ok.ensures.next ∙ ap (with_places c.args.o) c.in_ok-keep_commands.ensures.next

pub give_commands_back-requires : goal.give_commands_back-requires
give_commands_back-requires g c = record {
  kept = record { before = c.args.state.now; boxes = have_boxes c.args.state.now c.args.o c.requires.there; is = c.in-Err.ensures.err ∙ c.in_ok-keep_commands.ensures.next };
}

pub returns-in-Err-clause-err : goal.returns-in-Err-clause-err
returns-in-Err-clause-err g c = c.give_commands_back.ensures (record { before = c.args.state.now; boxes = have_boxes c.args.state.now c.args.o c.requires.there; is = c.in-Err.ensures.err ∙ c.in_ok-keep_commands.ensures.next })
