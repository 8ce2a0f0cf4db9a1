use Rattle.std.proofs.Common.{◌∙◌}
use Rattle.ctl_moves.proofs.dialing.draw_dialed.Goals as goal

pub give_dial_room_back-requires : goal.give_dial_room_back-requires
give_dial_room_back-requires g c = record {
  kept = record { before = c.args.state.now; seats = c.requires.there; is = c.in-Err.ensures.err ∙ c.in_ok-keep_dial_room.ensures.next };
}

pub returns-in-Err-clause-err : goal.returns-in-Err-clause-err
returns-in-Err-clause-err g c = c.give_dial_room_back.ensures (record { before = c.args.state.now; seats = c.requires.there; is = c.in-Err.ensures.err ∙ c.in_ok-keep_dial_room.ensures.next })
