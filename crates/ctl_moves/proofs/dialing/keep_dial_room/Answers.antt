use Rattle.std.proofs.Common.{◌∙◌}
use Rattle.ctl_moves.proofs.dialing.keep_dial_room.Goals as goal

pub give_served_back-requires : goal.give_served_back-requires
give_served_back-requires g c = record {
  kept = record { before = c.args.state.now; seats = c.requires.there; is = c.in-Err.ensures.err ∙ c.in_ok-keep_served.ensures.next };
}

pub returns-in-Err-clause-err : goal.returns-in-Err-clause-err
returns-in-Err-clause-err g c = c.give_served_back.ensures (record { before = c.args.state.now; seats = c.requires.there; is = c.in-Err.ensures.err ∙ c.in_ok-keep_served.ensures.next })
