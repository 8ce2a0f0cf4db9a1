use Rattle.ctl_state.specs.Pairs.{entry_drawn}
use Rattle.ctl_moves.specs.Dialing.{with_dial_room}
use Rattle.ctl_moves.proofs.RoomLemmas.{undrawn_at}
use Rattle.ctl_moves.proofs.dialing.undraw_dialed.Goals as goal

pub give_dial_room_back-requires : goal.give_dial_room_back-requires
give_dial_room_back-requires g c =
    let w = c.requires.drawn in
    record {
      kept = record {
        before = w.before;
        seats = w.seats;
        is = undrawn_at (with_dial_room c.args.o w.before) c.args.state.now c.undraw.new.self (entry_drawn c.args.o.first c.args.o.last) c.args.pair.0 w.is c.requires.last c.undraw.ensures;
      };
    }

pub returns : goal.returns
returns g c = λ w. c.give_dial_room_back.ensures (record {
  before = w.before;
  seats = w.seats;
  is = undrawn_at (with_dial_room c.args.o w.before) c.args.state.now c.undraw.new.self (entry_drawn c.args.o.first c.args.o.last) c.args.pair.0 w.is c.requires.last c.undraw.ensures;
})
