use Rattle.ctl_state.specs.Pairs.{entry_drawn}
use Rattle.ctl_moves.specs.Room.{bound, connecting, with_pair_room}
use Rattle.ctl_moves.proofs.RoomLemmas.{undrawn_at}
use Rattle.ctl_moves.proofs.drawing.undraw_pair.Goals as goal

pub give_room_back-requires : goal.give_room_back-requires
give_room_back-requires g c =
    let w = c.requires.drawn in
    record {
      kept = record {
        before = w.before;
        places = w.places;
        is = undrawn_at (with_pair_room c.args.o w.before) c.args.state.now c.undraw.new.self (entry_drawn (connecting c.args.a_first c.args.o) (bound c.args.a_first c.args.o)) c.args.pair.0 w.is c.requires.last c.undraw.ensures;
      };
    }

pub returns : goal.returns
returns g c = λ w. c.give_room_back.ensures (record {
  before = w.before;
  places = w.places;
  is = undrawn_at (with_pair_room c.args.o w.before) c.args.state.now c.undraw.new.self (entry_drawn (connecting c.args.a_first c.args.o) (bound c.args.a_first c.args.o)) c.args.pair.0 w.is c.requires.last c.undraw.ensures;
})
