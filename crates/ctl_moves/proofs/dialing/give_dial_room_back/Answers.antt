use Rattle.std.specs.Prelude.{refl}
use Rattle.ctl_moves.specs.Serving.{with_served}
use Rattle.ctl_moves.proofs.RoomLemmas.{places_back}
use Rattle.ctl_moves.proofs.ServingLemmas.{served_list}
use Rattle.ctl_moves.proofs.dialing.give_dial_room_back.Goals as goal

pub give_served_back-requires : goal.give_served_back-requires
give_served_back-requires g c =
    let w = c.requires.kept in
    record {
      kept = record {
        before = w.before;
        seats = w.seats;
        is = places_back (with_served 5 4 c.args.o w.before) c.args.state.now c.args.state.now c.release_ends.new.self c.args.o.first.0 (served_list w.before c.args.o 5 4 w.seats.list) w.is refl c.release_ends.ensures;
      };
    }

pub returns : goal.returns
returns g c = λ w. c.give_served_back.ensures (record {
  before = w.before;
  seats = w.seats;
  is = places_back (with_served 5 4 c.args.o w.before) c.args.state.now c.args.state.now c.release_ends.new.self c.args.o.first.0 (served_list w.before c.args.o 5 4 w.seats.list) w.is refl c.release_ends.ensures;
})
