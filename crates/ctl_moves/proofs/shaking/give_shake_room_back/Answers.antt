use Rattle.ctl_moves.proofs.RoomLemmas.{have_boxes}
use Rattle.ctl_moves.proofs.ShakingLemmas.{shaken_left}
use Rattle.ctl_moves.proofs.shaking.give_shake_room_back.Goals as goal

pub give_commands_back-requires : goal.give_commands_back-requires
give_commands_back-requires g c =
    let w = c.requires.kept in
    record {
      kept = record {
        before = w.before;
        boxes = have_boxes w.before c.args.o w.places;
        is = shaken_left c.args.o c.args.state.now c.release_ends.new.self c.release_ends-2.new.self w c.release_ends.ensures c.release_ends-2.ensures;
      };
    }

pub returns : goal.returns
returns g c = λ w. c.give_commands_back.ensures (record {
  before = w.before;
  boxes = have_boxes w.before c.args.o w.places;
  is = shaken_left c.args.o c.args.state.now c.release_ends.new.self c.release_ends-2.new.self w c.release_ends.ensures c.release_ends-2.ensures;
})
