use Rattle.ctl_state.specs.Pairs.{entry_drawn}
use Rattle.ctl_moves.specs.Room.{with_both}
use Rattle.ctl_moves.proofs.RoomLemmas.{undrawn_at}
use Rattle.ctl_moves.proofs.accepting.undraw_accepted.Goals as goal

pub give_commands_back-requires : goal.give_commands_back-requires
give_commands_back-requires g c =
    let w = c.requires.drawn in
    record {
      kept = record {
        before = w.before;
        boxes = w.boxes;
        is = undrawn_at (with_both 3 5 c.args.o w.before) c.args.state.now c.undraw.new.self (entry_drawn c.args.o.first c.args.o.last) c.args.pair.0 w.is c.requires.last c.undraw.ensures;
      };
    }

pub returns : goal.returns
returns g c = λ w. c.give_commands_back.ensures (record {
  before = w.before;
  boxes = w.boxes;
  is = undrawn_at (with_both 3 5 c.args.o w.before) c.args.state.now c.undraw.new.self (entry_drawn c.args.o.first c.args.o.last) c.args.pair.0 w.is c.requires.last c.undraw.ensures;
})
