use Rattle.std.specs.Prelude.{refl}
use Rattle.ctl_moves.specs.Room.{with_both}
use Rattle.ctl_moves.proofs.WaitLemmas.{holds_back}
use Rattle.ctl_moves.proofs.serving.give_served_back.Goals as goal

pub give_commands_back-requires : goal.give_commands_back-requires
give_commands_back-requires g c =
    let w = c.requires.kept in
    record {
      kept = record {
        before = w.before;
        boxes = record { first = w.seats.first_box; last = w.seats.last_box };
        is = holds_back (with_both c.args.first c.args.last c.args.o w.before) c.args.state.now c.args.state.now c.release_holds.new.self c.args.o.first.0 1 w.seats.list w.is refl c.release_holds.ensures;
      };
    }

pub returns : goal.returns
returns g c = λ w. c.give_commands_back.ensures (record {
  before = w.before;
  boxes = record { first = w.seats.first_box; last = w.seats.last_box };
  is = holds_back (with_both c.args.first c.args.last c.args.o w.before) c.args.state.now c.args.state.now c.release_holds.new.self c.args.o.first.0 1 w.seats.list w.is refl c.release_holds.ensures;
})
