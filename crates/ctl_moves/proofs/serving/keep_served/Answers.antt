use Rattle.std.proofs.Common.{◌∙◌}
use Rattle.ctl_moves.proofs.serving.keep_served.Goals as goal

pub give_commands_back-requires : goal.give_commands_back-requires
give_commands_back-requires g c = record {
  kept = record {
    before = c.args.state.now;
    boxes = record { first = c.requires.there.first_box; last = c.requires.there.last_box };
    is = c.in-Err.ensures.err ∙ c.in_ok-keep_commands.ensures.next;
  };
}

pub returns-in-Err-clause-err : goal.returns-in-Err-clause-err
returns-in-Err-clause-err g c = c.give_commands_back.ensures (record {
  before = c.args.state.now;
  boxes = record { first = c.requires.there.first_box; last = c.requires.there.last_box };
  is = c.in-Err.ensures.err ∙ c.in_ok-keep_commands.ensures.next;
})
