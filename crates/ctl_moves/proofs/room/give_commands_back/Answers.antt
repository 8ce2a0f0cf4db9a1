use Rattle.std.specs.Prelude.{refl}
use Rattle.ctl_moves.specs.Room.{with_more}
use Rattle.ctl_state.proofs.MailLemmas.{boxes_back}
use Rattle.ctl_moves.proofs.RoomLemmas.{box_there}
use Rattle.ctl_moves.proofs.room.give_commands_back.Goals as goal

pub returns : goal.returns
returns g c = λ w.
    let mid = with_more c.args.o.first_slot.0 c.args.first w.before in
    let first = boxes_back mid c.args.state.now c.args.state.now c.release.new.self c.args.o.last_slot.0 c.args.last (box_there w.before c.args.o.first_slot.0 c.args.first c.args.o.last_slot.0 w.boxes.last) w.is refl c.release.ensures in
    boxes_back w.before c.release.new.self c.release.new.self c.release-2.new.self c.args.o.first_slot.0 c.args.first w.boxes.first first refl c.release-2.ensures
