use Rattle.std.specs.Prelude.{◌<◌, ◌≤◌, length}
use Rattle.std.proofs.Common.{ap, sym, subst, ◌∙◌}
use Rattle.ctl_state.specs.declared.state.State.{State}
use Rattle.ctl_state.specs.Boxes.{mail_at}
use Rattle.ctl_state.proofs.MailLemmas.{boxes_back}
use Rattle.ctl_moves.specs.Room.{with_more}
use Rattle.ctl_moves.proofs.RoomLemmas.{box_there, more_spare}
use Rattle.ctl_moves.proofs.room.keep_commands.Goals as goal

pub reserve-requires : goal.reserve-requires
reserve-requires g c = record { there = c.requires.there.first }

pub reserve-requires-2 : goal.reserve-requires-2
reserve-requires-2 g c = record {
  there = subst (λ (x : State g.row.L.Denot). c.args.o.last_slot.0 < length x.boxes) (sym c.in_ok-reserve.ensures.next) (box_there c.args.state.now c.args.o.first_slot.0 c.args.first c.args.o.last_slot.0 c.requires.there.last);
}

pub returns-in-Ok-clause-ok : goal.returns-in-Ok-clause-ok
returns-in-Ok-clause-ok g c = λ k h. c.in-Ok.ensures.ok k (c.in_ok-reserve.ensures.ok k h)

pub returns-in-Ok-clause-next : goal.returns-in-Ok-clause-next
returns-in-Ok-clause-next g c = c.in-Ok.ensures.next ∙ ap (with_more c.args.o.last_slot.0 c.args.last) c.in_ok-reserve.ensures.next

pub release-requires : goal.release-requires
release-requires g c =
    let kept = c.in-Err.ensures.err ∙ c.in_ok-reserve.ensures.next in
    record {
      there = subst (λ (x : State g.row.L.Denot). c.args.o.first_slot.0 < length x.boxes) (sym kept) (box_there c.args.state.now c.args.o.first_slot.0 c.args.first c.args.o.first_slot.0 c.requires.there.first);
      kept = subst (λ (x : State g.row.L.Denot). c.args.first ≤ (mail_at x.boxes c.args.o.first_slot.0).spare) (sym kept) (more_spare c.args.state.now c.args.o.first_slot.0 c.args.first c.requires.there.first);
    }

pub returns-in-Err-clause-err : goal.returns-in-Err-clause-err
returns-in-Err-clause-err g c =
    boxes_back c.args.state.now c.reserve.new.self c.reserve-2.new.self c.release.new.self c.args.o.first_slot.0 c.args.first c.requires.there.first c.in_ok-reserve.ensures.next c.in-Err.ensures.err c.release.ensures
