use Rattle.std.proofs.Common.{ap, ◌∙◌, arith}
use Rattle.ctl_state.specs.declared.hold.Held.TheVariants.{Waits}
use Rattle.ctl_state.specs.declared.state.State.{State}
use Rattle.ctl_state.specs.Listed.{with_room, with_last}
use Rattle.ctl_moves.proofs.NameLemmas.{held_aside}
use Rattle.ctl_moves.proofs.WaitLemmas.{holds_back, room_kept, waits_now}
use Rattle.ctl_moves.proofs.waiting.wait.Goals as goal

pub hold-requires : goal.hold-requires
hold-requires g c = record {
  room = room_kept c.args.state.now c.reserve_holds.new.self c.wait_for.new.self c.args.socket.0 1 (omega arith) c.requires.there c.in_ok-reserve_holds.ensures.next (ap (λ (x : State g.row.L.Denot). x.objects.lists) c.wait_for.ensures.rest);
}

pub returns-in-Ok-clause-ok : goal.returns-in-Ok-clause-ok
returns-in-Ok-clause-ok g c = λ h b stands.
    waits_now c.hold.new.self b c.args.socket c.args.to.now c.args.copy c.kind_of-kind.result h c.requires.copy (c.kind_of-kind.ensures b stands)
    (c.hold.ensures.stands _ (c.in-Ok.ensures.ok b (c.in_ok-reserve_holds.ensures.ok b stands)))

pub returns-in-Ok-clause-boxes : goal.returns-in-Ok-clause-boxes
returns-in-Ok-clause-boxes g c =
    ap (λ (x : State g.row.L.Denot). x.boxes) c.hold.ensures.next ∙ ap (λ (x : State g.row.L.Denot). x.boxes) c.wait_for.ensures.rest ∙ ap (λ (x : State g.row.L.Denot). x.boxes) c.in_ok-reserve_holds.ensures.next

pub returns-in-Err-clause-boxes : goal.returns-in-Err-clause-boxes
returns-in-Err-clause-boxes g c =
    ap (λ (x : State g.row.L.Denot). x.boxes) (holds_back c.args.state.now c.reserve_holds.new.self c.wait_for.new.self c.release_holds.new.self c.args.socket.0 1 c.requires.there c.in_ok-reserve_holds.ensures.next c.in-Err.ensures.err c.release_holds.ensures)

pub returns-in-Err-clause-err : goal.returns-in-Err-clause-err
returns-in-Err-clause-err g c = holds_back c.args.state.now c.reserve_holds.new.self c.wait_for.new.self c.release_holds.new.self c.args.socket.0 1 c.requires.there c.in_ok-reserve_holds.ensures.next c.in-Err.ensures.err c.release_holds.ensures

pub returns-in-Ok-clause-ends : goal.returns-in-Ok-clause-ends
returns-in-Ok-clause-ends g c =
    held_aside c.args.state.now c.reserve_holds.new.self c.wait_for.new.self c.hold.new.self (with_room 1) (with_last (record { at = c.args.copy; held = Waits })) c.args.socket.0 c.in_ok-reserve_holds.ensures.next (ap (λ (x : State g.row.L.Denot). x.objects.lists) c.wait_for.ensures.rest) c.hold.ensures.next
