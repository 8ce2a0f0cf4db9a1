use Rattle.std.proofs.Common.{ap, subst, ◌∙◌, arith}
use Rattle.std.specs.Prelude.{None}
use Rattle.ctl_state.specs.declared.hold.Held.TheVariants.{Bound}
use Rattle.ctl_state.specs.declared.state.State.{State}
use Rattle.ctl_state.specs.Listed.{with_room, with_last}
use Rattle.ctl_moves.proofs.NameLemmas.{held_aside, lists_on, same_lists, bound_with}
use Rattle.zq_base.specs.declared.endpoint.Endpoint.{Endpoint}
use Rattle.spec_control.specs.declared.book.Binding.{Binding}
use Rattle.spec_control.specs.After.{binding_by}
use Rattle.ctl_state.specs.Stands.{Stands}
use Rattle.ctl_moves.proofs.WaitLemmas.{holds_back, room_kept}
use Rattle.ctl_moves.proofs.naming.take_name.Goals as goal

pub returns-in-Ok-clause-ok : goal.returns-in-Ok-clause-ok
returns-in-Ok-clause-ok g c = λ k h.
    let named = c.in-Ok.ensures.ok k (c.in_ok-reserve_holds.ensures.ok k h) in
    let now = c.take_waiting.ensures.stands _ (c.hold.ensures.stands _ named) in
    subst (λ (e : Endpoint). Stands c.take_waiting.new.self (bound_with c.args.socket.0 c.args.at.now e (binding_by c.args.socket.0 k) k)) c.requires.copy
    (subst (λ (b : Binding). Stands c.take_waiting.new.self (bound_with c.args.socket.0 c.args.at.now c.args.copy b k)) (c.binding_by-binding.ensures k h) now)

pub returns-in-Err-OutOfMemory-clause-err : goal.returns-in-Err-OutOfMemory-clause-err
returns-in-Err-OutOfMemory-clause-err g c = holds_back c.args.state.now c.reserve_holds.new.self c.hold_name.new.self c.release_holds.new.self c.args.socket.0 1 c.requires.there c.in_ok-reserve_holds.ensures.next c.in-Err-OutOfMemory.ensures.err c.release_holds.ensures

pub returns-in-Ok-clause-ends : goal.returns-in-Ok-clause-ends
returns-in-Ok-clause-ends g c =
    lists_on c.args.state.now.objects.lists c.hold.new.self.objects.lists c.take_waiting.new.self.objects.lists
    (held_aside c.args.state.now c.reserve_holds.new.self c.hold_name.new.self c.hold.new.self (with_room 1) (with_last (record { at = c.args.copy; held = Bound None })) c.args.socket.0 c.in_ok-reserve_holds.ensures.next (ap (λ (x : State g.row.L.Denot). x.objects.lists) c.hold_name.ensures.rest) c.hold.ensures.next)
    (same_lists c.hold.new.self.objects.lists c.take_waiting.new.self.objects.lists (ap (λ (x : State g.row.L.Denot). x.objects.lists) c.take_waiting.ensures.rest))

pub hold-requires : goal.hold-requires
hold-requires g c = record {
  room = room_kept c.args.state.now c.reserve_holds.new.self c.hold_name.new.self c.args.socket.0 1 (omega arith) c.requires.there c.in_ok-reserve_holds.ensures.next (ap (λ (x : State g.row.L.Denot). x.objects.lists) c.hold_name.ensures.rest);
}

pub returns-in-Ok-clause-boxes : goal.returns-in-Ok-clause-boxes
returns-in-Ok-clause-boxes g c =
    ap (λ (x : State g.row.L.Denot). x.boxes) c.take_waiting.ensures.rest ∙ ap (λ (x : State g.row.L.Denot). x.boxes) c.hold.ensures.next ∙ ap (λ (x : State g.row.L.Denot). x.boxes) c.hold_name.ensures.rest ∙ ap (λ (x : State g.row.L.Denot). x.boxes) c.in_ok-reserve_holds.ensures.next

pub returns-in-Err-OutOfMemory-clause-boxes : goal.returns-in-Err-OutOfMemory-clause-boxes
returns-in-Err-OutOfMemory-clause-boxes g c =
    ap (λ (x : State g.row.L.Denot). x.boxes) (holds_back c.args.state.now c.reserve_holds.new.self c.hold_name.new.self c.release_holds.new.self c.args.socket.0 1 c.requires.there c.in_ok-reserve_holds.ensures.next c.in-Err-OutOfMemory.ensures.err c.release_holds.ensures)
