use Rattle.std.specs.Prelude.{◌<◌, ◌^◌, ◌++◌, ◌∷◌, [], length}
use Rattle.std.proofs.Common.{ap, sym, subst, ◌∙◌}
use Rattle.zq_base.specs.declared.ids.ObjId.{ObjId}
use Rattle.ctl_state.specs.declared.state.State.{State}
use Rattle.ctl_state.specs.Pairs.{entry_drawn}
use Rattle.ctl_state.specs.Parts.{on_pairs}
use Rattle.ctl_state.specs.Stands.{Stands}
use Rattle.ctl_state.proofs.KeptLemmas.{so_on_err}
use Rattle.spec_control.specs.Control.{draws}
use Rattle.ctl_moves.specs.Room.{bound, connecting}
use Rattle.ctl_moves.proofs.drawing.draw_pair.Goals as goal

pub keep_room-requires : goal.keep_room-requires
keep_room-requires g c = record { there = c.requires.there }

pub draw-requires : goal.draw-requires
draw-requires g c = record {
  few = subst (λ (x : State g.row.L.Denot). length x.pairs < 2 ^ 32) (sym c.in_ok-keep_room.ensures.next) c.requires.few;
}

pub returns-in-Ok-clause-number : goal.returns-in-Ok-clause-number
returns-in-Ok-clause-number g c = c.in-Ok.ensures.number ∙ ap (λ (x : State g.row.L.Denot). length x.pairs) c.in_ok-keep_room.ensures.next

pub returns-in-Ok-clause-next : goal.returns-in-Ok-clause-next
returns-in-Ok-clause-next g c =
    c.in-Ok.ensures.next
    ∙ ap (λ (o : ObjId). on_pairs (λ es. es ++ entry_drawn o c.bound-b_owner.result ∷ []) c.keep_room.new.state) c.connecting-a_owner.ensures
    ∙ ap (λ (o : ObjId). on_pairs (λ es. es ++ entry_drawn (connecting c.args.a_first c.args.o) o ∷ []) c.keep_room.new.state) c.bound-b_owner.ensures
    ∙ ap (λ (x : State g.row.L.Denot). on_pairs (λ es. es ++ entry_drawn (connecting c.args.a_first c.args.o) (bound c.args.a_first c.args.o) ∷ []) x) c.in_ok-keep_room.ensures.next

pub give_room_back-requires : goal.give_room_back-requires
give_room_back-requires g c = record {
  kept = record { before = c.args.state.now; places = c.requires.there; is = c.in-Err.ensures.err ∙ c.in_ok-keep_room.ensures.next };
}

pub returns-in-Err-clause-err : goal.returns-in-Err-clause-err
returns-in-Err-clause-err g c = c.give_room_back.ensures (record { before = c.args.state.now; places = c.requires.there; is = c.in-Err.ensures.err ∙ c.in_ok-keep_room.ensures.next })

pub returns-in-Ok-clause-ok : goal.returns-in-Ok-clause-ok
returns-in-Ok-clause-ok g c = λ k h.
    subst (λ (o : ObjId). Stands c.draw.new.self (draws o.0 (bound c.args.a_first c.args.o).0 k)) c.connecting-a_owner.ensures
    (subst (λ (o : ObjId). Stands c.draw.new.self (draws c.connecting-a_owner.result.0 o.0 k)) c.bound-b_owner.ensures (c.in-Ok.ensures.ok k (c.in_ok-keep_room.ensures.ok k h)))

pub returns-in_err-keep_room-clause-err : goal.returns-in_err-keep_room-clause-err
returns-in_err-keep_room-clause-err g c = so_on_err _ c.from_residual.result c.in_err-keep_room.ensures.err
