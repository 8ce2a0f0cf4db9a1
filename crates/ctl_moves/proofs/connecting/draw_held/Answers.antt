use Rattle.std.specs.Prelude.{◌<◌, ◌≤◌, ◌^◌, true, length}
use Rattle.std.proofs.Common.{ap, sym, subst, ◌∙◌}
use Rattle.ctl_state.specs.declared.state.State.{State}
use Rattle.ctl_state.specs.Listed.{without_room}
use Rattle.ctl_state.specs.Lists.{belongings_at, with_holds}
use Rattle.ctl_state.specs.Parts.{on_lists}
use Rattle.ctl_moves.specs.Room.{HavePlaces, with_drawn}
use Rattle.ctl_moves.proofs.ConnectingLemmas.{held_places, hold_back, hold_spare}
use Rattle.ctl_moves.proofs.connecting.draw_held.Goals as goal

pub returns-in-Err-clause-err : goal.returns-in-Err-clause-err
returns-in-Err-clause-err g c =
    c.release_holds.ensures ∙ ap (on_lists (with_holds (without_room 1) c.args.o.first.0)) (c.in-Err.ensures.err ∙ c.in_ok-reserve_holds.ensures.next)
    ∙ hold_back c.args.state.now c.args.o.first.0 c.requires.there.first_list

pub reserve_holds-requires : goal.reserve_holds-requires
reserve_holds-requires g c = record { there = c.requires.there.first_list }

pub returns-in-Ok-clause-number : goal.returns-in-Ok-clause-number
returns-in-Ok-clause-number g c = c.in-Ok.ensures.number ∙ ap (λ (x : State g.row.L.Denot). length x.pairs) c.in_ok-reserve_holds.ensures.next

pub returns-in-Ok-clause-ok : goal.returns-in-Ok-clause-ok
returns-in-Ok-clause-ok g c = λ k h. c.in-Ok.ensures.ok k (c.in_ok-reserve_holds.ensures.ok k h)

pub returns-in-Ok-clause-next : goal.returns-in-Ok-clause-next
returns-in-Ok-clause-next g c = c.in-Ok.ensures.next ∙ ap (with_drawn true c.args.o) c.in_ok-reserve_holds.ensures.next

pub draw_pair-requires-clause-there : goal.draw_pair-requires-clause-there
draw_pair-requires-clause-there g c = subst (λ (x : State g.row.L.Denot). HavePlaces x c.args.o) (sym c.in_ok-reserve_holds.ensures.next) (held_places c.args.state.now c.args.o c.requires.there)

pub draw_pair-requires-clause-few : goal.draw_pair-requires-clause-few
draw_pair-requires-clause-few g c = subst (λ (x : State g.row.L.Denot). length x.pairs < 2 ^ 32) (sym c.in_ok-reserve_holds.ensures.next) c.requires.few

pub release_holds-requires-clause-there : goal.release_holds-requires-clause-there
release_holds-requires-clause-there g c =
    subst (λ (x : State g.row.L.Denot). c.args.o.first.0 < length x.objects.lists) (sym (c.in-Err.ensures.err ∙ c.in_ok-reserve_holds.ensures.next)) (held_places c.args.state.now c.args.o c.requires.there).first_list

pub release_holds-requires-clause-kept : goal.release_holds-requires-clause-kept
release_holds-requires-clause-kept g c =
    subst (λ (x : State g.row.L.Denot). 1 ≤ (belongings_at x.objects.lists c.args.o.first.0).holds.spare) (sym (c.in-Err.ensures.err ∙ c.in_ok-reserve_holds.ensures.next)) (hold_spare c.args.state.now c.args.o.first.0 c.requires.there.first_list)
