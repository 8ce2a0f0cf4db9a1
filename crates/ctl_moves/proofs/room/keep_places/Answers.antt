use Rattle.std.specs.Prelude.{◌<◌, ◌≤◌, length}
use Rattle.std.proofs.Common.{ap, sym, subst, ◌∙◌}
use Rattle.ctl_state.specs.declared.state.State.{State}
use Rattle.ctl_state.specs.Lists.{belongings_at}
use Rattle.ctl_moves.proofs.RoomLemmas.{list_there, place_spare, places_back, with_place}
use Rattle.ctl_moves.proofs.room.keep_places.Goals as goal

pub reserve_ends-requires : goal.reserve_ends-requires
reserve_ends-requires g c = record { there = c.requires.there.first_list }

pub reserve_ends-requires-2 : goal.reserve_ends-requires-2
reserve_ends-requires-2 g c = record {
  there = subst (λ (x : State g.row.L.Denot). c.args.o.last.0 < length x.objects.lists) (sym c.in_ok-reserve_ends.ensures.next) (list_there c.args.state.now c.args.o.first.0 c.args.o.last.0 c.requires.there.last_list);
}

pub returns-in-Ok-clause-ok : goal.returns-in-Ok-clause-ok
returns-in-Ok-clause-ok g c = λ k h. c.in-Ok.ensures.ok k (c.in_ok-reserve_ends.ensures.ok k h)

pub returns-in-Ok-clause-next : goal.returns-in-Ok-clause-next
returns-in-Ok-clause-next g c = c.in-Ok.ensures.next ∙ ap (with_place c.args.o.last.0) c.in_ok-reserve_ends.ensures.next

pub release_ends-requires : goal.release_ends-requires
release_ends-requires g c =
    let kept = c.in-Err.ensures.err ∙ c.in_ok-reserve_ends.ensures.next in
    record {
      there = subst (λ (x : State g.row.L.Denot). c.args.o.first.0 < length x.objects.lists) (sym kept) (list_there c.args.state.now c.args.o.first.0 c.args.o.first.0 c.requires.there.first_list);
      kept = subst (λ (x : State g.row.L.Denot). 1 ≤ (belongings_at x.objects.lists c.args.o.first.0).ends.spare) (sym kept) (place_spare c.args.state.now c.args.o.first.0 c.requires.there.first_list);
    }

pub returns-in-Err-clause-err : goal.returns-in-Err-clause-err
returns-in-Err-clause-err g c =
    places_back c.args.state.now c.reserve_ends.new.self c.reserve_ends-2.new.self c.release_ends.new.self c.args.o.first.0 c.requires.there.first_list c.in_ok-reserve_ends.ensures.next c.in-Err.ensures.err c.release_ends.ensures
