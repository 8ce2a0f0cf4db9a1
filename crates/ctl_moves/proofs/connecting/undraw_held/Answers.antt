use Rattle.std.specs.Prelude.{◌<◌, ◌≤◌, length}
use Rattle.std.proofs.Common.{ap, sym, ◌∙◌, subst}
use Rattle.ctl_state.specs.declared.state.State.{State}
use Rattle.ctl_state.specs.Listed.{without_room}
use Rattle.ctl_state.specs.Lists.{belongings_at, with_holds}
use Rattle.ctl_state.specs.Parts.{on_lists}
use Rattle.ctl_moves.specs.Connecting.{with_hold_room}
use Rattle.ctl_moves.proofs.ConnectingLemmas.{held_places, hold_back, hold_spare}
use Rattle.ctl_moves.proofs.connecting.undraw_held.Goals as goal

pub release_holds-requires-clause-there : goal.release_holds-requires-clause-there
release_holds-requires-clause-there g c =
    let w = c.requires.drawn in
    let back = c.undraw_pair.ensures (record { before = with_hold_room c.args.o.first.0 w.before; places = held_places w.before c.args.o w.places; is = w.is }) in
    subst (λ (x : State g.row.L.Denot). c.args.o.first.0 < length x.objects.lists) (sym back) (held_places w.before c.args.o w.places).first_list

pub release_holds-requires-clause-kept : goal.release_holds-requires-clause-kept
release_holds-requires-clause-kept g c =
    let w = c.requires.drawn in
    let back = c.undraw_pair.ensures (record { before = with_hold_room c.args.o.first.0 w.before; places = held_places w.before c.args.o w.places; is = w.is }) in
    subst (λ (x : State g.row.L.Denot). 1 ≤ (belongings_at x.objects.lists c.args.o.first.0).holds.spare) (sym back) (hold_spare w.before c.args.o.first.0 w.places.first_list)

pub returns : goal.returns
returns g c = λ w.
    c.release_holds.ensures
    ∙ ap (on_lists (with_holds (without_room 1) c.args.o.first.0))
    (c.undraw_pair.ensures (record { before = with_hold_room c.args.o.first.0 w.before; places = held_places w.before c.args.o w.places; is = w.is }))
    ∙ hold_back w.before c.args.o.first.0 w.places.first_list
