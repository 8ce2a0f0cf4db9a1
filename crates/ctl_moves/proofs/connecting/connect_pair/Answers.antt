use Rattle.std.specs.Prelude.{◌++◌, ◌∷◌, [], List, length, true, refl}
use Rattle.std.proofs.Common.{ap, ◌∙◌}
use Rattle.spec_control.specs.declared.entry.Joining.{Joining}
use Rattle.spec_control.specs.declared.entry.PipeName.{PipeName}
use Rattle.spec_control.specs.Control.{draws, end_of}
use Rattle.ctl_state.specs.Listed.{with_last}
use Rattle.ctl_state.specs.Lists.{no_hold, with_holds}
use Rattle.ctl_state.specs.Parts.{on_lists}
use Rattle.ctl_moves.specs.JoinNoting.{joins_named, pipes_named}
use Rattle.ctl_moves.proofs.ConnectingLemmas.{connects, drawn_last, few_numbers, first_waker, last_waker, may_join, not_there, room_to_hold}
use Rattle.ctl_moves.proofs.PapersLemmas.{drawn_makes}
use Rattle.ctl_moves.specs.Holding.{joined_at}
use Rattle.ctl_moves.proofs.TurnLemmas.{keeps_same}
use Rattle.ctl_moves.proofs.TakenLemmas.{stays_itself}
use Rattle.ctl_moves.proofs.connecting.connect_pair.Goals as goal

pub make_first-requires-clause-mine : goal.make_first-requires-clause-mine
make_first-requires-clause-mine g c =
    first_waker c.args.state.now (g.H.Holder.holding c.args.holder.now) c.args.o (length c.args.wakers.now) c.requires.may

pub make_first-requires-clause-theirs : goal.make_first-requires-clause-theirs
make_first-requires-clause-theirs g c =
    last_waker c.args.state.now (g.H.Holder.holding c.args.holder.now) c.args.o (length c.args.wakers.now) c.requires.may

pub make_first-requires-clause-makes : goal.make_first-requires-clause-makes
make_first-requires-clause-makes g c =
    drawn_makes c.args.state.now c.draw_held.new.state c.args.o.first.0 c.args.o.last.0 c.args.o true g.H.Holder.may_make c.in-Ok-draw_held.pair c.in-Ok-draw_held.ensures.number c.in-Ok-draw_held.ensures.ok c.requires.makes

pub make_first-requires-clause-here : goal.make_first-requires-clause-here
make_first-requires-clause-here g c =
    c.requires.may.lent

pub make_first-requires-clause-new : goal.make_first-requires-clause-new
make_first-requires-clause-new g c =
    not_there c.args.state.now (g.H.Holder.holding c.args.holder.now) c.args.o (length c.args.wakers.now) c.requires.may c.in-Ok-draw_held.pair c.in-Ok-draw_held.ensures.number

pub make_first-requires-clause-calm : goal.make_first-requires-clause-calm
make_first-requires-clause-calm g c =
    ([], c.requires.calm)

pub hold_joined-requires : goal.hold_joined-requires
hold_joined-requires g c = record {
  room = room_to_hold c.args.state.now (g.H.Holder.holding c.args.holder.now) c.args.o (length c.args.wakers.now) c.requires.may c.in-Ok-draw_held.pair c.in-Ok-draw_held.ensures.number
      c.draw_held.new.state (on_lists (with_holds (with_last no_hold) c.args.o.first.0) c.draw_held.new.state) c.args.at no_hold c.in-Ok-draw_held.ensures.next refl;
}

pub join_pair-requires : goal.join_pair-requires
join_pair-requires g c =
    let w = c.requires.may in
    record {
      may = may_join c.args.state.now (g.H.Holder.holding c.args.holder.now) c.args.o (length c.args.wakers.now) w c.in-Ok-draw_held.pair c.in-Ok-draw_held.ensures.number
          c.draw_held.new.state c.hold_joined.new.state c.args.at (joined_at c.args.at c.in-Ok-draw_held.pair) c.in-Ok-draw_held.ensures.next c.hold_joined.ensures.next
          g.P.Pipes.known.out_name g.P.Pipes.known.in_name c.in-Ok-make_first.made.end c.in-Ok-make_first.made.said.peer (g.H.Holder.holding c.make_first.new.holder) c.in-Ok-make_first.ensures.ok
          (c.hold_joined.ensures.stands (draws c.args.o.first.0 c.args.o.last.0 w.control) (c.in-Ok-draw_held.ensures.ok w.control w.stands));
    }

pub returns-in-Ok-make_first-clause-ok : goal.returns-in-Ok-make_first-clause-ok
returns-in-Ok-make_first-clause-ok g c = λ w.
    let said = c.in-Ok-make_first.ensures.said _ (c.in-Ok-draw_held.ensures.ok w.control w.stands) in
    let first = end_of c.in-Ok-draw_held.pair.0 true in
    connects c.args.state.now (g.H.Holder.holding c.args.holder.now) c.args.o (length c.args.wakers.now) w c.in-Ok-draw_held.pair c.in-Ok-draw_held.ensures.number
    c.draw_held.new.state c.hold_joined.new.state c.args.at (joined_at c.args.at c.in-Ok-draw_held.pair) c.in-Ok-draw_held.ensures.next c.hold_joined.ensures.next
    g.P.Pipes.known.out_name g.P.Pipes.known.in_name c.in-Ok-make_first.made.end c.in-Ok-make_first.made.said.peer (g.H.Holder.holding c.make_first.new.holder) c.in-Ok-make_first.ensures.ok
    (c.hold_joined.ensures.stands (draws c.args.o.first.0 c.args.o.last.0 w.control) (c.in-Ok-draw_held.ensures.ok w.control w.stands))
    c.in-Ok-make_first.made.said.identity said.identity said.peer c.join_pair.new.state (g.H.Holder.holding c.join_pair.new.holder) c.note.new.self
    (c.join_pair.ensures (may_join c.args.state.now (g.H.Holder.holding c.args.holder.now) c.args.o (length c.args.wakers.now) w c.in-Ok-draw_held.pair c.in-Ok-draw_held.ensures.number
    c.draw_held.new.state c.hold_joined.new.state c.args.at (joined_at c.args.at c.in-Ok-draw_held.pair) c.in-Ok-draw_held.ensures.next c.hold_joined.ensures.next
    g.P.Pipes.known.out_name g.P.Pipes.known.in_name c.in-Ok-make_first.made.end c.in-Ok-make_first.made.said.peer (g.H.Holder.holding c.make_first.new.holder) c.in-Ok-make_first.ensures.ok
    (c.hold_joined.ensures.stands (draws c.args.o.first.0 c.args.o.last.0 w.control) (c.in-Ok-draw_held.ensures.ok w.control w.stands))))
    (c.note.ensures.joined ∙ ap (λ (xs : List (Joining g.row.P-Name.Denot)). xs ++ joins_named first c.in-Ok-make_first.made.said.peer c.in-Ok-make_first.made.end.answer c.in-Ok-make_first.made.end.told ∷ []) c.in-Ok.ensures.joined)
    (c.note.ensures.opened ∙ ap (λ (xs : List (PipeName g.row.P-Name.Denot)). xs ++ pipes_named first c.in-Ok-make_first.made.end.opened) c.in-Ok.ensures.opened)

pub returns-in-Err-make_first-clause-err : goal.returns-in-Err-make_first-clause-err
returns-in-Err-make_first-clause-err g c =
    c.undraw_held.ensures (record { before = c.args.state.now; places = c.requires.may.places; is = c.in-Ok-draw_held.ensures.next })

pub draw_held-requires-clause-there : goal.draw_held-requires-clause-there
draw_held-requires-clause-there g c = c.requires.may.places

pub draw_held-requires-clause-few : goal.draw_held-requires-clause-few
draw_held-requires-clause-few g c = few_numbers c.args.state.now (g.H.Holder.holding c.args.holder.now) c.args.o (length c.args.wakers.now) c.requires.may

pub note-requires : goal.note-requires
note-requires g c = record { room = c.in-Ok.ensures.room }

pub undraw_held-requires-clause-drawn : goal.undraw_held-requires-clause-drawn
undraw_held-requires-clause-drawn g c =
    record { before = c.args.state.now; places = c.requires.may.places; is = c.in-Ok-draw_held.ensures.next }

pub undraw_held-requires-clause-last : goal.undraw_held-requires-clause-last
undraw_held-requires-clause-last g c =
    drawn_last c.args.state.now (g.H.Holder.holding c.args.holder.now) c.args.o (length c.args.wakers.now) c.requires.may c.in-Ok-draw_held.pair c.in-Ok-draw_held.ensures.number c.draw_held.new.state c.in-Ok-draw_held.ensures.next

pub returns-in-Err-make_first-clause-stays : goal.returns-in-Err-make_first-clause-stays
returns-in-Err-make_first-clause-stays g c = c.in-Err-make_first.ensures.err

pub returns-in-Err-make_first-clause-keeps : goal.returns-in-Err-make_first-clause-keeps
returns-in-Err-make_first-clause-keeps g c = c.in-Err-make_first.ensures.keeps

pub returns-in-Err-make_first-clause-heard : goal.returns-in-Err-make_first-clause-heard
returns-in-Err-make_first-clause-heard g c = c.in-Err-make_first.ensures.heard

pub returns-in-Err-clause-err : goal.returns-in-Err-clause-err
returns-in-Err-clause-err g c = refl

pub returns-in-Err-clause-stays : goal.returns-in-Err-clause-stays
returns-in-Err-clause-stays g c = stays_itself c.args.o.first.0 (g.H.Holder.holding c.args.holder.now)

pub returns-in-Err-clause-keeps : goal.returns-in-Err-clause-keeps
returns-in-Err-clause-keeps g c = keeps_same (g.H.Holder.holding c.args.holder.now)

pub returns-in-Err-clause-heard : goal.returns-in-Err-clause-heard
returns-in-Err-clause-heard g c = refl

pub returns-in-Err-draw_held-clause-err : goal.returns-in-Err-draw_held-clause-err
returns-in-Err-draw_held-clause-err g c = c.in-Err-draw_held.ensures.err

pub returns-in-Err-draw_held-clause-stays : goal.returns-in-Err-draw_held-clause-stays
returns-in-Err-draw_held-clause-stays g c = stays_itself c.args.o.first.0 (g.H.Holder.holding c.args.holder.now)

pub returns-in-Err-draw_held-clause-keeps : goal.returns-in-Err-draw_held-clause-keeps
returns-in-Err-draw_held-clause-keeps g c = keeps_same (g.H.Holder.holding c.args.holder.now)

pub returns-in-Err-draw_held-clause-heard : goal.returns-in-Err-draw_held-clause-heard
returns-in-Err-draw_held-clause-heard g c = refl
