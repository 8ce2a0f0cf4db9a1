use Rattle.std.specs.Prelude.{List, false, length, refl}
use Rattle.zq_base.specs.declared.ids.EndId.{EndId}
use Rattle.ctl_moves.specs.Batch.{drawn_ends}
use Rattle.ctl_moves.proofs.PapersLemmas.{drawn_makes, drawn_papers}
use Rattle.ctl_moves.proofs.BindCameLemmas.{drawn_more}
use Rattle.std.proofs.Common.{ap, sym, ◌∙◌, subst}
use Rattle.ctl_moves.proofs.DrawLemmas.{draws_now, drawn_now, few_numbers, first_waker, last_number, last_waker, makes_now, not_there, places_now}
use Rattle.ctl_moves.proofs.TurnLemmas.{keeps_same}
use Rattle.ctl_state.proofs.KeptLemmas.{so_on_err}
use Rattle.ctl_moves.proofs.TakenLemmas.{stays_itself}
use Rattle.std.proofs.lemmas.Result.{IfOk-from_err}
use Rattle.ctl_moves.proofs.bind_drawing.draw_one.Goals as goal

pub draw_pair-requires-clause-there : goal.draw_pair-requires-clause-there
draw_pair-requires-clause-there g c =
    places_now g.P.Pipes.known.out_name g.P.Pipes.known.in_name c.args.state.now (g.H.Holder.holding c.args.holder.now) c.args.socket c.args.waiter c.args.batch.now (length c.args.wakers.now) c.requires.may c.of-o.result (c.of-o.ensures _ c.requires.may.draws.stands)

pub draw_pair-requires-clause-few : goal.draw_pair-requires-clause-few
draw_pair-requires-clause-few g c =
    few_numbers g.P.Pipes.known.out_name g.P.Pipes.known.in_name c.args.state.now (g.H.Holder.holding c.args.holder.now) c.args.socket c.args.waiter c.args.batch.now (length c.args.wakers.now) c.requires.may

pub make_first-requires-clause-mine : goal.make_first-requires-clause-mine
make_first-requires-clause-mine g c =
    first_waker g.P.Pipes.known.out_name g.P.Pipes.known.in_name c.args.state.now (g.H.Holder.holding c.args.holder.now) c.args.socket c.args.waiter c.args.batch.now (length c.args.wakers.now) c.requires.may c.of-o.result (c.of-o.ensures _ c.requires.may.draws.stands)

pub make_first-requires-clause-theirs : goal.make_first-requires-clause-theirs
make_first-requires-clause-theirs g c =
    last_waker g.P.Pipes.known.out_name g.P.Pipes.known.in_name c.args.state.now (g.H.Holder.holding c.args.holder.now) c.args.socket c.args.waiter c.args.batch.now (length c.args.wakers.now) c.requires.may c.of-o.result (c.of-o.ensures _ c.requires.may.draws.stands)

pub make_first-requires-clause-makes : goal.make_first-requires-clause-makes
make_first-requires-clause-makes g c =
    drawn_makes c.args.state.now c.draw_pair.new.state c.of-o.result.last.0 c.of-o.result.first.0 c.of-o.result false g.H.Holder.may_make c.in_ok-pair.pair c.in_ok-pair.ensures.number c.in_ok-pair.ensures.ok
    (makes_now g.P.Pipes.known.out_name g.P.Pipes.known.in_name c.args.state.now (g.H.Holder.holding c.args.holder.now) c.args.socket c.args.waiter c.args.batch.now (length c.args.wakers.now) c.requires.may c.of-o.result (c.of-o.ensures _ c.requires.may.draws.stands) _ g.H.Holder.may_make c.requires.makes)

pub make_first-requires-clause-here : goal.make_first-requires-clause-here
make_first-requires-clause-here g c =
    c.requires.may.draws.taken.gets.objects c.args.socket.0 ∙ c.requires.may.may.lent

pub make_first-requires-clause-new : goal.make_first-requires-clause-new
make_first-requires-clause-new g c =
    not_there g.P.Pipes.known.out_name g.P.Pipes.known.in_name c.args.state.now (g.H.Holder.holding c.args.holder.now) c.args.socket c.args.waiter c.args.batch.now (length c.args.wakers.now) c.requires.may c.of-o.result (c.of-o.ensures _ c.requires.may.draws.stands) c.in_ok-pair.pair c.in_ok-pair.ensures.number

pub make_first-requires-clause-calm : goal.make_first-requires-clause-calm
make_first-requires-clause-calm g c =
    (drawn_ends c.args.batch.now.drawn.items, c.requires.calm)

pub push-requires : goal.push-requires
push-requires g c = record { fits = c.requires.may.fits }

pub undraw_pair-requires-clause-drawn : goal.undraw_pair-requires-clause-drawn
undraw_pair-requires-clause-drawn g c =
    drawn_now g.P.Pipes.known.out_name g.P.Pipes.known.in_name c.args.state.now (g.H.Holder.holding c.args.holder.now) c.args.socket c.args.waiter c.args.batch.now (length c.args.wakers.now) c.requires.may c.of-o.result (c.of-o.ensures _ c.requires.may.draws.stands) c.in_ok-pair.pair c.in_ok-pair.ensures.number c.draw_pair.new.state c.in_ok-pair.ensures.next

pub undraw_pair-requires-clause-last : goal.undraw_pair-requires-clause-last
undraw_pair-requires-clause-last g c =
    last_number g.P.Pipes.known.out_name g.P.Pipes.known.in_name c.args.state.now (g.H.Holder.holding c.args.holder.now) c.args.socket c.args.waiter c.args.batch.now (length c.args.wakers.now) c.requires.may c.of-o.result (c.of-o.ensures _ c.requires.may.draws.stands) c.in_ok-pair.pair c.in_ok-pair.ensures.number c.draw_pair.new.state c.in_ok-pair.ensures.next

pub returns-in-Ok-clause-ok : goal.returns-in-Ok-clause-ok
returns-in-Ok-clause-ok g c = λ w.
    let are = c.of-o.ensures _ w.draws.stands in
    let stands = c.in_ok-pair.ensures.ok _ w.draws.stands in
    draws_now g.P.Pipes.known.out_name g.P.Pipes.known.in_name c.args.state.now (g.H.Holder.holding c.args.holder.now) c.args.socket c.args.waiter c.args.batch.now (length c.args.wakers.now) w c.of-o.result are
    c.in_ok-pair.pair c.in_ok-pair.ensures.number c.draw_pair.new.state c.in_ok-pair.ensures.next stands c.in-Ok.made.said (drawn_papers _ _ _ _ _ (c.in-Ok.ensures.said _ stands))
    c.in-Ok.made.end (g.H.Holder.holding c.make_first.new.holder) c.in-Ok.ensures.ok c.push.new.self c.push.ensures.drawn c.push.ensures.joined c.push.ensures.opened

pub returns-in-Ok-clause-room : goal.returns-in-Ok-clause-room
returns-in-Ok-clause-room g c = c.push.ensures.room

pub returns-in-Err-clause-err : goal.returns-in-Err-clause-err
returns-in-Err-clause-err g c =
    (c.undraw_pair.ensures (drawn_now g.P.Pipes.known.out_name g.P.Pipes.known.in_name c.args.state.now (g.H.Holder.holding c.args.holder.now) c.args.socket c.args.waiter c.args.batch.now (length c.args.wakers.now) c.requires.may c.of-o.result (c.of-o.ensures _ c.requires.may.draws.stands) c.in_ok-pair.pair c.in_ok-pair.ensures.number c.draw_pair.new.state c.in_ok-pair.ensures.next), refl)

pub returns-in-Ok-clause-calm : goal.returns-in-Ok-clause-calm
returns-in-Ok-clause-calm g c =
    subst (λ (es : List EndId). g.H.Holder.calm c.make_first.new.holder es)
    (sym (ap drawn_ends c.push.ensures.drawn ∙ drawn_more c.args.batch.now.drawn.items _))
    (c.in-Ok.ensures.calm (drawn_ends c.args.batch.now.drawn.items) c.requires.calm)

pub returns-in-Err-clause-stays : goal.returns-in-Err-clause-stays
returns-in-Err-clause-stays g c = c.in-Err.ensures.err

pub returns-in-Err-clause-quiet : goal.returns-in-Err-clause-quiet
returns-in-Err-clause-quiet g c = c.in-Err.ensures.keeps

pub returns-in-Err-clause-heard : goal.returns-in-Err-clause-heard
returns-in-Err-clause-heard g c = c.in-Err.ensures.heard

pub returns-in-Err-clause-calm : goal.returns-in-Err-clause-calm
returns-in-Err-clause-calm g c = c.in-Err.ensures.still (drawn_ends c.args.batch.now.drawn.items) c.requires.calm

pub returns-in_err-pair-clause-err : goal.returns-in_err-pair-clause-err
returns-in_err-pair-clause-err g c = so_on_err _ c.from_residual.result (c.in_err-pair.ensures.err, refl)

pub returns-in_err-pair-clause-stays : goal.returns-in_err-pair-clause-stays
returns-in_err-pair-clause-stays g c = so_on_err _ c.from_residual.result (stays_itself c.args.socket.0 (g.H.Holder.holding c.args.holder.now))

pub returns-in_err-pair-clause-quiet : goal.returns-in_err-pair-clause-quiet
returns-in_err-pair-clause-quiet g c = so_on_err _ c.from_residual.result (keeps_same (g.H.Holder.holding c.args.holder.now))

pub returns-in_err-pair-clause-heard : goal.returns-in_err-pair-clause-heard
returns-in_err-pair-clause-heard g c = so_on_err _ c.from_residual.result refl

pub returns-in_err-pair-clause-calm : goal.returns-in_err-pair-clause-calm
returns-in_err-pair-clause-calm g c = c.requires.calm

pub returns-in_err-pair-clause-ok : goal.returns-in_err-pair-clause-ok
returns-in_err-pair-clause-ok g c = IfOk-from_err _ _ c.from_residual.ensures.0

pub returns-in_err-pair-clause-room : goal.returns-in_err-pair-clause-room
returns-in_err-pair-clause-room g c = IfOk-from_err _ _ c.from_residual.ensures.0
