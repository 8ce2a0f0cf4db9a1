use Rattle.std.specs.Prelude.{◌<◌, ℕ, length}
use Rattle.std.proofs.Common.{sym, ap, ◌∙◌, subst}
use Rattle.desk.specs.declared.load.Load.{Load}
use Rattle.ctl_state.specs.declared.state.State.{State}
use Rattle.ctl_moves.specs.Drawing.{AreTaken}
use Rattle.ctl_moves.proofs.TakenLemmas.{drawn_lists}
use Rattle.ctl_plane.proofs.FulfillingLemmas.{fulfils, may_join_all}
use Rattle.ctl_state.proofs.KeptLemmas.{so_on_err}
use Rattle.ctl_plane.proofs.fulfilling.fulfil_all.Goals as goal

pub take_name-requires-clause-there : goal.take_name-requires-clause-there
take_name-requires-clause-there g c =
    let w = c.requires.may in
    let draws = c.in_ok-batch.ensures.ok w.draw in
    subst (λ (n : ℕ). c.args.socket.0 < n)
    (sym (ap (λ (x : State (Load g.row.P-Name.Denot g.row.P-Out.Denot g.row.P-In.Denot)). length x.objects.lists) draws.taken.is ∙ drawn_lists c.in_ok-batch.batch.drawn.items c.args.state.now)) w.draw.mine.list

pub take_name-requires-clause-free : goal.take_name-requires-clause-free
take_name-requires-clause-free g c =
    let w = c.requires.may in
    record { control = _; stands = (c.in_ok-batch.ensures.ok w.draw).stands; is = w.free }

pub join_all-requires : goal.join_all-requires
join_all-requires g c = record { may = may_join_all g.P.Pipes.known.out_name g.P.Pipes.known.in_name c.args.state.now (g.H.Holder.holding c.args.holder.now) c.args.socket c.args.at.now c.args.waiters.now (length c.args.wakers.now) c.requires.may c.in_ok-batch.batch.drawn.items c.in_ok-batch.batch.notes c.draw_all.new.state c.take_name.new.state (g.H.Holder.holding c.draw_all.new.holder) (c.in_ok-batch.ensures.ok c.requires.may.draw) c.in-Ok.ensures.ok c.take_name.ensures.boxes c.in-Ok.ensures.ends }

pub returns-in-Ok-clause-ok : goal.returns-in-Ok-clause-ok
returns-in-Ok-clause-ok g c = λ w.
    fulfils g.P.Pipes.known.out_name g.P.Pipes.known.in_name c.args.state.now (g.H.Holder.holding c.args.holder.now) c.args.socket c.args.at.now c.args.waiters.now (length c.args.wakers.now) w c.in_ok-batch.batch.drawn.items c.in_ok-batch.batch.notes c.draw_all.new.state c.take_name.new.state (g.H.Holder.holding c.draw_all.new.holder) (c.in_ok-batch.ensures.ok w.draw) c.in-Ok.ensures.ok c.take_name.ensures.boxes c.in-Ok.ensures.ends c.join_all.new.state (g.H.Holder.holding c.join_all.new.holder) (c.join_all.ensures.stands (may_join_all g.P.Pipes.known.out_name g.P.Pipes.known.in_name c.args.state.now (g.H.Holder.holding c.args.holder.now) c.args.socket c.args.at.now c.args.waiters.now (length c.args.wakers.now) w c.in_ok-batch.batch.drawn.items c.in_ok-batch.batch.notes c.draw_all.new.state c.take_name.new.state (g.H.Holder.holding c.draw_all.new.holder) (c.in_ok-batch.ensures.ok w.draw) c.in-Ok.ensures.ok c.take_name.ensures.boxes c.in-Ok.ensures.ends)) (c.join_all.ensures.joins (may_join_all g.P.Pipes.known.out_name g.P.Pipes.known.in_name c.args.state.now (g.H.Holder.holding c.args.holder.now) c.args.socket c.args.at.now c.args.waiters.now (length c.args.wakers.now) w c.in_ok-batch.batch.drawn.items c.in_ok-batch.batch.notes c.draw_all.new.state c.take_name.new.state (g.H.Holder.holding c.draw_all.new.holder) (c.in_ok-batch.ensures.ok w.draw) c.in-Ok.ensures.ok c.take_name.ensures.boxes c.in-Ok.ensures.ends)) (c.join_all.ensures.moves (may_join_all g.P.Pipes.known.out_name g.P.Pipes.known.in_name c.args.state.now (g.H.Holder.holding c.args.holder.now) c.args.socket c.args.at.now c.args.waiters.now (length c.args.wakers.now) w c.in_ok-batch.batch.drawn.items c.in_ok-batch.batch.notes c.draw_all.new.state c.take_name.new.state (g.H.Holder.holding c.draw_all.new.holder) (c.in_ok-batch.ensures.ok w.draw) c.in-Ok.ensures.ok c.take_name.ensures.boxes c.in-Ok.ensures.ends))

pub returns-in-Err-clause-err : goal.returns-in-Err-clause-err
returns-in-Err-clause-err g c = c.undraw_all.ensures.state (record { before = c.args.state.now; had = (g.H.Holder.holding c.args.holder.now); taken = subst (λ (x : State (Load g.row.P-Name.Denot g.row.P-Out.Denot g.row.P-In.Denot)). AreTaken c.args.socket.0 c.in_ok-batch.batch.drawn.items c.args.state.now x (g.H.Holder.holding c.args.holder.now) (g.H.Holder.holding c.draw_all.new.holder)) (sym c.in-Err.ensures.err) (c.in_ok-batch.ensures.ok c.requires.may.draw).taken })

pub returns-in-Err-clause-back : goal.returns-in-Err-clause-back
returns-in-Err-clause-back g c = c.undraw_all.ensures.back (record { before = c.args.state.now; had = (g.H.Holder.holding c.args.holder.now); taken = subst (λ (x : State (Load g.row.P-Name.Denot g.row.P-Out.Denot g.row.P-In.Denot)). AreTaken c.args.socket.0 c.in_ok-batch.batch.drawn.items c.args.state.now x (g.H.Holder.holding c.args.holder.now) (g.H.Holder.holding c.draw_all.new.holder)) (sym c.in-Err.ensures.err) (c.in_ok-batch.ensures.ok c.requires.may.draw).taken })

pub undraw_all-requires-clause-taken : goal.undraw_all-requires-clause-taken
undraw_all-requires-clause-taken g c = record { before = c.args.state.now; had = (g.H.Holder.holding c.args.holder.now); taken = subst (λ (x : State (Load g.row.P-Name.Denot g.row.P-Out.Denot g.row.P-In.Denot)). AreTaken c.args.socket.0 c.in_ok-batch.batch.drawn.items c.args.state.now x (g.H.Holder.holding c.args.holder.now) (g.H.Holder.holding c.draw_all.new.holder)) (sym c.in-Err.ensures.err) (c.in_ok-batch.ensures.ok c.requires.may.draw).taken }

pub undraw_all-requires-clause-calm : goal.undraw_all-requires-clause-calm
undraw_all-requires-clause-calm g c = c.in_ok-batch.ensures.calm

pub draw_all-requires-clause-may : goal.draw_all-requires-clause-may
draw_all-requires-clause-may g c = c.requires.may.draw

pub draw_all-requires-clause-calm : goal.draw_all-requires-clause-calm
draw_all-requires-clause-calm g c = c.requires.calm

pub draw_all-requires-clause-makes : goal.draw_all-requires-clause-makes
draw_all-requires-clause-makes g c = c.requires.makes

pub take_name-requires-clause-copy : goal.take_name-requires-clause-copy
take_name-requires-clause-copy g c = c.requires.copy

pub returns-in_err-batch-clause-err : goal.returns-in_err-batch-clause-err
returns-in_err-batch-clause-err g c = so_on_err _ _ c.in_err-batch.ensures.err

pub returns-in_err-batch-clause-back : goal.returns-in_err-batch-clause-back
returns-in_err-batch-clause-back g c = so_on_err _ _ c.in_err-batch.ensures.back
