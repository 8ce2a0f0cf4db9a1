use Rattle.std.specs.Prelude.{◌+◌, ◌-◌, List, length, slice_index_or, refl}
use Rattle.std.proofs.Common.{arith, ap, sym, subst}
use Rattle.std.proofs.lemmas.List.{get_or_default}
use Rattle.ctl_moves.specs.declared.batch.Drawn.{Drawn}
use Rattle.ctl_moves.specs.declared.batch.Batch.{Batch}
use Rattle.ctl_moves.specs.Batch.{drawn_ends}
use Rattle.ctl_moves.proofs.DrawAllLemmas.{all_drawn, may_draw_next, may_make_next, none_drawn, one_drawn, one_fits, were_taken}
use Rattle.ctl_state.proofs.KeptLemmas.{so_on_err}
use Rattle.ctl_moves.proofs.TakenLemmas.{back_itself}
use Rattle.std.proofs.lemmas.Result.{IfOk-from_err}
use Rattle.ctl_moves.proofs.bind_drawing.draw_all.Goals as goal

pub waiters-init : goal.waiters-init
waiters-init g c = record {
  draws = none_drawn g.P.Pipes.known.out_name g.P.Pipes.known.in_name c.args.state.now (g.H.Holder.holding c.args.holder.now) c.args.socket c.args.waiters.now (length c.args.wakers.now) c.in_ok-batch.batch c.in_ok-batch.ensures.drawn c.in_ok-batch.ensures.joined c.in_ok-batch.ensures.opened;
  room =
      (let fits = c.in_ok-batch.ensures.room in
      let few = c.requires.may.few_pairs in
      let drawn = fits.drawn in
      let joined = fits.notes.joined in
      let opened = fits.notes.opened in
      record {
        drawn = omega (arith, drawn, few);
        notes = record { joined = omega (arith, joined, few); opened = omega (arith, opened, few) };
      });
  calm = subst (λ (ds : List (Drawn g.row.P-Name.Denot g.row.P-Out.Denot g.row.P-In.Denot)). g.H.Holder.calm c.args.holder.now (drawn_ends ds)) (sym c.in_ok-batch.ensures.drawn) c.requires.calm;
}

pub draw_one-requires-clause-may : goal.draw_one-requires-clause-may
draw_one-requires-clause-may g c =
    may_draw_next g.P.Pipes.known.out_name g.P.Pipes.known.in_name c.args.state.now (g.H.Holder.holding c.args.holder.now) c.args.socket c.args.waiters.now (length c.args.wakers.now) c.waiters.place c.waiters-test.true c.waiters.state (g.H.Holder.holding c.waiters.holder) c.waiters.batch (slice_index_or c.args.waiters.now c.waiters.place (record { 0 = 0 })) (get_or_default c.args.waiters.now c.waiters.place (record { 0 = 0 }) (slice_index_or c.args.waiters.now c.waiters.place (record { 0 = 0 })) c.waiters-test.true) c.requires.may (c.waiters.invariant.draws c.requires.may) c.waiters.invariant.room

pub draw_one-requires-clause-calm : goal.draw_one-requires-clause-calm
draw_one-requires-clause-calm g c =
    c.waiters.invariant.calm

pub draw_one-requires-clause-makes : goal.draw_one-requires-clause-makes
draw_one-requires-clause-makes g c =
    may_make_next g.P.Pipes.known.out_name g.P.Pipes.known.in_name c.args.state.now (g.H.Holder.holding c.args.holder.now) c.args.socket c.args.waiters.now (length c.args.wakers.now) c.waiters.place c.waiters-test.true c.waiters.state (g.H.Holder.holding c.waiters.holder) c.waiters.batch (slice_index_or c.args.waiters.now c.waiters.place (record { 0 = 0 })) (get_or_default c.args.waiters.now c.waiters.place (record { 0 = 0 }) (slice_index_or c.args.waiters.now c.waiters.place (record { 0 = 0 })) c.waiters-test.true) c.requires.makes.may (c.waiters.invariant.draws c.requires.makes.may) g.H.Holder.may_make c.requires.makes.makes

pub undraw_all-requires-clause-taken : goal.undraw_all-requires-clause-taken
undraw_all-requires-clause-taken g c =
    were_taken g.P.Pipes.known.out_name g.P.Pipes.known.in_name c.args.state.now (g.H.Holder.holding c.args.holder.now) c.args.socket c.args.waiters.now (length c.args.wakers.now) c.waiters.place c.waiters-test.true c.waiters.state (g.H.Holder.holding c.waiters.holder) c.waiters.batch (slice_index_or c.args.waiters.now c.waiters.place (record { 0 = 0 })) (get_or_default c.args.waiters.now c.waiters.place (record { 0 = 0 }) (slice_index_or c.args.waiters.now c.waiters.place (record { 0 = 0 })) c.waiters-test.true) c.requires.may (c.waiters.invariant.draws c.requires.may) c.draw_one.new.state (g.H.Holder.holding c.draw_one.new.holder) c.draw_one.new.batch.drawn.items c.in-Err.ensures.err.0
    (ap (λ (b : Batch g.row.P-Name.Denot g.row.P-Out.Denot g.row.P-In.Denot). b.drawn.items) c.in-Err.ensures.err.1) c.in-Err.ensures.stays c.in-Err.ensures.quiet c.in-Err.ensures.heard

pub undraw_all-requires-clause-calm : goal.undraw_all-requires-clause-calm
undraw_all-requires-clause-calm g c =
    c.draw_one.ensures.calm

pub returns-in-Err-clause-err : goal.returns-in-Err-clause-err
returns-in-Err-clause-err g c =
    c.undraw_all.ensures.state (were_taken g.P.Pipes.known.out_name g.P.Pipes.known.in_name c.args.state.now (g.H.Holder.holding c.args.holder.now) c.args.socket c.args.waiters.now (length c.args.wakers.now) c.waiters.place c.waiters-test.true c.waiters.state (g.H.Holder.holding c.waiters.holder) c.waiters.batch (slice_index_or c.args.waiters.now c.waiters.place (record { 0 = 0 })) (get_or_default c.args.waiters.now c.waiters.place (record { 0 = 0 }) (slice_index_or c.args.waiters.now c.waiters.place (record { 0 = 0 })) c.waiters-test.true) c.requires.may (c.waiters.invariant.draws c.requires.may) c.draw_one.new.state (g.H.Holder.holding c.draw_one.new.holder) c.draw_one.new.batch.drawn.items c.in-Err.ensures.err.0
    (ap (λ (b : Batch g.row.P-Name.Denot g.row.P-Out.Denot g.row.P-In.Denot). b.drawn.items) c.in-Err.ensures.err.1) c.in-Err.ensures.stays c.in-Err.ensures.quiet c.in-Err.ensures.heard)

pub returns-in-Err-clause-back : goal.returns-in-Err-clause-back
returns-in-Err-clause-back g c =
    c.undraw_all.ensures.back (were_taken g.P.Pipes.known.out_name g.P.Pipes.known.in_name c.args.state.now (g.H.Holder.holding c.args.holder.now) c.args.socket c.args.waiters.now (length c.args.wakers.now) c.waiters.place c.waiters-test.true c.waiters.state (g.H.Holder.holding c.waiters.holder) c.waiters.batch (slice_index_or c.args.waiters.now c.waiters.place (record { 0 = 0 })) (get_or_default c.args.waiters.now c.waiters.place (record { 0 = 0 }) (slice_index_or c.args.waiters.now c.waiters.place (record { 0 = 0 })) c.waiters-test.true) c.requires.may (c.waiters.invariant.draws c.requires.may) c.draw_one.new.state (g.H.Holder.holding c.draw_one.new.holder) c.draw_one.new.batch.drawn.items c.in-Err.ensures.err.0
    (ap (λ (b : Batch g.row.P-Name.Denot g.row.P-Out.Denot g.row.P-In.Denot). b.drawn.items) c.in-Err.ensures.err.1) c.in-Err.ensures.stays c.in-Err.ensures.quiet c.in-Err.ensures.heard)

pub waiters-preserved : goal.waiters-preserved
waiters-preserved g c = record {
  draws = λ w. one_drawn g.P.Pipes.known.out_name g.P.Pipes.known.in_name c.args.state.now (g.H.Holder.holding c.args.holder.now) c.args.socket c.args.waiters.now (length c.args.wakers.now) c.waiters.place c.waiters-test.true c.waiters.state (g.H.Holder.holding c.waiters.holder) c.waiters.batch (slice_index_or c.args.waiters.now c.waiters.place (record { 0 = 0 })) (get_or_default c.args.waiters.now c.waiters.place (record { 0 = 0 }) (slice_index_or c.args.waiters.now c.waiters.place (record { 0 = 0 })) c.waiters-test.true) w (c.waiters.invariant.draws w) c.draw_one.new.batch c.draw_one.new.state (g.H.Holder.holding c.draw_one.new.holder) (c.in-Ok.ensures.ok (may_draw_next g.P.Pipes.known.out_name g.P.Pipes.known.in_name c.args.state.now (g.H.Holder.holding c.args.holder.now) c.args.socket c.args.waiters.now (length c.args.wakers.now) c.waiters.place c.waiters-test.true c.waiters.state (g.H.Holder.holding c.waiters.holder) c.waiters.batch (slice_index_or c.args.waiters.now c.waiters.place (record { 0 = 0 })) (get_or_default c.args.waiters.now c.waiters.place (record { 0 = 0 }) (slice_index_or c.args.waiters.now c.waiters.place (record { 0 = 0 })) c.waiters-test.true) w (c.waiters.invariant.draws w) c.waiters.invariant.room));
  room = c.in-Ok.ensures.room (length c.args.waiters.now - (c.waiters.place + 1)) (one_fits g.P.Pipes.known.out_name g.P.Pipes.known.in_name c.args.state.now (g.H.Holder.holding c.args.holder.now) c.args.socket c.args.waiters.now (length c.args.wakers.now) c.waiters.place c.waiters-test.true c.waiters.state (g.H.Holder.holding c.waiters.holder) c.waiters.batch c.waiters.invariant.room);
  calm = c.draw_one.ensures.calm;
}

pub returns-clause-ok : goal.returns-clause-ok
returns-clause-ok g c = λ w. all_drawn g.P.Pipes.known.out_name g.P.Pipes.known.in_name c.args.state.now (g.H.Holder.holding c.args.holder.now) c.args.socket c.args.waiters.now (length c.args.wakers.now) c.waiters.place (let end = c.waiters.auto.place-end in omega arith) c.waiters.state (g.H.Holder.holding c.waiters.holder) c.waiters.batch w (c.waiters.invariant.draws w)

pub returns-clause-calm : goal.returns-clause-calm
returns-clause-calm g c = c.waiters.invariant.calm

pub returns-in_err-batch-clause-err : goal.returns-in_err-batch-clause-err
returns-in_err-batch-clause-err g c = so_on_err _ c.from_residual.result refl

pub returns-in_err-batch-clause-back : goal.returns-in_err-batch-clause-back
returns-in_err-batch-clause-back g c = so_on_err _ c.from_residual.result (back_itself (length c.args.state.now.pairs) c.args.socket.0 (g.H.Holder.holding c.args.holder.now))

pub returns-in_err-batch-clause-ok : goal.returns-in_err-batch-clause-ok
returns-in_err-batch-clause-ok g c = IfOk-from_err _ _ c.from_residual.ensures.0

pub returns-in_err-batch-clause-calm : goal.returns-in_err-batch-clause-calm
returns-in_err-batch-clause-calm g c = IfOk-from_err _ _ c.from_residual.ensures.0
