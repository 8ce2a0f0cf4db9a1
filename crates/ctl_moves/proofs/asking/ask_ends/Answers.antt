use Rattle.std.specs.Prelude.{◌<◌, List, length}
use Rattle.std.proofs.Common.{arith, ap, sym, ◌∙◌}
use Rattle.zq_base.specs.declared.ids.EndId.{EndId}
use Rattle.ctl_moves.proofs.AskLemmas.{none_so_far, root_asks_none, same_ends, asks_next, asked_next, all_asked}
use Rattle.ctl_moves.proofs.asking.ask_ends.Goals as goal

pub returns-then-at-eq0 : goal.returns-then-at-eq0
returns-then-at-eq0 g c = λ w.
    root_asks_none g.P.Pipes.known.out_name g.P.Pipes.known.in_name c.args.state.now (g.H.Holder.holding c.args.holder.now) c.args.at.0 c.args.reason c.args.delay c.if-at-eq0.true w

pub each-init : goal.each-init
each-init g c = none_so_far g.P.Pipes.known.out_name g.P.Pipes.known.in_name c.args.state.now (g.H.Holder.holding c.args.holder.now) c.args.at.0 c.args.reason c.args.delay

pub bounds-ends_of-place : goal.bounds-ends_of-place
bounds-ends_of-place g c =
    let w = c.requires.may in
    let same = c.ends_of.ensures _ (c.each.invariant w).stands
    ∙ same_ends g.P.Pipes.known.out_name g.P.Pipes.known.in_name c.args.state.now (g.H.Holder.holding c.args.holder.now) c.args.at.0 c.args.reason c.args.delay c.each.state (g.H.Holder.holding c.each.holder) c.each.place c.each.invariant w
    ∙ sym (c.ends_of-many.ensures w.control w.stands) in
    let long = ap (λ (es : List EndId). length es) same in
    omega (arith, long)

pub ask_end-requires : goal.ask_end-requires
ask_end-requires g c =
    let w = c.requires.may in
    let same = c.ends_of.ensures _ (c.each.invariant w).stands
    ∙ same_ends g.P.Pipes.known.out_name g.P.Pipes.known.in_name c.args.state.now (g.H.Holder.holding c.args.holder.now) c.args.at.0 c.args.reason c.args.delay c.each.state (g.H.Holder.holding c.each.holder) c.each.place c.each.invariant w
    ∙ sym (c.ends_of-many.ensures w.control w.stands) in
    let long = ap (λ (es : List EndId). length es) same in
    record {
      may = asks_next g.P.Pipes.known.out_name g.P.Pipes.known.in_name c.args.state.now (g.H.Holder.holding c.args.holder.now) c.args.at.0 c.args.reason c.args.delay c.each.state (g.H.Holder.holding c.each.holder) c.each.place c.each.invariant w
          c.ends_of.result.now (c.ends_of.ensures _ (c.each.invariant w).stands) _ (omega (arith, long)) c.if-at-eq0.false;
    }

pub each-preserved : goal.each-preserved
each-preserved g c = λ w.
    let same = c.ends_of.ensures _ (c.each.invariant w).stands
    ∙ same_ends g.P.Pipes.known.out_name g.P.Pipes.known.in_name c.args.state.now (g.H.Holder.holding c.args.holder.now) c.args.at.0 c.args.reason c.args.delay c.each.state (g.H.Holder.holding c.each.holder) c.each.place c.each.invariant w
    ∙ sym (c.ends_of-many.ensures w.control w.stands) in
    let long = ap (λ (es : List EndId). length es) same in
    let below : c.each.place < length c.ends_of.result.now = omega (arith, long) in
    asked_next g.P.Pipes.known.out_name g.P.Pipes.known.in_name c.args.state.now (g.H.Holder.holding c.args.holder.now) c.args.at.0 c.args.reason c.args.delay c.each.state (g.H.Holder.holding c.each.holder) c.each.place c.each.invariant w
    c.ends_of.result.now (c.ends_of.ensures _ (c.each.invariant w).stands) _ below c.ask_end.new.state (g.H.Holder.holding c.ask_end.new.holder)
    (c.ask_end.ensures (asks_next g.P.Pipes.known.out_name g.P.Pipes.known.in_name c.args.state.now (g.H.Holder.holding c.args.holder.now) c.args.at.0 c.args.reason c.args.delay c.each.state (g.H.Holder.holding c.each.holder) c.each.place c.each.invariant w
    c.ends_of.result.now (c.ends_of.ensures _ (c.each.invariant w).stands) _ below c.if-at-eq0.false))

pub returns : goal.returns
returns g c = λ w.
    let long = ap (λ (es : List EndId). length es) (c.ends_of-many.ensures w.control w.stands) in
    all_asked g.P.Pipes.known.out_name g.P.Pipes.known.in_name c.args.state.now (g.H.Holder.holding c.args.holder.now) c.args.at.0 c.args.reason c.args.delay c.each.state (g.H.Holder.holding c.each.holder) c.each.place c.each.invariant w (omega (arith, long))
