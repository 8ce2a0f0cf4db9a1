use Rattle.std.specs.Prelude.{refl}
use Rattle.ctl_moves.proofs.BindingLemmas.{stays_all, bind_away, bind_coming, bind_takes, binds, joins_new}
use Rattle.ctl_moves.proofs.attaching.attach_end.Goals as goal

pub attach-requires-clause-here : goal.attach-requires-clause-here
attach-requires-clause-here g c = c.requires.may.binds.lent

pub attach-requires-clause-new : goal.attach-requires-clause-new
attach-requires-clause-new g c =
    joins_new g.P.Pipes.known.out_name g.P.Pipes.known.in_name c.args.state.now (g.H.Holder.holding c.args.holder.now) c.args.o c.args.e c.args.halves c.requires.may

pub bind-requires-clause-away : goal.bind-requires-clause-away
bind-requires-clause-away g c =
    let w = c.requires.may in
    bind_away g.P.Pipes.known.out_name g.P.Pipes.known.in_name c.args.state.now (g.H.Holder.holding c.args.holder.now) c.args.o c.args.e c.args.halves w (c.needs.ensures w.control w.stands)

pub bind-requires-clause-takes_end : goal.bind-requires-clause-takes_end
bind-requires-clause-takes_end g c =
    let w = c.requires.may in
    bind_takes g.P.Pipes.known.out_name g.P.Pipes.known.in_name c.args.state.now (g.H.Holder.holding c.args.holder.now) c.args.o c.args.e c.args.halves w (c.needs.ensures w.control w.stands)

pub bind-requires-clause-coming : goal.bind-requires-clause-coming
bind-requires-clause-coming g c =
    let w = c.requires.may in
    bind_coming g.P.Pipes.known.out_name g.P.Pipes.known.in_name c.args.state.now (g.H.Holder.holding c.args.holder.now) c.args.o c.args.e c.args.halves w (c.needs.ensures w.control w.stands)

pub returns-in-Ok-clause-ok : goal.returns-in-Ok-clause-ok
returns-in-Ok-clause-ok g c = λ w.
    binds g.P.Pipes.known.out_name g.P.Pipes.known.in_name c.args.state.now (g.H.Holder.holding c.args.holder.now) c.args.o c.args.e c.args.halves w c.bind.new.self (g.H.Holder.holding c.attach.new.self) c.in-Ok.answer
    (c.bind.ensures.stands w.control w.stands) c.bind.ensures.next c.in-Ok.ensures.ok c.in-Ok.ensures.turns c.in-Ok.ensures.refuses

pub returns-in-Err-clause-err : goal.returns-in-Err-clause-err
returns-in-Err-clause-err g c = (refl, stays_all c.args.o.0 (g.H.Holder.holding c.args.holder.now) (g.H.Holder.holding c.attach.new.self) c.in-Err.ensures.err.1)

pub returns-in-Err-clause-quiet : goal.returns-in-Err-clause-quiet
returns-in-Err-clause-quiet g c = c.in-Err.ensures.err.2
