use Rattle.std.specs.Prelude.{IfOk, Option}
use Rattle.std.proofs.Common.{subst, sym}
use Rattle.zq_base.specs.declared.ids.EndId.{EndId}
use Rattle.ctl_moves.specs.Plugging.{MayPlug, TakesIn}
use Rattle.ctl_moves.proofs.plugging.plug_comes.Goals as goal

pub returns-in-None-clause-ok : goal.returns-in-None-clause-ok
returns-in-None-clause-ok g c =
    subst (λ (x : Option EndId). IfOk c.plug_listener.result (λ joined. (w : MayPlug g.P.Pipes.known.out_name g.P.Pipes.known.in_name c.args.state.now (g.H.Holder.holding c.args.holder.now) c.args.o.0 x c.args.load) →
    TakesIn g.P.Pipes.known.out_name g.P.Pipes.known.in_name w.names w.control c.args.o x joined c.args.state.now c.plug_listener.new.state (g.H.Holder.holding c.args.holder.now) (g.H.Holder.holding c.plug_listener.new.holder))) (sym c.in-None.is) c.plug_listener.ensures.ok

pub returns-in-Some-clause-ok : goal.returns-in-Some-clause-ok
returns-in-Some-clause-ok g c =
    subst (λ (x : Option EndId). IfOk c.plug_session.result (λ joined. (w : MayPlug g.P.Pipes.known.out_name g.P.Pipes.known.in_name c.args.state.now (g.H.Holder.holding c.args.holder.now) c.args.o.0 x c.args.load) →
    TakesIn g.P.Pipes.known.out_name g.P.Pipes.known.in_name w.names w.control c.args.o x joined c.args.state.now c.plug_session.new.state (g.H.Holder.holding c.args.holder.now) (g.H.Holder.holding c.plug_session.new.holder))) (sym c.in-Some.is) c.plug_session.ensures.ok
