use Rattle.std.specs.Prelude.{OnOk}
use Rattle.std.proofs.Common.{sym, subst}
use Rattle.zq_world.specs.ByEvents.{core_event, DoesEvent}
use Rattle.zq_world.proofs.events.step.Goals as goal

pub returns-in-Line-clause-ok : goal.returns-in-Line-clause-ok
returns-in-Line-clause-ok g c =
    subst (λ event. OnOk c.line.result (DoesEvent g.W.Sockets.as_open (core_event event) c.args.actors.now c.line.new.actors (g.W.Sockets.pieces c.args.way.now) (g.W.Sockets.pieces c.line.new.way))) (sym c.in-Line.is) c.line.ensures.ok

pub returns-in-Line-clause-agree : goal.returns-in-Line-clause-agree
returns-in-Line-clause-agree g c = c.line.ensures.agree

pub returns-in-Take-clause-ok : goal.returns-in-Take-clause-ok
returns-in-Take-clause-ok g c =
    subst (λ event. OnOk c.take.result (DoesEvent g.W.Sockets.as_open (core_event event) c.args.actors.now c.take.new.actors (g.W.Sockets.pieces c.args.way.now) (g.W.Sockets.pieces c.take.new.way))) (sym c.in-Take.is) c.take.ensures.ok

pub returns-in-Take-clause-agree : goal.returns-in-Take-clause-agree
returns-in-Take-clause-agree g c = c.take.ensures.agree

pub take-requires-clause-agree : goal.take-requires-clause-agree
take-requires-clause-agree g c = c.requires.agree

pub take-requires-clause-alone : goal.take-requires-clause-alone
take-requires-clause-alone g c = c.requires.alone

pub returns-in-Tick-clause-ok : goal.returns-in-Tick-clause-ok
returns-in-Tick-clause-ok g c = subst (λ event. DoesEvent g.W.Sockets.as_open (core_event event) c.args.actors.now c.args.actors.now (g.W.Sockets.pieces c.args.way.now) (g.W.Sockets.pieces c.args.way.now)) (sym c.in-Tick.is) c.tick.ensures

pub returns-in-Tick-clause-agree : goal.returns-in-Tick-clause-agree
returns-in-Tick-clause-agree g c = c.requires.agree
