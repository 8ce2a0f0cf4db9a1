use Rattle.std.proofs.Common.{sym, subst, arith}
use Rattle.std.proofs.lemmas.Option.{slice_get_past}
use Rattle.std.proofs.lemmas.Result.{on_ok_weaker}
use Rattle.zq_world.specs.Stepping.{ActorAgrees, StepsSo}
use Rattle.zq_world.proofs.StepLemmas.{agree_then, read_here}
use Rattle.zq_world.proofs.EventLemmas.{one_more_line, one_no_line}
use Rattle.zq_world.proofs.events.line.Goals as goal

pub returns-then-actor-actors-clause-ok : goal.returns-then-actor-actors-clause-ok
returns-then-actor-actors-clause-ok g c =
    on_ok_weaker c.step.result
    (λ h. one_more_line g.W.Sockets.as_open c.args.actor c.args.actors.now c.index-actors-actor.result c.step.new.self (g.W.Sockets.pieces c.args.way.now) (g.W.Sockets.pieces c.step.new.way)
    (read_here c.args.actors.now c.args.actor c.index-actors-actor.result c.if-actor-actors.true c.index-actors-actor.is)
    (subst (λ a. StepsSo g.W.Sockets.as_open c.args.actor a c.step.new.self (g.W.Sockets.pieces c.args.way.now) (g.W.Sockets.pieces c.step.new.way)) (sym c.index-actors-actor.is) h))
    c.step.ensures.ok

pub returns-then-actor-actors-clause-agree : goal.returns-then-actor-actors-clause-agree
returns-then-actor-actors-clause-agree g c =
    agree_then g.W.Sockets.as_open g.W.Sockets.agrees g.W.Sockets.was_made c.args.way.now c.step.new.way c.args.actors.now c.args.actor c.index-actors-actor.result c.step.new.self
    (read_here c.args.actors.now c.args.actor c.index-actors-actor.result c.if-actor-actors.true c.index-actors-actor.is) c.requires.agree c.step.ensures.agrees c.step.ensures.others

pub returns-clause-ok : goal.returns-clause-ok
returns-clause-ok g c =
    one_no_line g.W.Sockets.as_open c.args.actor c.args.actors.now (g.W.Sockets.pieces c.args.way.now) (slice_get_past c.args.actors.now c.args.actor (omega (arith, c.if-actor-actors.false)))

pub step-requires : goal.step-requires
step-requires g c = record {
  agrees = subst (λ a. ActorAgrees g.W.Sockets.as_open g.W.Sockets.agrees g.W.Sockets.was_made c.args.way.now c.args.actor a) c.index-actors-actor.is
      (c.requires.agree c.args.actor c.index-actors-actor.result
      (read_here c.args.actors.now c.args.actor c.index-actors-actor.result c.if-actor-actors.true c.index-actors-actor.is));
}

pub returns-clause-agree : goal.returns-clause-agree
returns-clause-agree g c = c.requires.agree
