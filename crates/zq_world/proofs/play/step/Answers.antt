use Rattle.std.proofs.Common.{sym, subst, arith}
use Rattle.std.proofs.lemmas.Result.{on_ok_weaker}
use Rattle.zq_world.specs.Stepping.{ActorAgrees, StepsSo}
use Rattle.zq_world.specs.CoreCalls.{IsReaper}
use Rattle.zq_world.proofs.StepLemmas.{actor_is, reaper_is, server_is, agree_then, agree_still, read_here}
use Rattle.zq_world.proofs.play.step.Goals as goal

pub returns-then-worker-actors-clause-ok : goal.returns-then-worker-actors-clause-ok
returns-then-worker-actors-clause-ok g c =
    on_ok_weaker c.step.result
    (λ h. actor_is g.W.Sockets.as_open c.args.worker c.args.actors.now c.index-actors-worker.result c.step.new.self (g.W.Sockets.pieces c.args.way.now) (g.W.Sockets.pieces c.step.new.way) c.if-worker-actors.true c.index-actors-worker.is
    (subst (λ a. StepsSo g.W.Sockets.as_open c.args.worker a c.step.new.self (g.W.Sockets.pieces c.args.way.now) (g.W.Sockets.pieces c.step.new.way)) (sym c.index-actors-worker.is) h))
    c.step.ensures.ok

pub returns-then-worker-actors-clause-agree : goal.returns-then-worker-actors-clause-agree
returns-then-worker-actors-clause-agree g c =
    agree_then g.W.Sockets.as_open g.W.Sockets.agrees g.W.Sockets.was_made c.args.way.now c.step.new.way c.args.actors.now c.args.worker c.index-actors-worker.result c.step.new.self
    (read_here c.args.actors.now c.args.worker c.index-actors-worker.result c.if-worker-actors.true c.index-actors-worker.is) c.requires.agree c.step.ensures.agrees c.step.ensures.others

pub returns-then-worker-actors-2-clause-ok : goal.returns-then-worker-actors-2-clause-ok
returns-then-worker-actors-2-clause-ok g c =
    on_ok_weaker c.reap_one.result
    (λ h. reaper_is g.W.Sockets.as_open c.args.worker c.args.actors.now (g.W.Sockets.pieces c.args.way.now) (g.W.Sockets.pieces c.reap_one.new.self) c.if-worker-actors-2.true h)
    c.reap_one.ensures.ok

pub returns-then-worker-actors-2-clause-agree : goal.returns-then-worker-actors-2-clause-agree
returns-then-worker-actors-2-clause-agree g c =
    agree_still g.W.Sockets.as_open g.W.Sockets.agrees g.W.Sockets.was_made c.args.way.now c.reap_one.new.self c.args.actors.now c.reap_one.ensures.keeps c.requires.agree

pub returns-clause-ok : goal.returns-clause-ok
returns-clause-ok g c =
    server_is g.W.Sockets.as_open c.args.worker c.args.actors.now (g.W.Sockets.pieces c.args.way.now) (omega (arith, c.if-worker-actors.false, c.if-worker-actors-2.false))

pub reap_one-requires : goal.reap_one-requires
reap_one-requires g c = record { alone = subst (λ n. IsReaper n (g.W.Sockets.pieces c.args.way.now)) (sym c.if-worker-actors-2.true) c.requires.alone }

pub step-requires : goal.step-requires
step-requires g c = record {
  agrees = subst (λ a. ActorAgrees g.W.Sockets.as_open g.W.Sockets.agrees g.W.Sockets.was_made c.args.way.now c.args.worker a) c.index-actors-worker.is
      (c.requires.agree c.args.worker c.index-actors-worker.result
      (read_here c.args.actors.now c.args.worker c.index-actors-worker.result c.if-worker-actors.true c.index-actors-worker.is));
}

pub returns-clause-agree : goal.returns-clause-agree
returns-clause-agree g c = c.requires.agree
