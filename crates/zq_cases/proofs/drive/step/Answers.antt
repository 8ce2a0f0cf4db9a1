use Rattle.std.proofs.Common.{sym, subst, length}
use Rattle.std.proofs.lemmas.Result.{on_ok_weaker}
use Rattle.zq_world.specs.Stepping.{StepsSo}
use Rattle.zq_world.specs.CoreCalls.{IsReaper}
use Rattle.zq_world.proofs.StepLemmas.{actor_is, reaper_is, agree_then, agree_still, read_here}
use Rattle.zq_cases.proofs.AloneLemmas.{alone_asked, alone_then}
use Rattle.zq_cases.proofs.drive.step.Goals as goal

pub returns-then-worker-actors-clause-alone : goal.returns-then-worker-actors-clause-alone
returns-then-worker-actors-clause-alone g c =
    on_ok_weaker c.step.result
    (λ h. alone_then g.W.Sockets.as_open c.args.worker c.args.actors.now _ (g.W.Sockets.pieces c.args.way.now) (g.W.Sockets.pieces c.step.new.way)
    (actor_is g.W.Sockets.as_open c.args.worker c.args.actors.now c.index-actors-worker.result c.step.new.self (g.W.Sockets.pieces c.args.way.now) (g.W.Sockets.pieces c.step.new.way) c.if-worker-actors.true c.index-actors-worker.is
    (subst (λ a. StepsSo g.W.Sockets.as_open c.args.worker a c.step.new.self (g.W.Sockets.pieces c.args.way.now) (g.W.Sockets.pieces c.step.new.way)) (sym c.index-actors-worker.is) h))
    c.requires.alone)
    c.step.ensures.ok

pub returns-then-worker-actors-clause-agree : goal.returns-then-worker-actors-clause-agree
returns-then-worker-actors-clause-agree g c =
    agree_then g.W.Sockets.as_open g.W.Sockets.agrees g.W.Sockets.was_made c.args.way.now c.step.new.way c.args.actors.now c.args.worker c.index-actors-worker.result c.step.new.self
    (read_here c.args.actors.now c.args.worker c.index-actors-worker.result c.if-worker-actors.true c.index-actors-worker.is) c.requires.agree c.step.ensures.agrees c.step.ensures.others

pub returns-then-worker-actors-2-clause-alone : goal.returns-then-worker-actors-2-clause-alone
returns-then-worker-actors-2-clause-alone g c =
    on_ok_weaker c.reap_one.result
    (λ h. alone_then g.W.Sockets.as_open c.args.worker c.args.actors.now c.args.actors.now (g.W.Sockets.pieces c.args.way.now) (g.W.Sockets.pieces c.reap_one.new.self)
    (reaper_is g.W.Sockets.as_open c.args.worker c.args.actors.now (g.W.Sockets.pieces c.args.way.now) (g.W.Sockets.pieces c.reap_one.new.self) c.if-worker-actors-2.true h)
    c.requires.alone)
    c.reap_one.ensures.ok

pub returns-then-worker-actors-2-clause-agree : goal.returns-then-worker-actors-2-clause-agree
returns-then-worker-actors-2-clause-agree g c =
    agree_still g.W.Sockets.as_open g.W.Sockets.agrees g.W.Sockets.was_made c.args.way.now c.reap_one.new.self c.args.actors.now c.reap_one.ensures.keeps c.requires.agree

pub returns-clause-alone : goal.returns-clause-alone
returns-clause-alone g c =
    on_ok_weaker c.ask_root.result
    (λ h. alone_asked (length c.args.actors.now) c.args.worker (g.W.Sockets.pieces c.args.way.now) (g.W.Sockets.pieces c.ask_root.new.self) c.if-worker-actors-2.false c.requires.alone h)
    c.ask_root.ensures.ok

pub returns-clause-agree : goal.returns-clause-agree
returns-clause-agree g c =
    agree_still g.W.Sockets.as_open g.W.Sockets.agrees g.W.Sockets.was_made c.args.way.now c.ask_root.new.self c.args.actors.now c.ask_root.ensures.keeps c.requires.agree

pub reap_one-requires : goal.reap_one-requires
reap_one-requires g c = record { alone = subst (λ n. IsReaper n (g.W.Sockets.pieces c.args.way.now)) (sym c.if-worker-actors-2.true) c.requires.alone }
