use Rattle.std.proofs.Common.{sym, subst, take, drop, get_or, ◌+◌}
use Rattle.std.proofs.lemmas.List.{take_more}
use Rattle.zq_world.specs.Turning.{HaveStepped}
use Rattle.zq_world.proofs.OrderLemmas.{not_before, cut_at}
use Rattle.zq_world.proofs.StepLemmas.{have_none, have_more}
use Rattle.zq_world.proofs.ReaperLemmas.{alone_stepped}
use Rattle.zq_world.proofs.play.steps.Goals as goal

pub workers-init : goal.workers-init
workers-init g c = record { have = have_none g.W.Sockets.as_open c.args.actors.now (g.W.Sockets.pieces c.args.way.now); agree = c.requires.agree }

pub step-requires-clause-agree : goal.step-requires-clause-agree
step-requires-clause-agree g c = c.workers.invariant.agree

pub step-requires-clause-alone : goal.step-requires-clause-alone
step-requires-clause-alone g c =
    alone_stepped g.W.Sockets.as_open (take c.workers.worker-index c.args.order.now) c.args.actors.now c.workers.actors (g.W.Sockets.pieces c.args.way.now) (g.W.Sockets.pieces c.workers.way) c.workers.invariant.have c.requires.alone

pub workers-preserved : goal.workers-preserved
workers-preserved g c = record {
  have =
      subst (λ l. HaveStepped g.W.Sockets.as_open l c.args.actors.now c.step.new.actors (g.W.Sockets.pieces c.args.way.now) (g.W.Sockets.pieces c.step.new.way))
      (sym (take_more c.args.order.now c.workers.worker-index 0 c.workers-test.true))
      (have_more g.W.Sockets.as_open (get_or c.args.order.now c.workers.worker-index 0) (take c.workers.worker-index c.args.order.now) c.args.actors.now c.workers.actors c.step.new.actors
      (g.W.Sockets.pieces c.args.way.now) (g.W.Sockets.pieces c.workers.way) (g.W.Sockets.pieces c.step.new.way)
      (not_before (get_or c.args.order.now c.workers.worker-index 0) (take c.workers.worker-index c.args.order.now) c.args.order.now (drop (c.workers.worker-index + 1) c.args.order.now)
      (cut_at c.args.order.now c.workers.worker-index 0 c.workers-test.true) (c.requires.once (get_or c.args.order.now c.workers.worker-index 0)))
      c.workers.invariant.have c.in_ok-step.ensures.ok);
  agree = c.step.ensures.agree;
}
