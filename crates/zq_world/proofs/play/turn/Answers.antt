use Rattle.std.proofs.Common.{rules, sym, subst, ◌≤◌}
use Rattle.zq_world.specs.Turning.{times, HaveStepped}
use Rattle.zq_world.proofs.OrderLemmas.{at_most_once}
use Rattle.zq_world.proofs.play.turn.Goals as goal

pub steps-requires-clause-once : goal.steps-requires-clause-once
steps-requires-clause-once g c w =
    subst (λ l. times w l ≤ 1) (sym c.deref.ensures.value)
    (at_most_once w c.saturating_add.result c.args.order.now.seed c.args.order.now.drawn c.in_ok-workers.workers.items c.turn.new.self.drawn c.in_ok-workers.ensures.order)

pub returns-clause-ok : goal.returns-clause-ok
returns-clause-ok g c = record {
  order = c.in_ok-workers.workers.items;
  is_order = (search rules);
  have = subst (λ l. HaveStepped g.W.Sockets.as_open l c.args.actors.now c.steps.new.actors (g.W.Sockets.pieces c.args.way.now) (g.W.Sockets.pieces c.steps.new.way)) c.deref.ensures.value c.in_ok-steps.ensures.ok;
}

pub steps-requires-clause-agree : goal.steps-requires-clause-agree
steps-requires-clause-agree g c = c.requires.agree

pub steps-requires-clause-alone : goal.steps-requires-clause-alone
steps-requires-clause-alone g c = c.requires.alone

pub returns-clause-agree : goal.returns-clause-agree
returns-clause-agree g c = c.steps.ensures.agree

pub returns-in_err-steps-clause-agree : goal.returns-in_err-steps-clause-agree
returns-in_err-steps-clause-agree g c = c.steps.ensures.agree

pub returns-in_err-workers-clause-agree : goal.returns-in_err-workers-clause-agree
returns-in_err-workers-clause-agree g c = c.requires.agree

pub returns-clause-seed : goal.returns-clause-seed
returns-clause-seed g c = c.turn.ensures.seed

pub returns-in_err-steps-clause-seed : goal.returns-in_err-steps-clause-seed
returns-in_err-steps-clause-seed g c = c.turn.ensures.seed

pub returns-in_err-workers-clause-seed : goal.returns-in_err-workers-clause-seed
returns-in_err-workers-clause-seed g c = c.turn.ensures.seed
