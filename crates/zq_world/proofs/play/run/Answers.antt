use Rattle.std.proofs.Common.{rules, subst, ap, ◌∙◌}
use Rattle.zq_outer.specs.Readings.{GoesOn}
use Rattle.zq_world.specs.Turning.{BeginsOrEnds, TurnSteps, standings}
use Rattle.zq_world.proofs.StepLemmas.{agree_still}
use Rattle.zq_world.proofs.RunLemmas.{within_first, within_more, over_early, over_late, of_error, went_on}
use Rattle.zq_world.proofs.ReaperLemmas.{alone_begun}
use Rattle.zq_world.proofs.play.run.Goals as goal

pub turns-init : goal.turns-init
turns-init g c = record {
  come = within_first g.W.Sockets.as_open c.args.seed c.args.turns c.new-order.result.drawn c.read_clock.result c.args.actors.now (g.W.Sockets.pieces c.args.way.now)
      (g.C.Clock.at c.args.clock.now) (g.C.Clock.at c.read_clock.new.clock) (ap (λ o. o.drawn) c.new-order.ensures)
      c.read_clock.ensures;
  seed = ap (λ o. o.seed) c.new-order.ensures;
  conductor = (search rules);
  agree = c.requires.agree;
}

pub returns-in_err-begin-clause-agree : goal.returns-in_err-begin-clause-agree
returns-in_err-begin-clause-agree g c = agree_still g.W.Sockets.as_open g.W.Sockets.agrees g.W.Sockets.was_made c.turns.way c.begin.new.way c.turns.actors c.begin.ensures.keeps c.turns.invariant.agree

pub returns-then-not-branch-clause-ok : goal.returns-then-not-branch-clause-ok
returns-then-not-branch-clause-ok g c =
    over_early g.W.Sockets.as_open c.args.seed c.args.turns c.turns.order.drawn c.saturating_add-conductor.result c.turns.left c.args.actors.now c.turns.actors
    (g.W.Sockets.pieces c.args.way.now) (g.W.Sockets.pieces c.turns.way) (g.W.Sockets.pieces c.begin.new.way)
    (g.C.Clock.at c.args.clock.now) (g.C.Clock.at c.turns.clock) c.turns.invariant.conductor c.turns.invariant.come
    (subst (λ b. BeginsOrEnds b c.saturating_add-conductor.result (standings g.W.Sockets.as_open c.turns.actors) (g.W.Sockets.pieces c.turns.way) (g.W.Sockets.pieces c.begin.new.way)) c.if-not-branch.true c.in_ok-begin.ensures.ok)

pub returns-then-not-branch-clause-agree : goal.returns-then-not-branch-clause-agree
returns-then-not-branch-clause-agree g c = agree_still g.W.Sockets.as_open g.W.Sockets.agrees g.W.Sockets.was_made c.turns.way c.begin.new.way c.turns.actors c.begin.ensures.keeps c.turns.invariant.agree

pub turn-requires-clause-agree : goal.turn-requires-clause-agree
turn-requires-clause-agree g c = agree_still g.W.Sockets.as_open g.W.Sockets.agrees g.W.Sockets.was_made c.turns.way c.begin.new.way c.turns.actors c.begin.ensures.keeps c.turns.invariant.agree

pub turn-requires-clause-alone : goal.turn-requires-clause-alone
turn-requires-clause-alone g c =
    alone_begun g.W.Sockets.as_open c.args.seed c.args.turns c.turns.order.drawn c.turns.left c.saturating_add-conductor.result c.args.actors.now c.turns.actors (g.W.Sockets.pieces c.args.way.now) (g.W.Sockets.pieces c.turns.way) (g.W.Sockets.pieces c.begin.new.way)
    (g.C.Clock.at c.args.clock.now) (g.C.Clock.at c.turns.clock) c.turns.invariant.conductor c.turns.invariant.come
    (subst (λ b. BeginsOrEnds b c.saturating_add-conductor.result (standings g.W.Sockets.as_open c.turns.actors) (g.W.Sockets.pieces c.turns.way) (g.W.Sockets.pieces c.begin.new.way)) c.if-not-branch.false c.in_ok-begin.ensures.ok)
    c.requires.alone

pub turns-preserved : goal.turns-preserved
turns-preserved g c = record {
  come = within_more g.W.Sockets.as_open c.args.seed c.args.turns c.turns.order.drawn c.turn.new.order.drawn c.saturating_add-conductor.result c.turns.left c.read_clock-in-turns.result c.args.actors.now c.turns.actors c.turn.new.actors
      (g.W.Sockets.pieces c.args.way.now) (g.W.Sockets.pieces c.turns.way) (g.W.Sockets.pieces c.begin.new.way) (g.W.Sockets.pieces c.turn.new.way)
      (g.C.Clock.at c.args.clock.now) (g.C.Clock.at c.turns.clock) (g.C.Clock.at c.read_clock-in-turns.new.clock) c.turns-test.true c.turns.invariant.conductor c.turns.invariant.come
      (subst (λ b. BeginsOrEnds b c.saturating_add-conductor.result (standings g.W.Sockets.as_open c.turns.actors) (g.W.Sockets.pieces c.turns.way) (g.W.Sockets.pieces c.begin.new.way)) c.if-not-branch.false c.in_ok-begin.ensures.ok)
      (subst (λ s. TurnSteps g.W.Sockets.as_open s c.turns.order.drawn c.turn.new.order.drawn c.turns.actors c.turn.new.actors (g.W.Sockets.pieces c.begin.new.way) (g.W.Sockets.pieces c.turn.new.way)) c.turns.invariant.seed c.in_ok-turn.ensures.ok)
      c.read_clock-in-turns.ensures;
  seed = c.turn.ensures.seed ∙ c.turns.invariant.seed;
  conductor = c.turns.invariant.conductor;
  agree = c.turn.ensures.agree;
}

pub returns-in_err-root-clause-agree : goal.returns-in_err-root-clause-agree
returns-in_err-root-clause-agree g c = agree_still g.W.Sockets.as_open g.W.Sockets.agrees g.W.Sockets.was_made c.turns.way c.look.new.self c.turns.actors c.look.ensures.keeps c.turns.invariant.agree

pub returns-clause-ok : goal.returns-clause-ok
returns-clause-ok g c =
    over_late g.W.Sockets.as_open c.args.seed c.args.turns c.turns.order.drawn c.saturating_add-conductor.result c.turns.left c.in_ok-root.root c.has_ended.result c.args.actors.now c.turns.actors
    (g.W.Sockets.pieces c.args.way.now) (g.W.Sockets.pieces c.turns.way) (g.W.Sockets.pieces c.look.new.self)
    (g.C.Clock.at c.args.clock.now) (g.C.Clock.at c.turns.clock) c.turns-test.false c.turns.invariant.conductor c.turns.invariant.come c.in_ok-root.ensures.ok c.has_ended.ensures

pub returns-clause-agree : goal.returns-clause-agree
returns-clause-agree g c = agree_still g.W.Sockets.as_open g.W.Sockets.agrees g.W.Sockets.was_made c.turns.way c.look.new.self c.turns.actors c.look.ensures.keeps c.turns.invariant.agree

pub returns-in_err-begin-clause-err : goal.returns-in_err-begin-clause-err
returns-in_err-begin-clause-err g c = of_error (GoesOn (g.C.Clock.at c.args.clock.now) (g.C.Clock.at c.turns.clock)) c.from_residual.result
    (went_on g.W.Sockets.as_open c.args.seed c.args.turns c.turns.order.drawn c.turns.left c.args.actors.now c.turns.actors (g.W.Sockets.pieces c.args.way.now) (g.W.Sockets.pieces c.turns.way) (g.C.Clock.at c.args.clock.now) (g.C.Clock.at c.turns.clock) c.turns.invariant.come)

pub returns-in_err-turn-clause-err : goal.returns-in_err-turn-clause-err
returns-in_err-turn-clause-err g c = of_error (GoesOn (g.C.Clock.at c.args.clock.now) (g.C.Clock.at c.turns.clock)) c.from_residual-in_err-turn.result
    (went_on g.W.Sockets.as_open c.args.seed c.args.turns c.turns.order.drawn c.turns.left c.args.actors.now c.turns.actors (g.W.Sockets.pieces c.args.way.now) (g.W.Sockets.pieces c.turns.way) (g.C.Clock.at c.args.clock.now) (g.C.Clock.at c.turns.clock) c.turns.invariant.come)

pub returns-in_err-root-clause-err : goal.returns-in_err-root-clause-err
returns-in_err-root-clause-err g c = of_error (GoesOn (g.C.Clock.at c.args.clock.now) (g.C.Clock.at c.turns.clock)) c.from_residual-in_err-root.result
    (went_on g.W.Sockets.as_open c.args.seed c.args.turns c.turns.order.drawn c.turns.left c.args.actors.now c.turns.actors (g.W.Sockets.pieces c.args.way.now) (g.W.Sockets.pieces c.turns.way) (g.C.Clock.at c.args.clock.now) (g.C.Clock.at c.turns.clock) c.turns.invariant.come)

pub returns-in_err-turn-clause-agree : goal.returns-in_err-turn-clause-agree
returns-in_err-turn-clause-agree g c = c.turn.ensures.agree

pub returns-then-not-branch-clause-err : goal.returns-then-not-branch-clause-err
returns-then-not-branch-clause-err g c = tt

pub returns-clause-err : goal.returns-clause-err
returns-clause-err g c = tt
