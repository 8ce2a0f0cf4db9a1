use Rattle.std.proofs.Common.{sym, ◌∙◌, arith}
use Rattle.zq_world.proofs.StepLemmas.{read_here}
use Rattle.zq_world.proofs.EventLemmas.{pass_by, holds_here, nobody_holds}
use Rattle.zq_world.proofs.events.holder_of.Goals as goal

pub returns-then-has_mailbox-clause-some : goal.returns-then-has_mailbox-clause-some
returns-then-has_mailbox-clause-some g c =
    holds_here g.W.Sockets.as_open c.args.slot c.actors.number c.args.actors.now c.index-actors-number.result c.actors.invariant
    (read_here c.args.actors.now c.actors.number c.index-actors-number.result c.actors-test.true c.index-actors-number.is) (sym c.has_mailbox.ensures ∙ c.if-has_mailbox.true)

pub actors-preserved : goal.actors-preserved
actors-preserved g c =
    pass_by g.W.Sockets.as_open c.args.slot c.actors.number c.args.actors.now c.index-actors-number.result c.actors.invariant
    (read_here c.args.actors.now c.actors.number c.index-actors-number.result c.actors-test.true c.index-actors-number.is) (sym c.has_mailbox.ensures ∙ c.if-has_mailbox.false)

pub returns-clause-none : goal.returns-clause-none
returns-clause-none g c = nobody_holds g.W.Sockets.as_open c.args.slot c.actors.number c.args.actors.now c.actors.invariant (omega (arith, c.actors-test.false))
