use Rattle.zq_session.proofs.LifeLemmas.{gives_before, gives_not, gives_now}
use Rattle.zq_session.proofs.life.Life.give_up_due.Goals as goal

pub returns-then-before-clause-does : goal.returns-then-before-clause-does
returns-then-before-clause-does c = gives_before c.args.self.now c.ask_linger.new.self c.args.now c.ask_linger.result c.if-before.true c.ask_linger.ensures.does

pub returns-then-not-linger_is_over-clause-does : goal.returns-then-not-linger_is_over-clause-does
returns-then-not-linger_is_over-clause-does c = gives_not c.args.self.now c.args.now c.if-before.false (c.linger_is_over.ensures.no c.if-not-linger_is_over.true)

pub returns-clause-does : goal.returns-clause-does
returns-clause-does c =
    gives_now c.args.self.now c.ask_linger-2.new.self c.args.now c.ask_linger-2.result c.if-before.false (c.linger_is_over.ensures.yes c.if-not-linger_is_over.false) c.ask_linger-2.ensures.does
