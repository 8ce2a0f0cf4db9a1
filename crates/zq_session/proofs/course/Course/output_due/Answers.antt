use Rattle.zq_session.proofs.BeginLemmas.{output_none, output_again, output_now}
use Rattle.zq_session.proofs.course.Course.output_due.Goals as goal

pub returns-then-not-waits_for_output-clause-does : goal.returns-then-not-waits_for_output-clause-does
returns-then-not-waits_for_output-clause-does c =
    output_none c.args.self.now (λ p keeps q. c.waits_for_output.ensures.no c.if-not-waits_for_output.true q.0 q.1.0 q.1.1.gone)

pub returns-then-not-has_no_output-clause-does : goal.returns-then-not-has_no_output-clause-does
returns-then-not-has_no_output-clause-does c =
    output_none c.args.self.now (λ p keeps q. c.has_no_output.ensures.no c.if-not-has_no_output.true p keeps q.1.1.none)

pub returns-then-before-clause-does : goal.returns-then-before-clause-does
returns-then-before-clause-does c = output_again c.args.self.now c.if-before.true

pub returns-clause-does : goal.returns-clause-does
returns-clause-does c =
    let y = c.waits_for_output.ensures.yes c.if-not-waits_for_output.false in
    output_now c.args.self.now c.if-before.false (λ p keeps. (y.0, (y.1.0, record { gone = y.1.1; none = c.has_no_output.ensures.yes c.if-not-has_no_output.false p keeps })))
