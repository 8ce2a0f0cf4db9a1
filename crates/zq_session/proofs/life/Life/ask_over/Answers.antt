use Rattle.std.proofs.Common.{refl}
use Rattle.std.specs.Prelude.{◌≡◌, true, false}
use Rattle.spec_control.specs.declared.request.Req.TheVariants.{AskOver}
use Rattle.spec_link.specs.declared.due.Due.TheVariants.{Request}
use Rattle.zq_session.specs.declared.life.Life.{Life}
use Rattle.zq_session.proofs.LifeLemmas.{does_none, does_again, does_now, due_over, differs}
use Rattle.zq_session.proofs.life.Life.ask_over.Goals as goal

pub returns-clause-does : goal.returns-clause-does
returns-clause-does c =
    let l : Life = c.args.self.now in
    does_now l (λ b s. b.dials ≡ false) (λ b. Request (AskOver b.object)) (record l.asked { over = true }) l.asked.over refl c.if-before.false (λ p due. due.over)
    (λ p. c.if-dials.false) (λ p due. due_over l l.asked p.dues due)

pub returns-then-before-clause-does : goal.returns-then-before-clause-does
returns-then-before-clause-does c =
    let l : Life = c.args.self.now in
    does_again l (λ b s. b.dials ≡ false) (λ b. Request (AskOver b.object)) l.asked.over c.if-before.true (λ p due. due.over)

pub returns-then-dials-clause-does : goal.returns-then-dials-clause-does
returns-then-dials-clause-does c =
    let l : Life = c.args.self.now in
    does_none l (λ b s. b.dials ≡ false) (λ b. Request (AskOver b.object)) (λ p k. differs l.dials k c.if-dials.true)
