use Rattle.std.proofs.Common.{refl}
use Rattle.std.specs.Prelude.{◌≡◌, true}
use Rattle.spec_link.specs.declared.due.Due.TheVariants.{Delimiter}
use Rattle.zq_session.specs.declared.life.Life.{Life}
use Rattle.zq_session.proofs.LifeLemmas.{does_none, does_again, does_now, due_delimiter, differs}
use Rattle.zq_session.proofs.life.Life.delimiter_due.Goals as goal

pub returns-clause-does : goal.returns-clause-does
returns-clause-does c =
    let l : Life = c.args.self.now in
    does_now l (λ b s. c.args.met ≡ true) (λ b. Delimiter b.end) (record l.asked { delimiter = true }) l.asked.delimiter refl c.if-before.false (λ p due. due.delimiter)
    (λ p. c.if-not-met.false) (λ p due. due_delimiter l l.asked p.dues due)

pub returns-then-before-clause-does : goal.returns-then-before-clause-does
returns-then-before-clause-does c =
    let l : Life = c.args.self.now in
    does_again l (λ b s. c.args.met ≡ true) (λ b. Delimiter b.end) l.asked.delimiter c.if-before.true (λ p due. due.delimiter)

pub returns-then-not-met-clause-does : goal.returns-then-not-met-clause-does
returns-then-not-met-clause-does c =
    let l : Life = c.args.self.now in
    does_none l (λ b s. c.args.met ≡ true) (λ b. Delimiter b.end) (λ p k. differs c.args.met c.if-not-met.true k)
