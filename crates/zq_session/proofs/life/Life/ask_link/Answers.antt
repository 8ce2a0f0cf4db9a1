use Rattle.std.proofs.Common.{refl}
use Rattle.std.specs.Prelude.{◌≡◌, true, false, Some, IsSome}
use Rattle.spec_control.specs.declared.end.EndState.TheVariants.{Gone}
use Rattle.spec_control.specs.declared.end.Reason.TheVariants.{Link}
use Rattle.spec_control.specs.declared.request.Req.TheVariants.{AskEnd}
use Rattle.spec_link.specs.declared.due.Due.TheVariants.{Request}
use Rattle.zq_session.specs.declared.life.Life.{Life}
use Rattle.zq_session.proofs.LifeLemmas.{does_none, does_again, does_now, due_link, differs}
use Rattle.zq_session.proofs.life.Life.ask_link.Goals as goal

pub returns-clause-does : goal.returns-clause-does
returns-clause-does c =
    let l : Life = c.args.self.now in
    does_now l (λ b s. (b.dials ≡ false) × (IsSome s.state × (s.state ≡ Some Gone → ⊥))) (λ b. Request (AskEnd b.end Link)) (record l.asked { link = true }) l.asked.link refl c.if-before.false (λ p due. due.link)
    (λ p. (c.if-dials.false, c.has_end.ensures.yes c.if-not-has_end.false)) (λ p due. due_link l l.asked p.dues due)

pub returns-then-before-clause-does : goal.returns-then-before-clause-does
returns-then-before-clause-does c =
    let l : Life = c.args.self.now in
    does_again l (λ b s. (b.dials ≡ false) × (IsSome s.state × (s.state ≡ Some Gone → ⊥))) (λ b. Request (AskEnd b.end Link)) l.asked.link c.if-before.true (λ p due. due.link)

pub returns-then-dials-clause-does : goal.returns-then-dials-clause-does
returns-then-dials-clause-does c =
    let l : Life = c.args.self.now in
    does_none l (λ b s. (b.dials ≡ false) × (IsSome s.state × (s.state ≡ Some Gone → ⊥))) (λ b. Request (AskEnd b.end Link)) (λ p k. differs l.dials k.0 c.if-dials.true)

pub returns-then-not-has_end-clause-does : goal.returns-then-not-has_end-clause-does
returns-then-not-has_end-clause-does c =
    let l : Life = c.args.self.now in
    does_none l (λ b s. (b.dials ≡ false) × (IsSome s.state × (s.state ≡ Some Gone → ⊥))) (λ b. Request (AskEnd b.end Link)) (λ p k. c.has_end.ensures.no c.if-not-has_end.true k.1.0 k.1.1)
