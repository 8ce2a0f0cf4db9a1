use Rattle.std.proofs.Common.{refl}
use Rattle.std.specs.Prelude.{◌≡◌, true, Some}
use Rattle.spec_control.specs.declared.end.EndState.TheVariants.{Gone}
use Rattle.spec_control.specs.declared.request.Req.TheVariants.{AskOver}
use Rattle.spec_link.specs.declared.due.Due.TheVariants.{Request}
use Rattle.spec_link.specs.Turn.{IsTold}
use Rattle.zq_session.specs.declared.life.Life.{Life}
use Rattle.zq_session.proofs.LifeLemmas.{moves_none, moves_again, moves_now, due_over}
use Rattle.zq_session.proofs.life.Life.over_due.Goals as goal

pub returns-clause-does : goal.returns-clause-does
returns-clause-does c =
    let l : Life = c.args.self.now in
    moves_now l (λ b s. (IsTold s → ⊥) × (s.state ≡ Some Gone)) (λ b. Request (AskOver b.object)) (record l.asked { over = true }) l.asked.over refl c.if-before.false (λ p due. due.over)
    (λ p. (c.is_told.ensures.no c.if-is_told.false, c.is_gone.ensures.yes c.if-not-is_gone.false)) (λ p due. due_over l l.asked p.dues due)

pub returns-then-before-clause-does : goal.returns-then-before-clause-does
returns-then-before-clause-does c =
    let l : Life = c.args.self.now in
    moves_again l (λ b s. (IsTold s → ⊥) × (s.state ≡ Some Gone)) (λ b. Request (AskOver b.object)) l.asked.over c.if-before.true (λ p due. due.over)

pub returns-then-is_told-clause-does : goal.returns-then-is_told-clause-does
returns-then-is_told-clause-does c =
    let l : Life = c.args.self.now in
    moves_none l (λ b s. (IsTold s → ⊥) × (s.state ≡ Some Gone)) (λ b. Request (AskOver b.object)) (λ p k. k.0 (c.is_told.ensures.yes c.if-is_told.true))

pub returns-then-not-is_gone-clause-does : goal.returns-then-not-is_gone-clause-does
returns-then-not-is_gone-clause-does c =
    let l : Life = c.args.self.now in
    moves_none l (λ b s. (IsTold s → ⊥) × (s.state ≡ Some Gone)) (λ b. Request (AskOver b.object)) (λ p k. c.is_gone.ensures.no c.if-not-is_gone.true k.1)
