use Rattle.std.proofs.Common.{refl}
use Rattle.std.specs.Prelude.{◌≡◌, true, Some}
use Rattle.spec_control.specs.declared.end.EndState.TheVariants.{WaitDelimiter}
use Rattle.spec_control.specs.declared.end.Reason.TheVariants.{Linger}
use Rattle.spec_control.specs.declared.request.Req.TheVariants.{AskEnd}
use Rattle.spec_link.specs.declared.due.Due.TheVariants.{Request}
use Rattle.zq_session.specs.declared.life.Life.{Life}
use Rattle.zq_session.proofs.LifeLemmas.{moves_none, moves_again, moves_now, due_linger}
use Rattle.zq_session.proofs.life.Life.ask_linger.Goals as goal

pub returns-clause-does : goal.returns-clause-does
returns-clause-does c =
    let l : Life = c.args.self.now in
    moves_now l (λ b s. s.state ≡ Some WaitDelimiter) (λ b. Request (AskEnd b.end Linger)) (record l.asked { linger = true }) l.asked.linger refl c.if-before.false (λ p due. due.linger)
    (λ p. c.waits_delimiter.ensures.yes c.if-not-waits_delimiter.false) (λ p due. due_linger l l.asked p.dues due)

pub returns-then-before-clause-does : goal.returns-then-before-clause-does
returns-then-before-clause-does c =
    let l : Life = c.args.self.now in
    moves_again l (λ b s. s.state ≡ Some WaitDelimiter) (λ b. Request (AskEnd b.end Linger)) l.asked.linger c.if-before.true (λ p due. due.linger)

pub returns-then-not-waits_delimiter-clause-does : goal.returns-then-not-waits_delimiter-clause-does
returns-then-not-waits_delimiter-clause-does c =
    let l : Life = c.args.self.now in
    moves_none l (λ b s. s.state ≡ Some WaitDelimiter) (λ b. Request (AskEnd b.end Linger)) (λ p k. c.waits_delimiter.ensures.no c.if-not-waits_delimiter.true k)
