use Rattle.std.specs.Prelude.{ℕ}
use Rattle.std.proofs.Common.{ap, sym, ◌∙◌}
use Rattle.zq_base.specs.declared.attached.Attached.{Attached}
use Rattle.spec_control.specs.Stage.{was_asked}
use Rattle.spec_control.specs.Rows.{obj}
use Rattle.spec_control.specs.Control.{greet}
use Rattle.ctl_moves.proofs.BindingLemmas.{welcomed_asked, welcomed_struck, welcomed_not}
use Rattle.ctl_moves.proofs.attaching.reason_for.Goals as goal

pub returns-in-BadId : goal.returns-in-BadId
returns-in-BadId g c = λ k h. sym (ap (λ (a : Attached). greet a c.args.e k) c.in-BadId.is)

pub returns-in-Second : goal.returns-in-Second
returns-in-Second g c = λ k h. sym (ap (λ (a : Attached). greet a c.args.e k) c.in-Second.is)

pub returns-then-is_asked : goal.returns-then-is_asked
returns-then-is_asked g c = λ k h.
    welcomed_asked k c.args.e (ap (λ (n : ℕ). was_asked (obj k.rows n).stage) (c.owner.ensures.stands k h) ∙ sym (c.is_asked.ensures k h) ∙ c.if-is_asked.true) ∙ sym (ap (λ (a : Attached). greet a c.args.e k) c.in-Yes.is)

pub returns-then-is_struck : goal.returns-then-is_struck
returns-then-is_struck g c = λ k h.
    welcomed_struck k c.args.e (ap (λ (n : ℕ). was_asked (obj k.rows n).stage) (c.owner.ensures.stands k h) ∙ sym (c.is_asked.ensures k h) ∙ c.if-is_asked.false) (sym (c.is_struck.ensures k h) ∙ c.if-is_struck.true) ∙ sym (ap (λ (a : Attached). greet a c.args.e k) c.in-Yes.is)

pub returns-in-Yes : goal.returns-in-Yes
returns-in-Yes g c = λ k h.
    welcomed_not k c.args.e (ap (λ (n : ℕ). was_asked (obj k.rows n).stage) (c.owner.ensures.stands k h) ∙ sym (c.is_asked.ensures k h) ∙ c.if-is_asked.false) (sym (c.is_struck.ensures k h) ∙ c.if-is_struck.false) ∙ sym (ap (λ (a : Attached). greet a c.args.e k) c.in-Yes.is)
