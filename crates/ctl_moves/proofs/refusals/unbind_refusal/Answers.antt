use Rattle.std.specs.Prelude.{Bool, true, not, find, is_some, Option}
use Rattle.std.proofs.Common.{ap, sym, ◌∙◌}
use Rattle.spec_control.specs.declared.request.Refusal.{Refusal}
use Rattle.spec_control.specs.declared.request.Refusal.TheVariants.{NotBound, Term}
use Rattle.spec_control.specs.declared.request.Reply.TheVariants.{Done}
use Rattle.spec_control.specs.Hold.{is_bind_to}
use Rattle.spec_control.specs.Reply.{unless}
use Rattle.ctl_moves.specs.Refusals.{refusal_in}
use Rattle.ctl_moves.proofs.refusals.unbind_refusal.Goals as goal

abbrev refused : Bool → Bool → Option Refusal
refused lives bound = refusal_in (unless (not lives) Term (unless (not bound) NotBound Done))

pub returns : goal.returns
returns g c = λ k h.
    sym (ap (λ (lives : Bool). refused lives (is_some (find (is_bind_to c.args.at.now) (k.holds c.args.socket.0)))) (sym (c.root_lives.ensures k h) ∙ c.if-not-root_lives.false)
    ∙ ap (refused true) (sym (c.has_bind.ensures k h) ∙ c.if-not-has_bind.false))

pub returns-then-not-has_bind : goal.returns-then-not-has_bind
returns-then-not-has_bind g c = λ k h.
    sym (ap (λ (lives : Bool). refused lives (is_some (find (is_bind_to c.args.at.now) (k.holds c.args.socket.0)))) (sym (c.root_lives.ensures k h) ∙ c.if-not-root_lives.false)
    ∙ ap (refused true) (sym (c.has_bind.ensures k h) ∙ c.if-not-has_bind.true))
