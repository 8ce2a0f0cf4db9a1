use Rattle.std.proofs.Common.{ap, sym, ◌∙◌}
use Rattle.std.proofs.lemmas.List.{get_or_past}
use Rattle.spec_control.specs.Row.{Row, nobody}
use Rattle.spec_control.specs.After.{term_reason}
use Rattle.ctl_moves.proofs.reasons.term_reason.Goals as goal

pub returns-in-Some : goal.returns-in-Some
returns-in-Some g c = λ k h. c.reason_of.ensures ∙ sym (ap (λ (o : Row). term_reason o.kind) (c.in-Some.ensures.some k h))

pub returns-in-None : goal.returns-in-None
returns-in-None g c = λ k h. c.reason_of-in-None.ensures ∙ sym (ap (λ (o : Row). term_reason o.kind) (get_or_past k.rows.objects c.args.id.0 nobody (c.in-None.ensures.none k h)))
