use Rattle.std.specs.Prelude.{◌&&◌, Bool, not}
use Rattle.std.proofs.Common.{ap, sym, ◌∙◌}
use Rattle.std.proofs.lemmas.List.{get_or_past}
use Rattle.spec_control.specs.Row.{Row, is_session, is_zero, nobody}
use Rattle.spec_control.specs.Rows.{obj}
use Rattle.spec_control.specs.After.{term_delay}
use Rattle.ctl_moves.proofs.reasons.reads_on.Goals as goal

pub returns-in_default : goal.returns-in_default
returns-in_default g c = λ k h. sym (ap term_delay (get_or_past k.rows.objects c.args.id.0 nobody (c.in_default.ensures.none k h)))

pub returns-then-not-is_session : goal.returns-then-not-is_session
returns-then-not-is_session g c = λ k h.
    sym (ap (λ (b : Bool). b && not (is_zero (obj k.rows c.args.id.0).options.linger))
    (ap (λ (o : Row). is_session o.kind) (c.in-Some.ensures.some k h) ∙ sym c.is_session.ensures ∙ c.if-not-is_session.true))

pub returns-in-None : goal.returns-in-None
returns-in-None g c = λ k h. sym (ap term_delay (get_or_past k.rows.objects c.args.id.0 nobody (c.in-None.ensures.none k h)))
