use Rattle.std.proofs.Common.{ap, sym, ◌∙◌}
use Rattle.std.proofs.lemmas.List.{get_or_past}
use Rattle.spec_control.specs.Row.{Row, nobody}
use Rattle.spec_control.specs.Stage.{is_alive}
use Rattle.ctl_moves.proofs.stages.root_lives.Goals as goal

pub returns-in-Some : goal.returns-in-Some
returns-in-Some g c = λ k h. c.is_alive.ensures ∙ ap (λ (o : Row). is_alive o.stage) (sym (c.in-Some.ensures.some k h))

pub returns-in-None : goal.returns-in-None
returns-in-None g c = λ k h. sym (ap (λ (o : Row). is_alive o.stage) (get_or_past k.rows.objects 0 nobody (c.in-None.ensures.none k h)))
