use Rattle.std.proofs.Common.{ap, ◌∙◌}
use Rattle.std.proofs.lemmas.List.{get_or_past}
use Rattle.spec_control.specs.Row.{Row, nobody}
use Rattle.spec_control.specs.After.{owner_or_root}
use Rattle.ctl_moves.proofs.over_asking.owner_of.Goals as goal

pub returns-in-Some : goal.returns-in-Some
returns-in-Some g c = λ k h. ap (λ (o : Row). owner_or_root o.owner) (c.in-Some.ensures.some k h) ∙ c.owner_or_root.ensures

pub returns-in-None : goal.returns-in-None
returns-in-None g c = λ k h. ap (λ (o : Row). owner_or_root o.owner) (get_or_past k.rows.objects c.args.id.0 nobody (c.in-None.ensures.none k h))
