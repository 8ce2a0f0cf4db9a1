use Rattle.std.proofs.Common.{ap, subst, ◌∙◌}
use Rattle.link_side.specs.Kept.{Side, IsAtRest}
use Rattle.link_side.proofs.side.LinkSide.rests.Goals as goal

pub returns : goal.returns
returns c = λ e. subst (λ (x : Side). IsAtRest x.kept) c.self.view_is (c.self.invariant.rest (ap (λ (x : Side). x.behind) c.self.view_is ∙ e))
