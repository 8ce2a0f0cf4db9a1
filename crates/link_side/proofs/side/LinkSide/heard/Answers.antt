use Rattle.std.proofs.Common.{ap, subst, ◌∙◌}
use Rattle.link_side.specs.Kept.{Side}
use Rattle.link_side.specs.Silent.{HasHeard}
use Rattle.link_side.proofs.side.LinkSide.heard.Goals as goal

pub returns : goal.returns
returns c = λ e. subst (λ (x : Side). HasHeard c.heard.result x.kept) c.self.view_is (c.heard.ensures (c.self.invariant.rest (ap (λ (x : Side). x.behind) c.self.view_is ∙ e)))
