use Rattle.std.proofs.Common.{subst}
use Rattle.link_side.specs.Kept.{Side}
use Rattle.link_side.specs.Silent.{HasOutput, HasNone}
use Rattle.link_side.proofs.side.LinkSide.has_output.Goals as goal

pub returns-clause-yes : goal.returns-clause-yes
returns-clause-yes c = λ e. subst (λ (x : Side). HasOutput x.kept) c.self.view_is (c.has_output.ensures.yes e)

pub returns-clause-no : goal.returns-clause-no
returns-clause-no c = λ e. subst (λ (x : Side). HasNone x.kept) c.self.view_is (c.has_output.ensures.no e)
