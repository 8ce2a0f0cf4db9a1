use Rattle.std.proofs.Common.{subst}
use Rattle.std.specs.Prelude.{IfNone}
use Rattle.link_side.specs.Kept.{Side}
use Rattle.link_side.specs.Silent.{IsUnrefused}
use Rattle.link_side.proofs.side.LinkSide.refusal.Goals as goal

pub returns-clause-none : goal.returns-clause-none
returns-clause-none c = subst (λ (x : Side). IfNone c.refusal.result (IsUnrefused x.kept)) c.self.view_is c.refusal.ensures.none
