use Rattle.std.specs.Prelude.{◌+◌, ℕ, nat_lt}
use Rattle.std.proofs.Common.{ap, ◌∙◌}
use Rattle.spec_control.specs.Reply.{most_made_pairs}
use Rattle.ctl_moves.proofs.refusals.has_pairs.Goals as goal

pub returns-in-Some : goal.returns-in-Some
returns-in-Some g c = λ k h. ap (λ (n : ℕ). nat_lt n (most_made_pairs + 2)) (c.in-Some.ensures.1 ∙ ap (λ (n : ℕ). n + c.args.more) (c.pairs.ensures k h))
