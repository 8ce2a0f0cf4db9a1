use Rattle.std.proofs.Common.{◌∙◌}
use Rattle.shared_pipe.proofs.making.shared.Goals as goal

pub returns : goal.returns
returns c = (c.in_ok-table.ensures.ok, c.in_ok-other.ensures ∙ c.in_ok-table.ensures.ok)
