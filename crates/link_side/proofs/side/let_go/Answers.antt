use Rattle.std.proofs.Common.{rules}
use Rattle.link_side.proofs.side.let_go.Goals as goal

pub returns : goal.returns
returns c = search rules
