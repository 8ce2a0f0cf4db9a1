use Rattle.std.proofs.Common.{[]}
use Rattle.zq_world.proofs.RiseLemmas.{sides_go_on}
use Rattle.zq_world.proofs.laws.sides_go_on.Goals as goal

pub returns : goal.returns
returns g c side pieces x sided behind = sides_go_on side [] pieces x sided behind
