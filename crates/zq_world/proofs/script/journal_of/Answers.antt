use Rattle.std.proofs.Common.{refl}
use Rattle.zq_world.proofs.script.journal_of.Goals as goal

pub returns : goal.returns
returns c = refl
