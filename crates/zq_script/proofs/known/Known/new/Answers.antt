use Rattle.std.proofs.Common.{refl}
use Rattle.zq_script.proofs.KnownLemmas.{knows_nothing}
use Rattle.zq_script.proofs.known.Known.new.Goals as goal

pub returns-clause-knows : goal.returns-clause-knows
returns-clause-knows c = knows_nothing _ c.new.ensures.items c.new-2.ensures.empty refl
