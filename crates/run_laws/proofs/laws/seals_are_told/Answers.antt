use Rattle.run_laws.proofs.SealLemmas.{seals_are_told}
use Rattle.run_laws.proofs.laws.seals_are_told.Goals as goal

pub returns : goal.returns
returns c start = seals_are_told _ _
