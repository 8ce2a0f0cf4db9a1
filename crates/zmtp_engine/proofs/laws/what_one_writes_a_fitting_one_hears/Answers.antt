use Rattle.zmtp_engine.proofs.FittingLemmas.{fitting_hears}
use Rattle.zmtp_engine.proofs.laws.what_one_writes_a_fitting_one_hears.Goals as goal

pub returns : goal.returns
returns c = λ p q x e said f now none all is known g now' same fit. fitting_hears p q x e said f now none all is known g now' same fit
