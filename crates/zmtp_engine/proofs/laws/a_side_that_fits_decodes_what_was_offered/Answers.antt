use Rattle.zmtp_engine.proofs.FittingLemmas.{fitting_decodes}
use Rattle.zmtp_engine.proofs.laws.a_side_that_fits_decodes_what_was_offered.Goals as goal

pub returns : goal.returns
returns c = λ p x said other f now none all is known fit. fitting_decodes p x said other f now none all is known fit
