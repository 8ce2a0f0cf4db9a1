use Rattle.plain_desk.proofs.FitLemmas.{names_fit}
use Rattle.plain_desk.proofs.laws.its_names_fit.Goals as goal

pub returns : goal.returns
returns g c = names_fit
