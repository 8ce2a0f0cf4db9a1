use Rattle.run_laws.proofs.CapacityLemmas as lemmas
use Rattle.run_laws.proofs.laws.steps_stay_exact.Goals as goal

pub returns : goal.returns
returns c start = lemmas.steps_stay_exact
