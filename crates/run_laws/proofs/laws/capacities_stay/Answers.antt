use Rattle.run_laws.proofs.CapacityLemmas as lemmas
use Rattle.run_laws.proofs.laws.capacities_stay.Goals as goal

pub returns : goal.returns
returns c start = lemmas.capacities_stay
