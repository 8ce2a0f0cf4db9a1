use Rattle.core_laws.proofs.PlacesLemmas.{other_places_stay}
use Rattle.core_laws.proofs.laws.other_places_stay.Goals as goal

pub returns : goal.returns
returns g c = other_places_stay _ _ _ _
