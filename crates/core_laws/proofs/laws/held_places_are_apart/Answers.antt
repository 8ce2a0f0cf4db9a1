use Rattle.core_laws.proofs.ApartLemmas.{held_places_are_apart}
use Rattle.core_laws.proofs.laws.held_places_are_apart.Goals as goal

pub returns : goal.returns
returns g c = held_places_are_apart g.P.Pipes.known _ _
