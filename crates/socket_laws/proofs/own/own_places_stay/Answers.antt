use Rattle.socket_laws.proofs.PlaceLemmas as lemmas
use Rattle.socket_laws.proofs.own.own_places_stay.Goals as goal

pub returns : goal.returns
returns g c = lemmas.own_places_stay _ _ _
