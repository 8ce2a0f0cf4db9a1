use Rattle.socket_laws.proofs.PlaceLemmas as lemmas
use Rattle.socket_laws.proofs.own.places_are_held.Goals as goal

pub returns : goal.returns
returns g c = lemmas.places_are_held _ _ _
