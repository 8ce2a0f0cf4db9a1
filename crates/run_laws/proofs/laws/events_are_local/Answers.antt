use Rattle.run_laws.proofs.GoesLemmas.{events_local}
use Rattle.run_laws.proofs.laws.events_are_local.Goals as goal

pub returns : goal.returns
returns g c script io events run is = events_local script io events run is
