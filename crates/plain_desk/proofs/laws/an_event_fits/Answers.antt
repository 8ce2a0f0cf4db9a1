use Rattle.plain_desk.proofs.FitLemmas.{event_fits}
use Rattle.plain_desk.proofs.laws.an_event_fits.Goals as goal

pub returns : goal.returns
returns g c = event_fits
