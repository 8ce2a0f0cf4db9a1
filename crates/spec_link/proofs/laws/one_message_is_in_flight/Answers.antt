use Rattle.spec_link.proofs.InFlightLemmas.{one_in_flight}
use Rattle.spec_link.proofs.laws.one_message_is_in_flight.Goals as goal

pub returns : goal.returns
returns c = λ opts before behind pipe m d good all none some unsaid. one_in_flight opts before behind pipe m d good all none some unsaid
