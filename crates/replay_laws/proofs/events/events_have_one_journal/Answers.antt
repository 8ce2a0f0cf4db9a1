use Rattle.replay_laws.proofs.OneRunLemmas.{one_events_journal}
use Rattle.replay_laws.proofs.events.events_have_one_journal.Goals as goal

pub returns : goal.returns
returns g c = one_events_journal _ _ c.capacities_stay.ensures
