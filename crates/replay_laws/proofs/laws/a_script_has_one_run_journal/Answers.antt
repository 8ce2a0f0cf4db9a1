use Rattle.replay_laws.proofs.JournalLemmas.{one_journal}
use Rattle.replay_laws.proofs.laws.a_script_has_one_run_journal.Goals as goal

pub returns : goal.returns
returns g c = one_journal _ _ c.capacities_stay.ensures
