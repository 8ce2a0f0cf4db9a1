use Rattle.replay_laws.proofs.DoneJournalLemmas.{done_whole}
use Rattle.replay_laws.proofs.journals.done_journals_are_whole.Goals as goal

pub returns : goal.returns
returns g c = done_whole _ _ c.objects_end_once_and_in_order.ensures c.done_runs_leave_nothing.ensures c.local_pairs_are_made.ensures c.local_scripts_run_locally.ensures
