use Rattle.replay_laws.proofs.DoneJournalLemmas.{events_say}
use Rattle.replay_laws.proofs.journals.journals_by_events_say_as_much.Goals as goal

pub returns : goal.returns
returns g c = events_say _ _ c.objects_end_once_and_in_order.ensures c.done_runs_leave_nothing.ensures c.local_pairs_are_made.ensures c.each_settled_message_has_one_fate.ensures
