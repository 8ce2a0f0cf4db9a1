use Rattle.replay_laws.proofs.DoneJournalLemmas.{journals_list}
use Rattle.replay_laws.proofs.journals.journals_list_objects.Goals as goal

pub returns : goal.returns
returns g c = journals_list _ _ c.objects_end_once_and_in_order.ensures
