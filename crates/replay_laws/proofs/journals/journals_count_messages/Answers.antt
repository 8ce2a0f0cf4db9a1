use Rattle.replay_laws.proofs.DoneJournalLemmas.{says_of_pipes}
use Rattle.replay_laws.proofs.journals.journals_count_messages.Goals as goal

pub returns : goal.returns
returns c start script schedule j is = says_of_pipes script j is.run is.is_run is.journal_is
