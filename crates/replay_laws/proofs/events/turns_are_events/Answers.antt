use Rattle.replay_laws.proofs.EventJournalLemmas as lemmas
use Rattle.replay_laws.proofs.events.turns_are_events.Goals as goal

pub returns : goal.returns
returns g c = lemmas.turns_are_events _ _
