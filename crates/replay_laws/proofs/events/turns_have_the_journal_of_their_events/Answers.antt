use Rattle.replay_laws.proofs.events.turns_have_the_journal_of_their_events.Goals as goal

pub returns : goal.returns
returns g c script schedule j k is other = c.events_have_one_journal.ensures script _ j k (c.turns_are_events.ensures script schedule j is) other
