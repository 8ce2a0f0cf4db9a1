-- That a run by events is replayed by its script and its events (own choice).
use Rattle.std.specs.Prelude.{◌≡◌, List, length}
use Rattle.spec_run.specs.Run.{Schedule}
use Rattle.spec_run.specs.declared.journal.Journal.{Journal}
use Rattle.spec_run.specs.Script.{Script}
use Rattle.spec_run.specs.CoreEvents.{CoreEvent, IsEventsJournal}
use Rattle.spec_run.specs.Journal.{IsRunJournal}
use Rattle.replay_laws.specs.TurnsAreEvents.{events_chosen}

-- two journals of one script by one list of events are equal, whatever holders tell
abbrev pub EventsHaveOneJournal : (N S : Type 0) → Type 0
EventsHaveOneJournal N S = (script : Script) (events : List CoreEvent) (j k : Journal) → IsEventsJournal N S script events j → IsEventsJournal N S script events k → j ≡ k

-- a journal of a run in turns is each journal of a run by the events that its turns choose
abbrev pub TurnsAreTheirEvents : (N S : Type 0) → Type 0
TurnsAreTheirEvents N S = (script : Script) (schedule : Schedule) (j k : Journal) → (is : IsRunJournal N S script schedule j) →
    IsEventsJournal N S script (events_chosen (length script) is.one_thread.orders is.turned) k → j ≡ k
