-- What goes by events goes by each worker's own deeds (own choice).
use Rattle.std.specs.Prelude.{ℕ, List}
use Rattle.spec_run.specs.Script.{Script}
use Rattle.spec_run.specs.Worker.{roles}
use Rattle.spec_run.specs.OwnedRun.{OwnedRun, AllWork}
use Rattle.spec_run.specs.CoreEvents.{CoreEvent, IsOfEvents}

-- where a run is that of a list of events, each worker does what its role asks, by its own deeds alone
abbrev pub EventsAreLocal : (N S : Type 0) → Type 0
EventsAreLocal N S = (script : Script) (io : ℕ) (events : List CoreEvent) (run : OwnedRun N S) → IsOfEvents script io events run →
    AllWork (roles script io) run.workers
