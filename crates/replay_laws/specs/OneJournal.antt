-- That a run is replayed by its script, its seed and the most turns that it may take (own choice).
use Rattle.std.specs.Prelude.{◌≡◌}
use Rattle.spec_run.specs.Run.{Schedule}
use Rattle.spec_run.specs.declared.journal.Journal.{Journal}
use Rattle.spec_run.specs.Script.{Script}
use Rattle.spec_run.specs.Journal.{IsRunJournal}

-- two journals of one script on one thread by one schedule are equal, whatever the clock reads
abbrev pub RunsHaveOneJournal : (N S : Type 0) → Type 0
RunsHaveOneJournal N S = (script : Script) (schedule : Schedule) (j k : Journal) → IsRunJournal N S script schedule j → IsRunJournal N S script schedule k → j ≡ k
