-- Laws of runs (own choice).
use Rattle.std.specs.Prelude.{◌≤◌, ℕ, Bool, Some, Contains}
use Rattle.zq_base.specs.Ends.{PipeId}
use Rattle.spec_run.specs.Run.{Schedule}
use Rattle.spec_run.specs.declared.journal.SettledRow.{SettledRow}
use Rattle.spec_run.specs.declared.journal.Journal.{Journal}
use Rattle.spec_run.specs.Script.{Script}
use Rattle.spec_run.specs.OwnedRun.{OwnedRun, IsRun, control_at_end}
use Rattle.spec_run.specs.Fate.{HaveOneFate, AddsUp, most_unfated}
use Rattle.spec_run.specs.Journal.{IsRunJournal, WasSettled}

-- in a run, each message that was committed to a settled pipe has one named fate, but for the last that a session took where the root has not ended
abbrev pub MessagesHaveOneFate : (N S : Type 0) → Type 0
MessagesHaveOneFate N S = (script : Script) (io : ℕ) (counts : PipeId → Bool) (run : OwnedRun N S) → IsRun script io counts run →
    (p : PipeId) → WasSettled (control_at_end io run) p → HaveOneFate (control_at_end io run) run p

-- in a journal of a run, the counts of each row add up, but for as many messages as may have no fate
abbrev pub RowsOfRunsAddUp : (N S : Type 0) → Type 0
RowsOfRunsAddUp N S = (script : Script) (schedule : Schedule) (j : Journal) → (is : IsRunJournal N S script schedule j) →
    (row : SettledRow) → Contains j.pipes (Some row) →
    (unfated : ℕ) × (unfated ≤ most_unfated (control_at_end 1 is.run) row.counts.pipe) × AddsUp row unfated
