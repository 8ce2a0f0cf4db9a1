-- What a journal of a run over sockets that end says, whatever the script, and whatever the seed and the turns, or the events (own choice).
use Rattle.std.specs.Prelude.{◌≡◌, ℕ, Bool, true, false, List, Some, Contains, is_some}
use Rattle.std.specs.List.{list_all}
use mathlib.Core.List.{IsPrefix}
use Rattle.zq_base.specs.Ends.{PipeId}
use Rattle.spec_pattern.specs.PipeStep.{committed_to, taken_from}
use Rattle.spec_control.specs.declared.entry.Item.{Item}
use Rattle.spec_control.specs.Place.{is_unmade}
use Rattle.spec_control.specs.Control.{begun, end_of, place_of}
use Rattle.spec_control.specs.ControlRun.{IsControlRun, after_all}
use Rattle.spec_run.specs.Run.{Schedule}
use Rattle.spec_run.specs.declared.journal.SettledRow.{SettledRow}
use Rattle.spec_run.specs.declared.journal.Journal.{Journal}
use Rattle.spec_run.specs.Script.{Script}
use Rattle.spec_run.specs.OwnedRun.{OwnedRun, all_steps, control_at_end}
use Rattle.spec_run.specs.Fate.{HaveOneFate}
use Rattle.spec_run.specs.Journal.{IsRunJournal, WasSettled}
use Rattle.spec_run.specs.CoreEvents.{CoreEvent, IsEventsJournal}
use Rattle.replay_laws.specs.Local.{is_local_item}
use Rattle.replay_laws.specs.LocalScript.{is_local_script}
use Rattle.replay_laws.specs.ObjectsListed.{ListsObjects, ListsAllEnded, ListsTheLiving}
use Rattle.replay_laws.specs.RowsListed.{IsWholeRow, KeepsOrder, ListsRows, ListsEachPipe}

module _ {N S : Type 0} (run : OwnedRun N S) (j : Journal) where
  -- the objects that have ended are listed, each once, and behind what it owns; those that live are listed where the run is not done
  pub record SaysOfObjects : Type 0 where
    pub listed : ListsObjects (control_at_end 1 run) j
    pub «living» : ListsTheLiving j

  -- each row that is shown adds up, and is of a pipe whose messages were taken in order
  pub record SaysOfPipes : Type 0 where
    pub rows : ListsRows (control_at_end 1 run) j
    pub whole : (row : SettledRow) → Contains j.pipes (Some row) → IsWholeRow row
    pub order : (row : SettledRow) → Contains j.pipes (Some row) → KeepsOrder run row
    -- and so of each pipe, settled or not
    pub taken : (p : PipeId) → IsPrefix (taken_from p (all_steps run)) (committed_to p (all_steps run))

  -- where a run is done, nothing is left: each object has ended, and each pipe of each pair that was made is settled; without tcp each pair was made
  pub record SaysOfTheDone (script : Script) : Type 0 where
    pub objects : ListsAllEnded j
    pub pipes : ListsEachPipe (control_at_end 1 run) j
    pub all : is_local_script script ≡ true → list_all is_some j.pipes ≡ true

abbrev pub JournalsListObjects : (N S : Type 0) → Type 0
JournalsListObjects N S = (script : Script) (schedule : Schedule) (j : Journal) → (is : IsRunJournal N S script schedule j) → SaysOfObjects is.run j

abbrev pub JournalsCountMessages : (N S : Type 0) → Type 0
JournalsCountMessages N S = (script : Script) (schedule : Schedule) (j : Journal) → (is : IsRunJournal N S script schedule j) → SaysOfPipes is.run j

abbrev pub DoneJournalsAreWhole : (N S : Type 0) → Type 0
DoneJournalsAreWhole N S = (script : Script) (schedule : Schedule) (j : Journal) → (is : IsRunJournal N S script schedule j) → j.done ≡ true →
    SaysOfTheDone is.run j script

-- and by a list of events, in whatever order letters are taken: each message of a settled pipe has one fate, too
pub record SaysOfEvents (N S : Type 0) (script : Script) (events : List CoreEvent) (j : Journal) (is : IsEventsJournal N S script events j) : Type 0 where
  pub objects : SaysOfObjects is.run j
  pub pipes : SaysOfPipes is.run j
  pub fates : (p : PipeId) → WasSettled (control_at_end 1 is.run) p → HaveOneFate (control_at_end 1 is.run) is.run p
  pub done : j.done ≡ true → SaysOfTheDone is.run j script

abbrev pub JournalsByEventsSayAsMuch : (N S : Type 0) → Type 0
JournalsByEventsSayAsMuch N S = (script : Script) (events : List CoreEvent) (j : Journal) → (is : IsEventsJournal N S script events j) → SaysOfEvents N S script events j is

-- over inproc alone each pair is made as its number is drawn
abbrev pub LocalPairsAreMade : (N S : Type 0) → Type 0
LocalPairsAreMade N S = (workers : ℕ) (items : List (Item N S)) → IsControlRun (begun workers) items → list_all is_local_item items ≡ true →
    (k : ℕ) (a : Bool) → is_unmade (place_of (after_all items (begun workers)) (end_of k a)) ≡ false
