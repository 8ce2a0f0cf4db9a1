-- What is told of octets that were asked to be run (own choice).
use Rattle.std.specs.Prelude.{◌≡◌, ◌≤◌, Bool, true, false, ℕ, List, Ok, Err}
use Rattle.zq_script.specs.declared.fault.ScriptFault.{ScriptFault}
use Rattle.zq_outer.specs.Readings.{ClockAt, ReadsClock}
use Rattle.spec_run.specs.Run.{Schedule}
use Rattle.zq_script.specs.Script.{script_of}
use Rattle.spec_run.specs.declared.journal.Journal.{Journal}
use Rattle.spec_run.specs.Script.{Script}
use Rattle.spec_run.specs.InTurns.{readings_of}
use Rattle.spec_run.specs.Journal.{IsRunJournal}
use Rattle.spec_run.specs.JournalText.{journal_text}
use Rattle.replay_laws.specs.LocalScript.{is_local_script}
use Rattle.replay_laws.specs.ScriptBounds.{script_turns}
use Rattle.zq_world.specs.Timed.{IsTimedJournal}
use Rattle.zq_top.specs.declared.said.RunText.{RunText}
use Rattle.zq_top.specs.declared.said.RunText.TheVariants.{Done, Unfinished, Fault}

-- a text, as that of a run that is done or not
abbrev pub told_as : (done : Bool) → List ℕ → RunText
told_as true text = Done text
told_as false text = Unfinished text

-- what is told of a journal
abbrev pub told_of : Journal → RunText
told_of j = told_as j.done (journal_text j)

-- what is told is a journal of the script, by the schedule, of a run whose readings the clock gave
pub record TellsPlay (N S : Type 0) (script : Script) (schedule : Schedule) (clock clock_now : ClockAt) (said : RunText) : Type 0 where
  pub journal : Journal
  pub timed : IsTimedJournal N S script schedule clock clock_now journal
  pub said_is : said ≡ told_of journal

-- The text is that of the one journal of the script that the octets are, by the schedule, done or not; of a run with these readings.
pub record PrintsRun (N S : Type 0) (schedule : Schedule) (done : Bool) (octets readings text : List ℕ) : Type 0 where
  pub script : Script
  pub script_is : script_of octets ≡ Ok script
  pub journal : Journal
  pub is_journal : IsRunJournal N S script schedule journal
  pub only : (other : Journal) → IsRunJournal N S script schedule other → other ≡ journal
  pub done_is : journal.done ≡ done
  pub readings_are : readings ≡ readings_of is_journal.turned
  pub text_is : text ≡ journal_text journal

-- and its readings are those that the clock gave
abbrev pub PrintsTimed : (N S : Type 0) → Schedule → (done : Bool) → (octets : List ℕ) → (clock clock_now : ClockAt) → (text : List ℕ) → Type 0
PrintsTimed N S schedule done octets clock clock_now text =
    (readings : List ℕ) × PrintsRun N S schedule done octets readings text × ReadsClock clock readings clock_now

-- What is told: the text of a run that is done, of one that is unfinished, or the first fault of octets that are no script, for which no clock was read.
abbrev pub TellsRun : (N S : Type 0) → Schedule → List ℕ → (clock clock_now : ClockAt) → RunText → Type 0
TellsRun N S schedule octets clock clock_now (Done text) = PrintsTimed N S schedule true octets clock clock_now text
TellsRun N S schedule octets clock clock_now (Unfinished text) = PrintsTimed N S schedule false octets clock clock_now text
TellsRun N S schedule octets clock clock_now (Fault fault) = (script_of octets ≡ Err fault) × (clock_now ≡ clock)

-- What is due: of octets that are a script the text of its journal, as done exactly where the journal is; done where nothing is over tcp and the turns are as many as the script's lines tell; of other octets their first fault.
pub record IsRunDue (N S : Type 0) (schedule : Schedule) (octets : List ℕ) (said : RunText) : Type 0 where
  pub run : (script : Script) (j : Journal) → script_of octets ≡ Ok script → IsRunJournal N S script schedule j → said ≡ told_of j
  pub completes : (script : Script) → script_of octets ≡ Ok script → is_local_script script ≡ true → script_turns script ≤ schedule.turns →
      (text : List ℕ) × (said ≡ Done text)
  pub refuses : (fault : ScriptFault) → script_of octets ≡ Err fault → said ≡ Fault fault
