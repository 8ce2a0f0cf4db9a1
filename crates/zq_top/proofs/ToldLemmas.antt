-- What is told of a script that was played is that of its one journal, and is due.
use Rattle.std.specs.Prelude.{◌≡◌, Bool, true, false, ℕ, List, Result, Ok, Err, IfOk, refl}
use Rattle.std.proofs.Common.{sym, ap, ◌∙◌, subst}
use Rattle.zq_script.specs.declared.fault.ScriptFault.{ScriptFault}
use Rattle.zq_outer.specs.Readings.{ClockAt}
use Rattle.spec_run.specs.Run.{Schedule}
use Rattle.zq_script.specs.Script.{script_of}
use Rattle.spec_run.specs.declared.journal.Journal.{Journal}
use Rattle.spec_run.specs.Script.{Script}
use Rattle.spec_run.specs.InTurns.{readings_of}
use Rattle.spec_run.specs.Journal.{IsRunJournal}
use Rattle.spec_run.specs.JournalText.{journal_text}
use Rattle.replay_laws.specs.OneJournal.{RunsHaveOneJournal}
use Rattle.replay_laws.specs.ScriptBounds.{ScriptsAreDoneInTime}
use Rattle.zq_top.specs.declared.said.RunText.{RunText}
use Rattle.zq_top.specs.declared.said.RunText.TheVariants.{Fault}
use Rattle.zq_world.specs.Timed.{IsTimedJournal}
use Rattle.zq_top.specs.RunText.{told_as, told_of, TellsPlay, PrintsTimed, TellsRun, IsRunDue}

script_is_one : (a b : Script) → ◌≡◌ {A = Result Script ScriptFault} (Ok a) (Ok b) → a ≡ b
script_is_one a b e = cc

no_script : (a : Script) (f : ScriptFault) → ◌≡◌ {A = Result Script ScriptFault} (Ok a) (Err f) → ⊥
no_script a f e = cc

module _ (N S : Type 0) (one : RunsHaveOneJournal N S) (schedule : Schedule) (octets : List ℕ) (clock clock_now : ClockAt) where
  prints_timed : (done : Bool) (script : Script) (j : Journal) → script_of octets ≡ Ok script → IsTimedJournal N S script schedule clock clock_now j → j.done ≡ done
      → PrintsTimed N S schedule done octets clock clock_now (journal_text j)
  prints_timed done script j is timed done_is = (
    readings_of timed.is_journal.turned,
    record {
      script = script;
      script_is = is;
      journal = j;
      is_journal = timed.is_journal;
      only = λ other also. one script schedule other j also timed.is_journal;
      done_is = done_is;
      readings_are = refl;
      text_is = refl;
    },
    timed.reads,
  )

  told_timed : (done : Bool) (text : List ℕ) → PrintsTimed N S schedule done octets clock clock_now text → TellsRun N S schedule octets clock clock_now (told_as done text)
  told_timed true text prints = prints
  told_timed false text prints = prints

  -- what was played of the script that the octets are
  tells_play : (script : Script) (said : RunText) → script_of octets ≡ Ok script → TellsPlay N S script schedule clock clock_now said → TellsRun N S schedule octets clock clock_now said
  tells_play script said is plays =
      subst (λ (s : RunText). TellsRun N S schedule octets clock clock_now s) (sym plays.said_is)
      (told_timed plays.journal.done (journal_text plays.journal) (prints_timed plays.journal.done script plays.journal is plays.timed refl))

  pub tells_if : {E : Type 0} (script : Script) (result : Result RunText E) → script_of octets ≡ Ok script → IfOk result (TellsPlay N S script schedule clock clock_now)
      → IfOk result (TellsRun N S schedule octets clock clock_now)
  tells_if script (Ok said) is plays = tells_play script said is plays
  tells_if script (Err e) is plays = tt

module _ (N S : Type 0) (one : RunsHaveOneJournal N S) (in_time : ScriptsAreDoneInTime N S) (schedule : Schedule) (octets : List ℕ) (clock clock_now : ClockAt) where
  -- what was played is due
  play_due : (script : Script) (said : RunText) → script_of octets ≡ Ok script → TellsPlay N S script schedule clock clock_now said → IsRunDue N S schedule octets said
  play_due script said is plays = record {
    run = run;
    completes = λ other also plain enough.
        let j = plays.journal in
        let there = subst (λ (x : Script). IsRunJournal N S x schedule plays.journal) (script_is_one script other (sym is ∙ also)) plays.timed.is_journal in
        (journal_text j, plays.said_is ∙ ap (λ (done : Bool). told_as done (journal_text j)) (in_time other schedule j there plain enough));
    refuses = λ fault also. absurd (no_script script fault (sym is ∙ also));
  }
    where
      run : (other : Script) (j : Journal) → script_of octets ≡ Ok other → IsRunJournal N S other schedule j → said ≡ told_of j
      run other j also journal_is =
          let same : other ≡ script = script_is_one other script (sym also ∙ is) in
          let there : IsRunJournal N S script schedule j = subst (λ (x : Script). IsRunJournal N S x schedule j) same journal_is in
          plays.said_is ∙ ap told_of (one script schedule plays.journal j plays.timed.is_journal there)

  pub due_if : {E : Type 0} (script : Script) (result : Result RunText E) → script_of octets ≡ Ok script → IfOk result (TellsPlay N S script schedule clock clock_now) → IfOk result (IsRunDue N S schedule octets)
  due_if script (Ok said) is plays = play_due script said is plays
  due_if script (Err e) is plays = tt

-- what is told of a script's journal is told of its play
pub play_told : {E : Type 0} (N S : Type 0) (script : Script) (schedule : Schedule) (clock clock_now : ClockAt) (journal : Journal) (result : Result RunText E) → IsTimedJournal N S script schedule clock clock_now journal
    → IfOk result (λ said. said ≡ told_of journal) → IfOk result (TellsPlay N S script schedule clock clock_now)
play_told N S script schedule clock clock_now journal (Ok said) timed is = record { journal = journal; timed = timed; said_is = is }
play_told N S script schedule clock clock_now journal (Err e) timed is = tt

fault_is_one : (a b : ScriptFault) → ◌≡◌ {A = Result Script ScriptFault} (Err a) (Err b) → a ≡ b
fault_is_one a b e = cc

-- of octets that are no script their fault is due
pub fault_due : (N S : Type 0) (schedule : Schedule) (octets : List ℕ) (fault : ScriptFault) → script_of octets ≡ Err fault → IsRunDue N S schedule octets (Fault fault)
fault_due N S schedule octets fault is = record {
  run = λ script j also journal_is. absurd (no_script script fault (sym also ∙ is));
  completes = λ script also plain enough. absurd (no_script script fault (sym also ∙ is));
  refuses = λ other also. ap Fault (fault_is_one fault other (sym is ∙ also));
}
