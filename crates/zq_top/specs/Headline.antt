-- What a call of the program says: that of any call, whose runs print the one journal of a script; and which status is due.
use Rattle.std.specs.Prelude.{◌≡◌, ◌⊎◌, ◌≤◌, ℕ, List, ◌++◌, Option, Bool, true, false, Some, codes, decimal, Ok, Err}
use Rattle.zq_script.specs.declared.fault.Cause.{Cause}
use Rattle.zq_script.specs.declared.fault.Cause.TheVariants.{BadWord, BadEndpoint, BadPart, UnknownSocket, DoubleName, TooManyActors, TooLong}
use Rattle.zq_script.specs.declared.fault.ScriptFault.{ScriptFault}
use Rattle.spec_run.specs.Run.{Schedule}
use Rattle.zq_outer.specs.Readings.{ClockAt}
use Rattle.zq_script.specs.Script.{script_of}
use Rattle.spec_run.specs.declared.journal.Journal.{Journal}
use Rattle.spec_run.specs.Script.{Script}
use Rattle.spec_run.specs.Journal.{IsRunJournal}
use Rattle.replay_laws.specs.ScriptBounds.{script_turns}
use Rattle.zq_top.specs.RunText.{PrintsRun}
use Rattle.zq_top.specs.Told.{Told}
use Rattle.zq_base.specs.declared.kind.Kind.{Kind}
use Rattle.zq_base.specs.declared.options.Login.{Login}
use Rattle.spec_zmtp.specs.DecodedStream.{Decoded, Decodes}
use Rattle.zq_call.specs.HearText.{hear_opts, is_refused}
use Rattle.zq_call.specs.Call as call
use Rattle.zq_call.specs.Call.{AsksRun, AsksHear, InputAt, Outside, heard_status}
use Rattle.zq_call.specs.declared.status.Status.{Status}
use Rattle.zq_call.specs.declared.status.Status.TheVariants as status

-- The journal is that of a run of the script on one thread by the schedule.
abbrev pub IsJournal : Script → Schedule → Journal → Type 0
IsJournal script schedule j = IsRunJournal ℕ Told script schedule j

-- The text is that of the one journal of the script that the octets are, by the schedule, done or not; of a run with these readings of its clock.
abbrev pub Prints : Schedule → (done : Bool) → (octets readings text : List ℕ) → Type 0
Prints schedule done octets readings text = PrintsRun ℕ Told schedule done octets readings text

-- how a fault of a script is printed
abbrev pub script_cause_text : Cause → List ℕ
script_cause_text BadWord = codes "BadWord"
script_cause_text BadEndpoint = codes "BadEndpoint"
script_cause_text BadPart = codes "BadPart"
script_cause_text UnknownSocket = codes "UnknownSocket"
script_cause_text DoubleName = codes "DoubleName"
script_cause_text TooManyActors = codes "TooManyActors"
script_cause_text TooLong = codes "TooLong"

abbrev pub fault_text : ScriptFault → List ℕ
fault_text f = codes "script " ++ decimal f.line ++ codes " " ++ script_cause_text f.cause ++ codes "\n"

-- the octets are no script, and the text is their first fault, with its line
pub record RefusesScript (octets text : List ℕ) : Type 0 where
  pub fault : ScriptFault
  pub fault_is : script_of octets ≡ Err fault
  pub text_is : text ≡ fault_text fault

-- what is said of the octets that were read, with each status; the readings of a run are those that the clock gave
abbrev pub SaysOf : Schedule → Status → List ℕ → (clock clock_now : ClockAt) → List ℕ → Type 0
SaysOf schedule s octets clock clock_now text = call.SaysOf Prints RefusesScript schedule s octets clock clock_now text

-- what is said with each status
abbrev pub SaysText : Status → List (List ℕ) → InputAt → InputAt → List ℕ → Type 0
SaysText s words before after text = call.SaysText Prints RefusesScript s words before after text

-- what was read and written with each status
abbrev pub AnswersCall : Status → List (List ℕ) → Outside → Outside → Type 0
AnswersCall s words before after = call.AnswersCall Prints RefusesScript s words before after

-- the words ask for a run by this schedule, and the source has the octets of this script
pub record AsksScript (words : List (List ℕ)) (left : Option (List ℕ)) (schedule : Schedule) (script : Script) : Type 0 where
  pub asks : AsksRun words schedule
  pub octets : List ℕ
  pub left_is : left ≡ Some octets
  pub script_is : script_of octets ≡ Ok script

-- the status is this one, or memory was wanting
abbrev pub ComesDue : Status → Status → Type 0
ComesDue s due = (s ≡ due) ⊎ (s ≡ status.OutOfMemory)

-- the status of a run, done or not
abbrev pub run_status : Bool → Status
run_status true = status.Done
run_status false = status.Unfinished

-- Which status is due where the outside has no fault: 0 exactly where the script's one journal is done, and 8 exactly where it isn't; 0 where the run may take as many turns as the script's lines tell; 1 where the octets are no script; 0 or 9 by what a peer's octets mean.
pub record IsDue (s : Status) (words : List (List ℕ)) (left : Option (List ℕ)) : Type 0 where
  pub run : (schedule : Schedule) (script : Script) (j : Journal) →
      AsksScript words left schedule script → IsJournal script schedule j → ComesDue s (run_status j.done)
  pub completes : (schedule : Schedule) (script : Script) →
      AsksScript words left schedule script → script_turns script ≤ schedule.turns → ComesDue s status.Done
  pub refuses : (schedule : Schedule) (octets : List ℕ) (fault : ScriptFault) →
      AsksRun words schedule → left ≡ Some octets → script_of octets ≡ Err fault → ComesDue s status.Script
  pub hears : (kind : Kind) (login : Option Login) (octets : List ℕ) (d : Decoded) →
      AsksHear words kind login → left ≡ Some octets → Decodes (hear_opts kind login) octets d →
      ComesDue s (heard_status (is_refused d.outcome))
