-- The status of what a call answers is due.
use Rattle.std.proofs.Common.{ℕ, List, Option, refl, inr}
use Rattle.std.specs.Prelude.{Result, Ok, Err, IfOk}
use Rattle.zq_outer.specs.Count.{Rose}
use Rattle.replay_laws.specs.ReadScripts.{ScriptsMayBeAsked}
use Rattle.replay_laws.specs.ScriptBounds.{ScriptsAreDoneInTime}
use Rattle.zq_top.specs.Told.{Told}
use Rattle.zq_call.specs.Call.{InputAt, Outside, IsSound}
use Rattle.zq_call.specs.Edge.{ExitsSo}
use Rattle.zq_call.specs.declared.status.Status.{Status}
use Rattle.zq_call.specs.declared.status.Status.TheVariants as status
use Rattle.zq_top.specs.Edge.{Exits}
use Rattle.zq_top.specs.Headline.{Prints, RefusesScript, SaysText, AnswersCall, IsDue}
use Rattle.zq_top.proofs.Completes.{completes, refuses, ends_so}
use Rattle.zq_top.proofs.Hears.{hears}

-- the status of what is said is due
pub due_said : ScriptsAreDoneInTime ℕ Told → ScriptsMayBeAsked → (s : Status) (words : List (List ℕ)) (before after : InputAt) (text : List ℕ) → (Rose before.source.faults after.source.faults → ⊥)
    → SaysText s words before after text → IsDue s words before.source.left
due_said in_time may s words before after text sound says = record {
  run = λ schedule script j asks is. ends_so words before after text schedule script asks s j sound says is;
  completes = λ schedule script asks enough. completes words before after text asks.octets schedule asks.asks asks.left_is sound in_time may s script says asks.script_is enough;
  refuses = λ schedule octets fault asks left is. refuses words before after text octets schedule asks left sound s fault says is;
  hears = λ kind login octets d asks left means. hears words before after text octets kind login asks left sound d means s says;
}

-- want of memory is due always
pub due_in_want : (words : List (List ℕ)) (left : Option (List ℕ)) → IsDue status.OutOfMemory words left
due_in_want words left = record {
  run = λ schedule script j asks is. inr refl;
  completes = λ schedule script asks enough. inr refl;
  refuses = λ schedule octets fault asks left_is is. inr refl;
  hears = λ kind login octets d asks left_is means. inr refl;
}

-- where neither stream failed, the status of a call is due
pub answers_due : ScriptsAreDoneInTime ℕ Told → ScriptsMayBeAsked → (s : Status) (words : List (List ℕ)) (before after : Outside) → AnswersCall s words before after
    → IsSound before after → IsDue s words before.input.source.left
answers_due in_time may status.Done words before after (text, says, taken) sound = due_said in_time may status.Done words before.input after.input text sound.0 says
answers_due in_time may status.Script words before after (text, says, taken) sound = due_said in_time may status.Script words before.input after.input text sound.0 says
answers_due in_time may status.Usage words before after (text, says, taken) sound = due_said in_time may status.Usage words before.input after.input text sound.0 says
answers_due in_time may status.ReadFault words before after (text, says, taken) sound = due_said in_time may status.ReadFault words before.input after.input text sound.0 says
answers_due in_time may status.WriteFault words before after answers sound = absurd (sound.1 answers.0)
answers_due in_time may status.OutOfMemory words before after answers sound = due_in_want words before.input.source.left
answers_due in_time may status.Unfinished words before after (text, says, taken) sound = due_said in_time may status.Unfinished words before.input after.input text sound.0 says
answers_due in_time may status.Heard words before after (text, says, taken) sound = due_said in_time may status.Heard words before.input after.input text sound.0 says

-- and so is that which an exit code is of
pub exits_due : ScriptsAreDoneInTime ℕ Told → ScriptsMayBeAsked → (code : ℕ) (words : List (List ℕ)) (left taken left_now taken_now : Option (List ℕ))
    → ExitsSo Prints RefusesScript code words left taken left_now taken_now → Exits code words left taken left_now taken_now
exits_due in_time may code words left taken left_now taken_now e = record {
  status = e.status;
  code_is = e.code_is;
  faults = e.faults;
  ends = e.ends;
  failures = e.failures;
  clock = e.clock;
  answers = e.answers;
  due = answers_due in_time may e.status words _ _ e.answers;
}

pub exits_if : {L E : Type 0} → ScriptsAreDoneInTime ℕ Told → ScriptsMayBeAsked → (list : Result L E) (listed : L → List (List ℕ)) (code : ℕ) (left taken left_now taken_now : Option (List ℕ))
    → IfOk list (λ l. ExitsSo Prints RefusesScript code (listed l) left taken left_now taken_now) → IfOk list (λ l. Exits code (listed l) left taken left_now taken_now)
exits_if in_time may (Ok l) listed code left taken left_now taken_now e = exits_due in_time may code (listed l) left taken left_now taken_now e
exits_if in_time may (Err x) listed code left taken left_now taken_now e = tt
