-- What is said of a call, and that what it says and writes whole is what it answers.
use Rattle.std.proofs.Common.{◌≡◌, ℕ, List, Bool, true, false, subst, sym, inl, inr}
use Rattle.spec_run.specs.Run.{Schedule}
use Rattle.zq_outer.specs.Sink.{Appends}
use Rattle.zq_call.specs.Call.{AsksRun, InputAt, Outside, WasRead, SaysHeard, SaysOf, SaysText, AnswersCall, heard_status}
use Rattle.zq_call.specs.declared.status.Status.{Status}
use Rattle.zq_call.specs.declared.status.Status.TheVariants as status

module _ (Prints : Schedule → Bool → List ℕ → List ℕ → List ℕ → Type 0) (Refuses : List ℕ → List ℕ → Type 0) where
  -- what is said of octets that were read
  pub says_read : (s : Status) (words : List (List ℕ)) (before after : InputAt) (schedule : Schedule) (octets text : List ℕ) → AsksRun words schedule
      → WasRead before.source after.source octets → SaysOf Prints Refuses schedule s octets before.clock after.clock text → SaysText Prints Refuses s words before after text
  says_read status.Done words before after schedule octets text asks read says = inl (schedule, asks, (octets, read, says))
  says_read status.Script words before after schedule octets text asks read says = (schedule, asks, (octets, read, says))
  says_read status.Usage words before after schedule octets text asks read says = absurd says
  says_read status.ReadFault words before after schedule octets text asks read says = absurd says
  says_read status.WriteFault words before after schedule octets text asks read says = absurd says
  says_read status.OutOfMemory words before after schedule octets text asks read says = absurd says
  says_read status.Unfinished words before after schedule octets text asks read says = (schedule, asks, (octets, read, says))
  says_read status.Heard words before after schedule octets text asks read says = absurd says

  -- what is said of octets that were heard
  pub says_heard : (refused : Bool) (s : Status) (words : List (List ℕ)) (before after : InputAt) (text : List ℕ) → s ≡ heard_status refused
      → SaysHeard refused words before after text → SaysText Prints Refuses s words before after text
  says_heard false s words before after text is says = subst (λ t. SaysText Prints Refuses t words before after text) (sym is) (inr says)
  says_heard true s words before after text is says = subst (λ t. SaysText Prints Refuses t words before after text) (sym is) says

  -- a text that was written whole
  pub answers_said : (s : Status) (words : List (List ℕ)) (before after : Outside) (text : List ℕ) → SaysText Prints Refuses s words before.input after.input text
      → Appends before.sink.taken text after.sink.taken → AnswersCall Prints Refuses s words before after
  answers_said status.Done words before after text says taken = (text, says, taken)
  answers_said status.Script words before after text says taken = (text, says, taken)
  answers_said status.Usage words before after text says taken = (text, says, taken)
  answers_said status.ReadFault words before after text says taken = (text, says, taken)
  answers_said status.WriteFault words before after text says taken = absurd says
  answers_said status.OutOfMemory words before after text says taken = absurd says
  answers_said status.Unfinished words before after text says taken = (text, says, taken)
  answers_said status.Heard words before after text says taken = (text, says, taken)
