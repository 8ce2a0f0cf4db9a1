-- What a call of the program says, whatever makes the texts of its runs: for each status, what was read and the text that is written (own choice).
use Rattle.std.specs.Prelude.{◌≡◌, ◌⊎◌, ◌≤◌, ℕ, List, Option, Bool, true, false, Some, None, length, codes}
use Rattle.spec_run.specs.Run.{Schedule}
use Rattle.zq_outer.specs.Count.{Rose}
use Rattle.zq_outer.specs.Readings.{ClockAt, ReadsClock, GoesOn}
use Rattle.zq_outer.specs.Source.{Consumes, ConsumesAll}
use Rattle.zq_outer.specs.Sink.{Appends, AppendsFront}
use Rattle.zq_base.specs.declared.kind.Kind.{Kind}
use Rattle.zq_base.specs.declared.options.Login.{Login}
use Rattle.zq_call.specs.HearText.{hear_opts, IsHeard}
use Rattle.zq_call.specs.Words.{asked}
use Rattle.zq_call.specs.declared.request.Request.{Request}
use Rattle.zq_call.specs.declared.request.Request.TheVariants as request
use Rattle.zq_call.specs.declared.status.Status.{Status}
use Rattle.zq_call.specs.declared.status.Status.TheVariants as status

-- the words ask for a run by this schedule
abbrev pub AsksRun : List (List ℕ) → Schedule → Type 0
AsksRun words schedule = asked words ≡ Some (request.Run schedule.seed schedule.turns)

-- the words ask to hear a peer as a socket of this kind, with this login where one is wanted
abbrev pub AsksHear : List (List ℕ) → Kind → Option Login → Type 0
AsksHear words kind login = asked words ≡ Some (request.Hear kind login)

-- the words ask for nothing that the program does
abbrev pub AsksNothing : List (List ℕ) → Type 0
AsksNothing words = asked words ≡ None

-- what a source tells at a moment
pub record SourceAt : Type 0 where
  pub left : Option (List ℕ)
  pub faults : ℕ
  pub ends : ℕ

abbrev pub source_at : Option (List ℕ) → ℕ → ℕ → SourceAt
source_at left faults ends = record { left = left; faults = faults; ends = ends }

-- what is read: a source and a clock at a moment
pub record InputAt : Type 0 where
  pub source : SourceAt
  pub clock : ClockAt

abbrev pub input_at : Option (List ℕ) → ℕ → ℕ → ClockAt → InputAt
input_at left faults ends clock = record { source = source_at left faults ends; clock = clock }

-- the octets were read, up to the source's end, which it told in this call
abbrev pub WasReadWhole : SourceAt → SourceAt → List ℕ → Type 0
WasReadWhole before after octets = Rose before.ends after.ends × ConsumesAll before.left octets after.left

-- the most octets that are read of a script: one more than the longest has
abbrev pub most_read : ℕ
most_read = 1048577

-- the octets were read, up to the source's end, or the most that are read
abbrev pub WasRead : SourceAt → SourceAt → List ℕ → Type 0
WasRead before after octets =
    (length octets ≤ most_read)
    × (WasReadWhole before after octets ⊎ ((length octets ≡ most_read) × Consumes before.left octets after.left))

-- The words ask to hear a peer, and the text is that of what all the octets that were read mean, refused or not; the clock is as it was.
abbrev pub SaysHeard : Bool → List (List ℕ) → InputAt → InputAt → List ℕ → Type 0
SaysHeard refused words before after text =
    (kind : Kind) × (login : Option Login) × AsksHear words kind login
    × ((octets : List ℕ) × WasReadWhole before.source after.source octets × IsHeard (hear_opts kind login) octets text refused)
    × (after.clock ≡ before.clock)

-- the status of what was heard, refused or not
abbrev pub heard_status : Bool → Status
heard_status false = status.Done
heard_status true = status.Heard

-- a sink that had taken the first took such a text, whole
abbrev pub WritesText : (List ℕ → Type 0) → Option (List ℕ) → Option (List ℕ) → Type 0
WritesText IsText before after = (text : List ℕ) × IsText text × Appends before text after

-- what a sink tells at a moment
pub record SinkAt : Type 0 where
  pub taken : Option (List ℕ)
  pub faults : ℕ

-- a source, a clock and a sink at a moment
pub record Outside : Type 0 where
  pub input : InputAt
  pub sink : SinkAt

abbrev pub outside : Option (List ℕ) → ℕ → ℕ → ClockAt → Option (List ℕ) → ℕ → Outside
outside left faults ends clock taken failures = record {
  input = input_at left faults ends clock;
  sink = record { taken = taken; faults = failures };
}

-- neither the source nor the sink failed in this call
abbrev pub IsSound : Outside → Outside → Type 0
IsSound before after =
    (Rose before.input.source.faults after.input.source.faults → ⊥) × (Rose before.sink.faults after.sink.faults → ⊥)

-- By what makes the texts of runs: `Prints` says that a text is that of a run of the script that octets are, by a schedule, done or not, with these readings of its clock; `Refuses` that it is that of octets that are no script.
module _ (Prints : Schedule → Bool → List ℕ → List ℕ → List ℕ → Type 0) (Refuses : List ℕ → List ℕ → Type 0) where
  -- the text is that of a run, whose readings are those that the clock gave
  abbrev pub PrintsTimed : Schedule → Bool → List ℕ → (clock clock_now : ClockAt) → List ℕ → Type 0
  PrintsTimed schedule done octets clock clock_now text =
      (readings : List ℕ) × Prints schedule done octets readings text × ReadsClock clock readings clock_now

  -- what is said of the octets that were read, with each status
  abbrev pub SaysOf : Schedule → Status → List ℕ → (clock clock_now : ClockAt) → List ℕ → Type 0
  SaysOf schedule status.Done octets clock clock_now text = PrintsTimed schedule true octets clock clock_now text
  SaysOf schedule status.Script octets clock clock_now text = Refuses octets text × (clock_now ≡ clock)
  SaysOf schedule status.Usage octets clock clock_now text = ⊥
  SaysOf schedule status.ReadFault octets clock clock_now text = ⊥
  SaysOf schedule status.WriteFault octets clock clock_now text = ⊥
  SaysOf schedule status.OutOfMemory octets clock clock_now text = ⊥
  SaysOf schedule status.Unfinished octets clock clock_now text = PrintsTimed schedule false octets clock clock_now text
  SaysOf schedule status.Heard octets clock clock_now text = ⊥

  -- what is said once some octets were read, with each status
  abbrev pub SaysOnceRead : Status → List (List ℕ) → InputAt → InputAt → List ℕ → Type 0
  SaysOnceRead s words before after text =
      (schedule : Schedule) × AsksRun words schedule
      × ((octets : List ℕ) × WasRead before.source after.source octets × SaysOf schedule s octets before.clock after.clock text)

  -- What is said with each status: 0 and 8 the text of a run's journal, done or not; 0 and 9 that of a peer's octets, kept or refused; 1 that the script read is refused, 2 that the words ask for nothing, 3 that the source failed in this call. A run alone reads the clock.
  abbrev pub SaysText : Status → List (List ℕ) → InputAt → InputAt → List ℕ → Type 0
  SaysText status.Done words before after text =
      SaysOnceRead status.Done words before after text ⊎ SaysHeard false words before after text
  SaysText status.Script words before after text = SaysOnceRead status.Script words before after text
  SaysText status.Usage words before after text =
      AsksNothing words × (before ≡ after) × (text ≡ codes "usage: zbus run|soak|hear|forward\n")
  SaysText status.ReadFault words before after text =
      ((r : Request) × (asked words ≡ Some r)) × Rose before.source.faults after.source.faults × (text ≡ codes "read fault\n")
      × (after.clock ≡ before.clock)
  SaysText status.WriteFault words before after text = ⊥
  SaysText status.OutOfMemory words before after text = ⊥
  SaysText status.Unfinished words before after text = SaysOnceRead status.Unfinished words before after text
  SaysText status.Heard words before after text = SaysHeard true words before after text

  -- a sink that had taken the first took a front of the text of some status
  abbrev pub WritesFront : List (List ℕ) → InputAt → InputAt → Option (List ℕ) → Option (List ℕ) → Type 0
  WritesFront words before after taken taken_now =
      (s : Status) × (text : List ℕ) × SaysText s words before after text × AppendsFront taken text taken_now

  -- What was read and written with each status: the sink took the text that belongs to the status, whole; with 4 it failed in this call, and took a front of the text of another status; with 6 nothing was written, and the clock went on by some readings.
  abbrev pub AnswersCall : Status → List (List ℕ) → Outside → Outside → Type 0
  AnswersCall status.WriteFault words before after =
      Rose before.sink.faults after.sink.faults
      × WritesFront words before.input after.input before.sink.taken after.sink.taken
  AnswersCall status.OutOfMemory words before after = (after.sink ≡ before.sink) × GoesOn before.input.clock after.input.clock
  AnswersCall s words before after = WritesText (SaysText s words before.input after.input) before.sink.taken after.sink.taken
