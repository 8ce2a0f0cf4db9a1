-- A run on one thread by any list of events: each names who acts next, or which mailbox, and the clock's readings (own choice).
use Rattle.std.specs.Prelude.{◌≡◌, ◌==◌, ◌+◌, ◌&&◌, ℕ, Bool, true, false, not, List, [], ◌∷◌, ◌++◌, Option, Some, None, if◌then◌else◌, filter, length, map, slice_get, slice_set}
use Rattle.std.specs.List.{list_any, range_with_len}
use Rattle.spec_control.specs.OwnAsks.{is_none}
use Rattle.spec_pattern.specs.PipeStep.{AreExact}
use Rattle.spec_control.specs.Control.{Control, begun}
use Rattle.spec_control.specs.ControlRun.{is_between, after_all}
use Rattle.spec_control.specs.Moments.{moments_from, reaper_slots}
use Rattle.spec_run.specs.declared.journal.Journal.{Journal}
use Rattle.spec_run.specs.Script.{Script}
use Rattle.spec_run.specs.Act.{Act, Deed, Fetches, AsksRoot, Reads, all_acts, steps_in, moments_in}
use Rattle.spec_run.specs.Event.{TakesLetter}
use Rattle.spec_run.specs.Standing.{ActorStanding, standing_before, FetchesOne, has_finished}
use Rattle.spec_run.specs.Worker.{AsksTheRoot}
use Rattle.spec_run.specs.OwnedRun.{OwnedRun, IsRun, every_pipe, pipe_capacity, control_at_end}
use Rattle.spec_run.specs.InTurns.{ActorStep, worker_count}
use Rattle.spec_run.specs.Journal.{run_journal}

pub data CoreEvent : Type 0 where
  -- an actor's next step
  NextLine : (actor : ℕ) → CoreEvent
  -- the oldest letter of a mailbox
  TakeFrom : (slot : ℕ) → CoreEvent
  -- the root is asked
  AskRoot : CoreEvent
  -- the clock is read
  Tick : (now : ℕ) → CoreEvent

-- a mailbox has a letter, and is none of a socket between its close and its Reap
abbrev pub may_take : Control → ℕ → Bool
may_take c slot = not (is_none (c.boxes slot)) && not (list_any (λ o. is_between o && o.slot == slot) c.rows.objects)

-- the actor, of those from this number on, that has an open socket with this mailbox
abbrev pub actor_with : (slot n : ℕ) → List ActorStanding → Option ℕ
actor_with slot n [] = None
actor_with slot n (st ∷ sts) = if list_any (λ s. s.slot == slot) st.mine.socks then Some n else actor_with slot (n + 1) sts

-- a deed with the number of its worker
pub record Made (N S : Type 0) : Type 0 where
  pub worker : ℕ
  pub deed : Deed N S

module _ {N S : Type 0} where
  abbrev pub deeds_made : List (Made N S) → List (Deed N S)
  deeds_made made = map (λ m. m.deed) made

  abbrev pub made_by_worker : ℕ → List (Made N S) → List (Made N S)
  made_by_worker w made = filter (λ m. m.worker == w) made

  -- the control plane behind what was done
  abbrev pub control_behind : List (Made N S) → Control → Control
  control_behind made c = after_all (map (λ m. m.item) (moments_in (all_acts (deeds_made made)))) c

  -- an event that is not allowed there does nothing
  abbrev pub DoesNothing : List ActorStanding → List (Made N S) → List ActorStanding → Type 0
  DoesNothing old made new = (made ≡ []) × (new ≡ old)

  -- an actor makes its next step
  pub record StepsOn (actor : ℕ) (st : ActorStanding) (old : List ActorStanding) (made : List (Made N S)) (new : List ActorStanding) : Type 0 where
    pub deed : Deed N S
    pub next : ActorStanding
    pub step : ActorStep st (deed ∷ []) next
    pub made_is : made ≡ record { worker = actor; deed = deed } ∷ []
    pub new_is : new ≡ slice_set old actor next

  abbrev pub StepsUnless : (finished : Bool) → (actor : ℕ) → ActorStanding → List ActorStanding → List (Made N S) → List ActorStanding → Type 0
  StepsUnless true actor st old made new = DoesNothing old made new
  StepsUnless false actor st old made new = StepsOn actor st old made new

  abbrev pub LineDoes : (actor : ℕ) → Option ActorStanding → List ActorStanding → List (Made N S) → List ActorStanding → Type 0
  LineDoes actor None old made new = DoesNothing old made new
  LineDoes actor (Some st) old made new = StepsUnless (has_finished st) actor st old made new

  -- a letter of an open socket is taken, by its actor
  pub record FetchesFor (actor slot : ℕ) (old : List ActorStanding) (made : List (Made N S)) (new : List ActorStanding) : Type 0 where
    pub st : ActorStanding
    pub next : ActorStanding
    pub acts : List (Act N S)
    pub there : slice_get old actor ≡ Some st
    pub fetches : FetchesOne st slot acts next
    pub made_is : made ≡ record { worker = actor; deed = Fetches slot acts } ∷ []
    pub new_is : new ≡ slice_set old actor next

  -- or one of the reaper's
  pub record ReapsOne (reaper slot : ℕ) (old : List ActorStanding) (made : List (Made N S)) (new : List ActorStanding) : Type 0 where
    pub acts : List (Act N S)
    pub takes : TakesLetter slot acts
    pub made_is : made ≡ record { worker = reaper; deed = Fetches slot acts } ∷ []
    pub new_is : new ≡ old

  abbrev pub ReapsWhere : (has : Bool) → (reaper slot : ℕ) → List ActorStanding → List (Made N S) → List ActorStanding → Type 0
  ReapsWhere true reaper slot old made new = ReapsOne reaper slot old made new
  ReapsWhere false reaper slot old made new = DoesNothing old made new

  abbrev pub TakenBy : Option ℕ → (has : Bool) → (reaper slot : ℕ) → List ActorStanding → List (Made N S) → List ActorStanding → Type 0
  TakenBy (Some actor) has reaper slot old made new = FetchesFor actor slot old made new
  TakenBy None has reaper slot old made new = ReapsWhere has reaper slot old made new

  abbrev pub TakeDoes : (may : Bool) → Control → (reaper slot : ℕ) → List ActorStanding → List (Made N S) → List ActorStanding → Type 0
  TakeDoes true c reaper slot old made new = TakenBy (actor_with slot 0 old) (list_any (λ k. k == slot) (reaper_slots c)) reaper slot old made new
  TakeDoes false c reaper slot old made new = DoesNothing old made new

  pub record AsksOnceMore (conductor : ℕ) (old : List ActorStanding) (made : List (Made N S)) (new : List ActorStanding) : Type 0 where
    pub acts : List (Act N S)
    pub asks : AsksTheRoot acts
    pub made_is : made ≡ record { worker = conductor; deed = AsksRoot acts } ∷ []
    pub new_is : new ≡ old

  -- what an event does, where the control plane is c
  abbrev pub EventDoes : (io : ℕ) → Control → CoreEvent → List ActorStanding → List (Made N S) → List ActorStanding → Type 0
  EventDoes io c (NextLine actor) old made new = LineDoes actor (slice_get old actor) old made new
  EventDoes io c (TakeFrom slot) old made new = TakeDoes (may_take c slot) c (length old) slot old made new
  EventDoes io c AskRoot old made new = AsksOnceMore (length old + 1 + io) old made new
  EventDoes io c (Tick now) old made new = (made ≡ record { worker = length old + 1 + io; deed = Reads now } ∷ []) × (new ≡ old)

  -- events, one after another
  abbrev pub EventsGo : (io : ℕ) → Control → List CoreEvent → List ActorStanding → List (Made N S) → List ActorStanding → Type 0
  EventsGo io c [] old made new = DoesNothing old made new
  EventsGo io c (event ∷ events) old made new =
      (mid : List ActorStanding) × (first : List (Made N S)) × (rest : List (Made N S)) × EventDoes io c event old first mid
      × EventsGo io (control_behind first c) events mid rest new × (made ≡ first ++ rest)

  -- a run is that of these events: each deed is a step of its worker, and all are made one after another
  pub record IsOfEvents (script : Script) (io : ℕ) (events : List CoreEvent) (run : OwnedRun N S) : Type 0 where
    pub made : List (Made N S)
    pub standings : List ActorStanding
    pub go : EventsGo io (begun io) events (map standing_before script) made standings
    pub workers_are : run.workers ≡ map (λ w. map (λ m. m.deed ∷ []) (made_by_worker w made)) (range_with_len 0 (worker_count script io + 1))
    pub one_order : moments_in (all_acts (deeds_made made)) ≡ moments_from (begun io) run.order
    pub exact : AreExact (pipe_capacity (control_at_end io run)) [] (steps_in (all_acts (deeds_made made)))

-- The journal is that of a run of the script on one thread by these events.
pub record IsEventsJournal (N S : Type 0) (script : Script) (events : List CoreEvent) (j : Journal) : Type 0 where
  pub run : OwnedRun N S
  pub is_run : IsRun script 1 every_pipe run
  pub of_events : IsOfEvents script 1 events run
  pub journal_is : j ≡ run_journal script 1 run
