-- The events that a run in turns chooses (own choice): the clock's first reading; of each turn the asking of the root, if it is asked, an event of each worker in the order drawn, and the reading at its end. A look at the root, and one that finds the reaper's mailboxes empty, is no event.
use Rattle.std.specs.Prelude.{ℕ, List, [], ◌∷◌, ◌++◌, flat_map, if◌then◌else◌, length, nat_lt}
use Rattle.spec_run.specs.Run.{Schedule}
use Rattle.spec_run.specs.declared.journal.Journal.{Journal}
use Rattle.spec_run.specs.Script.{Script}
use Rattle.spec_run.specs.Act.{Deed, Tries, Shuts, Fetches, Idles, Works, Looks, AsksRoot, Reads}
use Rattle.spec_run.specs.InTurns.{OneTurn, Turned, turn_step}
use Rattle.spec_run.specs.CoreEvents.{CoreEvent, NextLine, TakeFrom, AskRoot, Tick, IsEventsJournal}
use Rattle.spec_run.specs.Journal.{IsRunJournal}

module _ {N S : Type 0} where
  -- the root is asked among these deeds of the conductor
  abbrev pub asked : List (Deed N S) → List CoreEvent
  asked [] = []
  asked (AsksRoot acts ∷ ds) = AskRoot ∷ asked ds
  asked (Tries t ∷ ds) = asked ds
  asked (Shuts acts ∷ ds) = asked ds
  asked (Fetches slot acts ∷ ds) = asked ds
  asked (Idles m ∷ ds) = asked ds
  asked (Works acts ∷ ds) = asked ds
  asked (Looks m ∷ ds) = asked ds
  asked (Reads now ∷ ds) = asked ds

  -- the mailboxes that the reaper takes a letter of
  abbrev pub fetched : List (Deed N S) → List CoreEvent
  fetched [] = []
  fetched (Fetches slot acts ∷ ds) = TakeFrom slot ∷ fetched ds
  fetched (Tries t ∷ ds) = fetched ds
  fetched (Shuts acts ∷ ds) = fetched ds
  fetched (Idles m ∷ ds) = fetched ds
  fetched (Works acts ∷ ds) = fetched ds
  fetched (Looks m ∷ ds) = fetched ds
  fetched (AsksRoot acts ∷ ds) = fetched ds
  fetched (Reads now ∷ ds) = fetched ds

  -- a worker's step, beside so many actors: an actor's next one, the letter that the reaper finds, and nothing of an I/O worker
  abbrev pub step_events : (actors w : ℕ) → List (Deed N S) → List CoreEvent
  step_events actors w deeds = if nat_lt w actors then NextLine w ∷ [] else fetched deeds

  abbrev pub turn_events : (actors : ℕ) → List ℕ → OneTurn N S → List CoreEvent
  turn_events actors order turn = asked turn.begins ++ (flat_map (λ w. step_events actors w (turn_step w turn)) order ++ Tick turn.reading ∷ [])

  abbrev pub turns_events : (actors : ℕ) → List (List ℕ) → List (OneTurn N S) → List CoreEvent
  turns_events actors [] turns = []
  turns_events actors (order ∷ orders) [] = []
  turns_events actors (order ∷ orders) (turn ∷ turns) = turn_events actors order turn ++ turns_events actors orders turns

  abbrev pub events_chosen : (actors : ℕ) → List (List ℕ) → Turned N S → List CoreEvent
  events_chosen actors orders t = Tick t.first ∷ turns_events actors orders t.turns

-- a journal of a run in turns is that of a run by the events that its turns choose
abbrev pub TurnsAreEvents : (N S : Type 0) → Type 0
TurnsAreEvents N S = (script : Script) (schedule : Schedule) (j : Journal) → (is : IsRunJournal N S script schedule j) →
    IsEventsJournal N S script (events_chosen (length script) is.one_thread.orders is.turned) j
