-- What was done of a script's actors by any list of events, over a core (own choice).
use Rattle.std.specs.Prelude.{◌≡◌, ◌<◌, ◌==◌, ◌+◌, ◌++◌, ℕ, Bool, true, false, List, [], ◌∷◌, Some, flat_map, length, map, slice_get, take}
use Rattle.std.specs.List.{AllByRecursion, range_with_len}
use Rattle.spec_control.specs.declared.entry.Item.{Item}
use Rattle.spec_control.specs.Control.{begun}
use Rattle.spec_run.specs.Script.{Script}
use Rattle.spec_run.specs.Act.{acts_of}
use Rattle.spec_run.specs.Fate.{skips_of}
use Rattle.spec_run.specs.OpenSocket.{OpenSock}
use Rattle.spec_run.specs.Standing.{ActorStanding, standing_before}
use Rattle.spec_run.specs.OwnedRun.{OwnedRun, IsRun, every_pipe}
use Rattle.spec_run.specs.InTurns.{worker_count}
use Rattle.spec_run.specs.CoreEvents.{CoreEvent, NextLine, TakeFrom, AskRoot, Tick, Made, deeds_made, made_by_worker, actor_with, EventDoes, EventsGo, IsOfEvents}
use Rattle.spec_run.specs.Journal.{entries_shown}
use Rattle.zq_world.specs.Piece.{Piece, AreActsBy, piece_of}
use Rattle.zq_world.specs.Stepping.{standing_of, entries_of}
use Rattle.zq_world.specs.Taking.{control_told, has_slot}
use Rattle.zq_world.specs.declared.actor.Actor.{Actor}
use Rattle.zq_world.specs.declared.event.Event.{Event}
use Rattle.zq_world.specs.declared.event.Event.TheVariants as event
use Rattle.zq_world.specs.Turning.{standings, ActorsAgree}
use Rattle.zq_world.specs.Played.{AreNew, IsOrderly}

-- an event, as runs are told of it
abbrev pub core_event : Event → CoreEvent
core_event (event.Line actor) = NextLine actor
core_event (event.Take slot) = TakeFrom slot
core_event event.AskTerm = AskRoot
core_event (event.Tick now) = Tick now

-- what is known of a world: its script, the events so far, and whether one of them wanted memory that there was not
pub record Events : Type 0 where
  pub script : Script
  pub events : List CoreEvent
  pub wanted : Bool

abbrev pub known_of : Script → List (Event × Unit {0}) → Bool → Events
known_of script done wanted = record { script = script; events = map (λ x. core_event x.0) done; wanted = wanted }

-- a world stands still behind some of these events, since the next wanted memory
pub record WantsAmong (events : List Event) (old new : Events) : Type 0 where
  pub count : ℕ
  pub few : count < length events
  pub new_is : new ≡ record { script = old.script; events = old.events ++ map core_event (take count events); wanted = true }

module _ {N S : Type 0} where
  -- the calls that tell these deeds, where the reaper has this number
  abbrev pub piece_made : (reaper : ℕ) → Made N S → List (Piece N S)
  piece_made reaper m = piece_of m.worker (m.worker == reaper) (acts_of m.deed) (skips_of m.deed)

  abbrev pub made_pieces : (reaper : ℕ) → List (Made N S) → List (Piece N S)
  made_pieces reaper made = flat_map (piece_made reaper) made

  -- each item of a deed is by its worker
  abbrev pub AreMadeBy : List (Made N S) → Type 0
  AreMadeBy made = AllByRecursion (λ m. AreActsBy m.worker (acts_of m.deed)) made

  -- the run in which the workers made these deeds, with the control plane's items in this order
  abbrev pub run_made : Script → List (Made N S) → List (Item N S) → OwnedRun N S
  run_made script made order = record {
    workers = map (λ w. map (λ m. m.deed ∷ []) (made_by_worker w made)) (range_with_len 0 (worker_count script 1 + 1));
    order = order;
  }

-- what goes by events over a core is a run of the script, and that of these events
abbrev pub RunsByEvents : (N S : Type 0) → Type 0
RunsByEvents N S = (script : Script) (events : List CoreEvent) (made : List (Made N S)) (new : List ActorStanding) (pieces : List (Piece N S)) (order : List (Item N S)) →
    EventsGo 1 (begun 1) events (map standing_before script) made new → AreMadeBy made → pieces ≡ made_pieces (length script) made → IsOrderly pieces order →
    IsRun script 1 every_pipe (run_made script made order) × IsOfEvents script 1 events (run_made script made order)

module _ {O N S : Type 0} where
  -- what an actor has said in these deeds, under its name
  pub record HasToldIn (i : ℕ) (made : List (Made N S)) (a b : Actor O) : Type 0 where
    pub says : entries_of b ≡ entries_of a ++ entries_shown (deeds_made (made_by_worker i made))
    pub name : b.name ≡ a.name

module _ {O : Type 0} (as_open : O → OpenSock) where
  -- the first actor that has an open socket with this mailbox has this number
  pub record HoldsFirst (slot number : ℕ) (actors : List (Actor O)) : Type 0 where
    pub actor : Actor O
    pub here : slice_get actors number ≡ Some actor
    pub has : has_slot slot (standing_of as_open actor).mine.socks ≡ true
    pub first : actor_with slot 0 (standings as_open actors) ≡ Some number

module _ {O N S : Type 0} (as_open : O → OpenSock) where
  -- an event was done, and nothing else
  pub record DoesEvent (event : CoreEvent) (old new : List (Actor O)) (before after : List (Piece N S)) : Type 0 where
    pub made : List (Made N S)
    pub does : EventDoes 1 (control_told before) event (standings as_open old) made (standings as_open new)
    pub by : AreMadeBy made
    pub count : length new ≡ length old
    pub says : (i : ℕ) (a b : Actor O) → slice_get old i ≡ Some a → slice_get new i ≡ Some b → HasToldIn i made a b
    pub pieces_are : after ≡ before ++ made_pieces (length old) made

  -- these events were done, from actors before their first lines on, and nothing else
  pub record HasRun (script : Script) (events : List CoreEvent) (now : List (Actor O)) (pieces : List (Piece N S)) : Type 0 where
    pub start : List (Actor O)
    pub is_new : AreNew script start
    pub made : List (Made N S)
    pub go : EventsGo 1 (begun 1) events (map standing_before script) made (standings as_open now)
    pub by : AreMadeBy made
    pub count : length now ≡ length start
    pub says : (i : ℕ) (a b : Actor O) → slice_get start i ≡ Some a → slice_get now i ≡ Some b → HasToldIn i made a b
    pub pieces_are : pieces ≡ made_pieces (length script) made

module _ {W O N S : Type 0} (as_open : O → OpenSock) (agrees : W → ℕ → O → Type 0) (was_made : W → ℕ → Type 0) (pieces : W → List (Piece N S)) where
  -- the sockets of all actors agree with what was done, and that is these events
  pub record HasDone (script : Script) (events : List CoreEvent) (way : W) (actors : List (Actor O)) : Type 0 where
    pub agree : ActorsAgree as_open agrees was_made way actors
    pub ran : HasRun as_open script events actors (pieces way)

  -- so it is of a world unless memory was wanting
  abbrev pub IsWorld : Events → W → List (Actor O) → Type 0
  IsWorld known way actors = known.wanted ≡ false → HasDone known.script known.events way actors
