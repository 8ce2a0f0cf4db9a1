-- How far a run has come: the workers' steps of a turn, in the order in which they are made, and turns (own choice).
use Rattle.std.specs.Prelude.{◌≡◌, ◌<◌, ◌≤◌, ◌==◌, ◌+◌, ℕ, Bool, true, false, List, [], ◌∷◌, ◌++◌, Some, if◌then◌else◌, flat_map, length, map, slice_get, slice_set}
use Rattle.std.specs.List.{range_with_len}
use Rattle.spec_run.specs.Turn.{IsOrder}
use Rattle.spec_control.specs.declared.entry.SeenEmpty.TheVariants.{Nothing}
use Rattle.spec_control.specs.Moments.{Moment}
use Rattle.spec_run.specs.Act.{Said, Deed, Looks, all_acts}
use Rattle.spec_run.specs.OpenSocket.{OpenSock}
use Rattle.spec_run.specs.Event.{IsLookAt}
use Rattle.spec_run.specs.Standing.{ActorStanding}
use Rattle.spec_run.specs.OwnedRun.{deeds_in}
use Rattle.spec_run.specs.InTurns.{ActorStep, ReaperStep, OneTurn, Turned, Begins, TurnsGo, NeverFall, Draws, is_ended, turn_step}
use Rattle.spec_run.specs.Journal.{entries_shown}
use Rattle.zq_world.specs.Piece.{Piece, AreActsBy, AddsActs, AddsDeeds, deed_pieces}
use Rattle.zq_world.specs.Stepping.{standing_of, entries_of, ActorAgrees}
use Rattle.zq_world.specs.declared.actor.Actor.{Actor}

-- how often a number is in a list
abbrev pub times : ℕ → List ℕ → ℕ
times w [] = 0
times w (v ∷ vs) = if v == w then times w vs + 1 else times w vs

module _ {O : Type 0} (as_open : O → OpenSock) where
  abbrev pub standings : List (Actor O) → List ActorStanding
  standings actors = map (standing_of as_open) actors

module _ {W O : Type 0} (as_open : O → OpenSock) (agrees : W → ℕ → O → Type 0) (was_made : W → ℕ → Type 0) where
  -- the sockets of each actor agree with what was done, as those of the caller of its number
  abbrev pub ActorsAgree : W → List (Actor O) → Type 0
  ActorsAgree way actors = (i : ℕ) (a : Actor O) → slice_get actors i ≡ Some a → ActorAgrees as_open agrees was_made way i a

module _ {O N S : Type 0} (as_open : O → OpenSock) where
  -- an actor's step, with what it says
  pub record ActorDoes (a : Actor O) (deeds : List (Deed N S)) (b : Actor O) : Type 0 where
    pub step : ActorStep (standing_of as_open a) deeds (standing_of as_open b)
    pub says : entries_of b ≡ entries_of a ++ entries_shown deeds
    pub name : b.name ≡ a.name

  -- a worker's step: an actor's, the reaper's, or that of the I/O worker, who does nothing
  pub data WorkerDoes (w : ℕ) (old new : List (Actor O)) (deeds : List (Deed N S)) : Type 0 where
    acts_so : (a b : Actor O) → slice_get old w ≡ Some a → new ≡ slice_set old w b → ActorDoes a deeds b → WorkerDoes w old new deeds
    reaps_so : w ≡ length old → new ≡ old → ReaperStep deeds → WorkerDoes w old new deeds
    serves_so : length old < w → new ≡ old → deeds ≡ [] → WorkerDoes w old new deeds

  pub record WorkerSteps (w : ℕ) (old new : List (Actor O)) (before after : List (Piece N S)) : Type 0 where
    pub deeds : List (Deed N S)
    pub does : WorkerDoes w old new deeds
    pub adds : AddsDeeds w (w == length old) deeds before after

  -- a worker has made its step of a turn
  pub data HasStepped (w : ℕ) (old now : List (Actor O)) (deeds : List (Deed N S)) : Type 0 where
    acted : (a b : Actor O) → slice_get old w ≡ Some a → slice_get now w ≡ Some b → ActorDoes a deeds b → HasStepped w old now deeds
    reaped : w ≡ length old → ReaperStep deeds → HasStepped w old now deeds
    served : length old < w → deeds ≡ [] → HasStepped w old now deeds

  -- these workers have made their steps, one after another
  pub record HaveStepped (done : List ℕ) (old now : List (Actor O)) (before after : List (Piece N S)) : Type 0 where
    pub steps : ℕ → List (Deed N S)
    pub count : length now ≡ length old
    pub not_yet : (w : ℕ) → times w done ≡ 0 → slice_get now w ≡ slice_get old w
    pub stepped : (w : ℕ) → times w done ≡ 1 → HasStepped w old now (steps w)
    pub by : (w : ℕ) → AreActsBy w (all_acts (steps w))
    pub adds : after ≡ before ++ flat_map (λ w. deed_pieces w (w == length old) (steps w)) done

  -- each worker has made its step, in the order that is drawn
  pub record TurnSteps (seed drawn after_drawn : ℕ) (old new : List (Actor O)) (before after : List (Piece N S)) : Type 0 where
    pub order : List ℕ
    pub is_order : IsOrder seed drawn (range_with_len 0 (length old + 2)) order after_drawn
    pub have : HaveStepped order old new before after

module _ {N S : Type 0} where
  -- the orders of turns are drawn from a seed, up to this number
  abbrev pub DrawsUpTo : (seed : ℕ) → List ℕ → (x : ℕ) → List (OneTurn N S) → List (List ℕ) → (now : ℕ) → Type 0
  DrawsUpTo seed workers x [] orders now = (orders ≡ []) × (now ≡ x)
  DrawsUpTo seed workers x (turn ∷ turns) [] now = ⊥
  DrawsUpTo seed workers x (turn ∷ turns) (order ∷ orders) now =
      (after : ℕ) × IsOrder seed x workers order after × DrawsUpTo seed workers after turns orders now

  -- each worker's acts of a turn are by its own number, the last of which is the conductor's
  pub record TurnBy (conductor : ℕ) (turn : OneTurn N S) : Type 0 where
    pub conducted : AreActsBy conductor (all_acts turn.begins)
    pub stepped : (w : ℕ) → w < conductor → AreActsBy w (all_acts (turn_step w turn))

  abbrev pub TurnsBy : (conductor : ℕ) → List (OneTurn N S) → Type 0
  TurnsBy conductor [] = Unit {0}
  TurnsBy conductor (turn ∷ turns) = TurnBy conductor turn × TurnsBy conductor turns

  -- the pieces of a turn whose workers step in this order, where the reaper has this number and the conductor the next but one; and of turns
  abbrev pub turn_pieces : (reaper : ℕ) → List ℕ → OneTurn N S → List (Piece N S)
  turn_pieces reaper order turn = deed_pieces (reaper + 2) false turn.begins ++ flat_map (λ w. deed_pieces w (w == reaper) (turn_step w turn)) order

  abbrev pub turns_pieces : (reaper : ℕ) → List (List ℕ) → List (OneTurn N S) → List (Piece N S)
  turns_pieces reaper [] turns = []
  turns_pieces reaper (order ∷ orders) [] = []
  turns_pieces reaper (order ∷ orders) (turn ∷ turns) = turn_pieces reaper order turn ++ turns_pieces reaper orders turns

  abbrev pub sequence_pieces : (reaper : ℕ) → List (List ℕ) → Turned N S → List (Piece N S)
  sequence_pieces reaper orders t = turns_pieces reaper orders t.turns ++ deed_pieces (reaper + 2) false (Looks t.last ∷ [])

  -- a turn begins: the root has ended, or else it is asked where that is due
  pub record EndsHere (conductor : ℕ) (before after : List (Piece N S)) : Type 0 where
    pub seen : Moment N S
    pub look : IsLookAt Nothing seen
    pub ended : is_ended look.sight.root ≡ true
    pub adds : AddsActs conductor (Said seen ∷ []) [] before after

  pub record BeginsTurn (conductor : ℕ) (standing : List ActorStanding) (before after : List (Piece N S)) : Type 0 where
    pub begins : List (Deed N S)
    pub so : Begins standing begins
    pub adds : AddsDeeds conductor false begins before after

  abbrev pub BeginsOrEnds : Bool → (conductor : ℕ) → List ActorStanding → (before after : List (Piece N S)) → Type 0
  BeginsOrEnds true conductor standing before after = BeginsTurn conductor standing before after
  BeginsOrEnds false conductor standing before after = EndsHere conductor before after

module _ {O N S : Type 0} where
  -- what an actor has said in turns, under its name
  pub record HasSaid (i : ℕ) (turns : List (OneTurn N S)) (a b : Actor O) : Type 0 where
    pub says : entries_of b ≡ entries_of a ++ entries_shown (deeds_in (map (turn_step i) turns))
    pub name : b.name ≡ a.name

module _ {O N S : Type 0} (as_open : O → OpenSock) where
  -- the run has come so far by these turns, each in its order; drawn was the last number drawn
  pub record HasCome (seed drawn : ℕ) (turns : List (OneTurn N S)) (orders : List (List ℕ)) (old now : List (Actor O)) (before after : List (Piece N S)) : Type 0 where
    pub go : TurnsGo 1 (standings as_open old) turns (standings as_open now)
    pub draws : DrawsUpTo seed (range_with_len 0 (length old + 2)) seed turns orders drawn
    pub count : length now ≡ length old
    pub by : TurnsBy (length old + 2) turns
    pub says : (i : ℕ) (a b : Actor O) → slice_get old i ≡ Some a → slice_get now i ≡ Some b → HasSaid i turns a b
    pub pieces_are : after ≡ before ++ turns_pieces (length old) orders turns

  -- the run is over: the root has ended, or all turns were taken
  pub record RunsSo (seed limit : ℕ) (done : Bool) (old new : List (Actor O)) (before after : List (Piece N S)) : Type 0 where
    pub turned : Turned N S
    pub orders : List (List ℕ)
    pub go : TurnsGo 1 (standings as_open old) turned.turns (standings as_open new)
    pub few : length turned.turns ≤ limit
    pub rising : NeverFall turned.first (map (λ turn. turn.reading) turned.turns)
    pub last : IsLookAt Nothing turned.last
    pub over : is_ended last.sight.root ≡ false → length turned.turns ≡ limit
    pub done_is : done ≡ is_ended last.sight.root
    pub drawn : Draws seed (range_with_len 0 (length old + 2)) seed turned.turns orders
    pub count : length new ≡ length old
    pub says : (i : ℕ) (a b : Actor O) → slice_get old i ≡ Some a → slice_get new i ≡ Some b → HasSaid i turned.turns a b
    pub by : TurnsBy (length old + 2) turned.turns
    pub last_by : AreActsBy (length old + 2) (Said turned.last ∷ [])
    pub pieces_are : after ≡ before ++ sequence_pieces (length old) orders turned
