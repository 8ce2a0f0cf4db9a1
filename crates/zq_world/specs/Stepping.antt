-- What an actor's step does (own choice).
use Rattle.std.specs.Prelude.{◌≡◌, ◌+◌, ℕ, Bool, false, List, [], ◌∷◌, ◌++◌, Option, Some, None, if◌then◌else◌, slice_get}
use Rattle.zq_base.specs.declared.ids.ObjId.{ObjId}
use Rattle.spec_run.specs.declared.script.Call.TheVariants as call
use Rattle.spec_pattern.specs.declared.answers.Skip.{Skip}
use Rattle.spec_run.specs.declared.answer.Answer.{Answer}
use Rattle.spec_run.specs.declared.journal.Entry.{Entry}
use Rattle.spec_run.specs.declared.journal.ActorLines.{ActorLines}
use Rattle.spec_run.specs.declared.script.Call.{Call}
use Rattle.spec_run.specs.declared.script.Line.{Line}
use Rattle.spec_run.specs.Script.{line_is_over}
use Rattle.spec_run.specs.Act.{Act, Deed}
use Rattle.spec_run.specs.OpenSocket.{OpenSock}
use Rattle.spec_run.specs.Standing.{Sockets, ActorStanding, DoesLine, ClosesOne}
use Rattle.spec_run.specs.InTurns.{ActorStep}
use Rattle.spec_run.specs.Journal.{entries_shown}
use Rattle.zq_world.specs.Piece.{Piece, AddsActs, AddsDeeds}
use Rattle.zq_world.specs.Seats.{sockets_of, AllAgree}
use Rattle.zq_world.specs.MayAsk.{MayAskLines}
use Rattle.zq_world.specs.declared.seats.Seat.{Seat}
use Rattle.zq_world.specs.declared.seats.Seat.TheVariants as seat
use Rattle.zq_world.specs.declared.actor.Actor.{Actor}

-- the place of the socket that a line calls
abbrev pub called_place : Call → Option ℕ
called_place (call.Socket kind options) = None
called_place (call.Bind place at) = Some place
called_place (call.Connect place to) = Some place
called_place (call.Send place m) = Some place
called_place (call.Recv place tries) = Some place
called_place (call.Subscribe place topic) = Some place
called_place (call.Unsubscribe place topic) = Some place
called_place (call.Unbind place at) = Some place
called_place (call.Disconnect place at) = Some place
called_place (call.Close place) = None
called_place call.Term = None

-- a caller's sockets, what the tries of its line dropped so far, and all that was done so far
pub record Midway (N S : Type 0) : Type 0 where
  pub mine : Sockets
  pub told : List Skip
  pub pieces : List (Piece N S)

module _ {N S : Type 0} where
  -- what this line asks is done, as a try of any line that asks it
  pub record DoesAsked (caller : ℕ) (asks : Call) (answer : Answer) (old new : Midway N S) : Type 0 where
    pub pump : List (Act N S)
    pub acts : List (Act N S)
    pub skips : List Skip
    pub does : (line : Line) (all : List Skip) (over : Bool) →
        DoesLine asks old.mine (record { line = line; pump = pump; call = acts; skips = skips; told = all; answer = answer; over = over }) new.mine
    pub tells : new.told ≡ old.told ++ skips
    pub adds : AddsActs caller (pump ++ acts) skips old.pieces new.pieces

module _ {O : Type 0} where
  -- what an actor has said
  abbrev pub entries_of : Actor O → List Entry
  entries_of actor = actor.entries.items

  abbrev pub lines_of : Actor O → ActorLines
  lines_of actor = record { name = actor.name.now; entries = actor.entries.items }

module _ {O : Type 0} (as_open : O → OpenSock) where
  -- how it stands
  abbrev pub standing_of : Actor O → ActorStanding
  standing_of actor = record {
    lines = actor.lines.now;
    tried = actor.tried;
    told = actor.told.items;
    mine = sockets_of as_open actor.seats;
  }

module _ {O N S : Type 0} (as_open : O → OpenSock) where
  -- with these seats, so many messages told, and so much done
  abbrev pub at_seats : List (Seat O) → List Skip → List (Piece N S) → Midway N S
  at_seats seats told pieces = record { mine = sockets_of as_open seats; told = told; pieces = pieces }

  -- the socket of a seat was open, and is closed
  pub record ShutsAt (caller place : ℕ) (old new : List (Seat O)) (before after : List (Piece N S)) : Type 0 where
    pub object : ObjId
    pub socket : O
    pub here : slice_get old place ≡ Some (seat.Open object socket)
    pub acts : List (Act N S)
    pub closes : ClosesOne (as_open socket) acts (sockets_of as_open old) (sockets_of as_open new)
    pub adds : AddsActs caller acts [] before after

module _ {O : Type 0} where
  -- a try of a line was answered so: with that the line is over and said, or else it stays
  pub record AnswersOne (line : Line) (rest : List Line) (answer : Answer) (old new : Actor O) : Type 0 where
    pub over : Bool
    pub over_is : over ≡ line_is_over old.tried line.call answer
    pub lines : new.lines.now ≡ (if over then rest else old.lines.now)
    pub tried : new.tried ≡ (if over then 0 else old.tried + 1)
    pub told : new.told.items ≡ (if over then [] else old.told.items)
    pub says : new.entries.items ≡ (if over then old.entries.items ++ record { line = line.number; answer = answer; skips = old.told.items } ∷ [] else old.entries.items)
    pub name : new.name ≡ old.name

module _ {W O : Type 0} (as_open : O → OpenSock) (agrees : W → ℕ → O → Type 0) (was_made : W → ℕ → Type 0) where
  -- the sockets of an actor agree with what was done, and each of its lines may be asked
  pub record ActorAgrees (way : W) (number : ℕ) (actor : Actor O) : Type 0 where
    pub sockets : AllAgree as_open agrees was_made way number actor.seats
    pub may : MayAskLines actor.lines.now

module _ {O N S : Type 0} (as_open : O → OpenSock) where
  -- an actor's step: what it does, and what it says then
  pub record StepsSo (number : ℕ) (old new : Actor O) (before after : List (Piece N S)) : Type 0 where
    pub deeds : List (Deed N S)
    pub step : ActorStep (standing_of as_open old) deeds (standing_of as_open new)
    pub adds : AddsDeeds number false deeds before after
    pub says : entries_of new ≡ entries_of old ++ entries_shown deeds
    pub name : new.name ≡ old.name

module _ {W O : Type 0} (agrees : W → ℕ → O → Type 0) (was_made : W → ℕ → Type 0) where
  -- the sockets of other callers agree still, and what was made was made
  pub record LeavesOthers (caller : ℕ) (old new : W) : Type 0 where
    pub sockets : (k : ℕ) (s : O) → (k ≡ caller → ⊥) → agrees old k s → agrees new k s
    pub numbers : (o : ℕ) → was_made old o → was_made new o
