-- What the taking of one letter for an open socket does (own choice, after libzmq's `process_commands`).
use Rattle.std.specs.Prelude.{◌≡◌, ◌==◌, ℕ, Bool, false, List, [], Some, find, slice_get}
use Rattle.std.specs.List.{list_any}
use Rattle.zq_base.specs.declared.ids.ObjId.{ObjId}
use Rattle.spec_control.specs.Control.{Control, begun}
use Rattle.spec_control.specs.ControlRun.{after_all}
use Rattle.spec_control.specs.Moments.{items_in}
use Rattle.spec_run.specs.Act.{Act, moments_in}
use Rattle.spec_run.specs.Event.{TakesLetter}
use Rattle.spec_run.specs.OpenSocket.{OpenSock, PassesItems}
use Rattle.spec_run.specs.Standing.{FetchesOne, with_open}
use Rattle.zq_world.specs.Piece.{Piece, AddsActs, acts_in}
use Rattle.zq_world.specs.Seats.{socks_in, sockets_of}
use Rattle.zq_world.specs.Stepping.{standing_of, entries_of}
use Rattle.zq_world.specs.declared.seats.Seat.{Seat}
use Rattle.zq_world.specs.declared.seats.Seat.TheVariants as seat
use Rattle.zq_world.specs.declared.actor.Actor.{Actor}

-- one of these sockets has this mailbox
abbrev pub has_slot : ℕ → List OpenSock → Bool
has_slot slot socks = list_any (λ s. s.slot == slot) socks

module _ {N S : Type 0} where
  -- the control plane as what was done left it, which began with one I/O worker
  abbrev pub control_told : List (Piece N S) → Control
  control_told pieces = after_all (items_in (moments_in (acts_in pieces))) (begun 1)

  -- one letter of a socket's mailbox is taken for it, with the look behind it, and the socket goes through these items
  pub record FetchesLetter (caller : ℕ) (old new : OpenSock) (before after : List (Piece N S)) : Type 0 where
    pub acts : List (Act N S)
    pub takes : TakesLetter old.slot acts
    pub goes : PassesItems (moments_in acts) old new
    pub adds : AddsActs caller acts [] before after

module _ {O : Type 0} (as_open : O → OpenSock) where
  -- a seat has an open socket with this mailbox
  abbrev pub seat_has : ℕ → Seat O → Bool
  seat_has slot seat.Refused = false
  seat_has slot (seat.Closed object) = false
  seat_has slot (seat.Open object socket) = (as_open socket).slot == slot

  -- the first open socket with this mailbox has the seat of this place
  pub record IsFirstWith (slot place : ℕ) (seats : List (Seat O)) : Type 0 where
    pub object : ObjId
    pub socket : O
    pub here : slice_get seats place ≡ Some (seat.Open object socket)
    pub slot_is : (as_open socket).slot ≡ slot
    pub finds : find (λ s. s.slot == slot) (socks_in as_open seats) ≡ Some (as_open socket)

module _ {O N S : Type 0} (as_open : O → OpenSock) where
  -- one letter is taken for the first open socket with this mailbox
  pub record FetchesAt (caller slot : ℕ) (old new : List (Seat O)) (before after : List (Piece N S)) : Type 0 where
    pub socket : OpenSock
    pub next : OpenSock
    pub acts : List (Act N S)
    pub finds : find (λ s. s.slot == slot) (socks_in as_open old) ≡ Some socket
    pub takes : TakesLetter slot acts
    pub goes : PassesItems (moments_in acts) socket next
    pub mine : sockets_of as_open new ≡ with_open next (sockets_of as_open old)
    pub adds : AddsActs caller acts [] before after

  -- and so for that of an actor, which says nothing
  pub record FetchesSo (number slot : ℕ) (old new : Actor O) (before after : List (Piece N S)) : Type 0 where
    pub acts : List (Act N S)
    pub fetches : FetchesOne (standing_of as_open old) slot acts (standing_of as_open new)
    pub adds : AddsActs number acts [] before after
    pub says : entries_of new ≡ entries_of old
    pub name : new.name ≡ old.name
