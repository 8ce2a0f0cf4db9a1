-- What a listener or a session is made with, and the room that is kept for it and its socket (own choice, after libzmq's `io_thread_t` and `own_t`).
use Rattle.std.specs.Prelude.{◌≡◌, ◌<◌, ◌^◌, ℕ, length}
use Rattle.zq_base.specs.declared.ids.ObjId.{ObjId}
use Rattle.spec_control.specs.Rows.{obj}
use Rattle.spec_control.specs.Control.{Control, next_object}
use Rattle.spec_control.specs.After.{worker_slot}
use Rattle.ctl_state.specs.declared.state.State.{State}
use Rattle.ctl_state.specs.Listed.{with_room}
use Rattle.ctl_state.specs.Lists.{with_holds}
use Rattle.ctl_state.specs.Parts.{on_lists}
use Rattle.ctl_state.specs.Stands.{Stands}
use Rattle.ctl_moves.specs.declared.owners.Owners.{Owners}
use Rattle.ctl_moves.specs.Room.{with_both}

-- there are I/O workers, each with its mailbox
pub record HasWorkers (c : Control) : Type 0 where
  pub some : 0 < c.workers
  pub there : c.workers < c.slots

-- a socket with its mailbox, and the next object with that of the worker that gets it
pub record AreServed (c : Control) (socket : ObjId) (o : Owners) : Type 0 where
  pub first : o.first ≡ socket
  pub last : o.last.0 ≡ next_object c
  pub first_slot : (obj c.rows socket.0).slot ≡ o.first_slot.0
  pub last_slot : worker_slot c (next_object c) ≡ o.last_slot.0

module _ {L : Type 0} where
  -- there are workers, and the next object has a number
  pub record HasNext (s : State L) : Type 0 where
    pub control : Control
    pub stands : Stands s control
    pub workers : HasWorkers control
    pub few : next_object control < 2 ^ 32

  -- room for so many commands in the mailboxes of the two, and for a hold of the socket
  abbrev pub with_served : (first last : ℕ) → Owners → State L → State L
  with_served first last o s = on_lists (with_holds (with_room 1) o.first.0) (with_both first last o s)

  -- both mailboxes are there, and the socket's lists
  pub record HaveSeats (s : State L) (o : Owners) : Type 0 where
    pub first_box : o.first_slot.0 < length s.boxes
    pub last_box : o.last_slot.0 < length s.boxes
    pub list : o.first.0 < length s.objects.lists

  -- all that room was kept
  pub record KeepsServed (first last : ℕ) (s : State L) (o : Owners) : Type 0 where
    pub before : State L
    pub seats : HaveSeats before o
    pub is : s ≡ with_served first last o before
