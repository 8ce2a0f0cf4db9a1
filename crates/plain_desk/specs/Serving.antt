-- The mailbox of an I/O worker, whose listeners and sessions one caller takes in (own choice, after libzmq's `io_thread_t`).
use Rattle.std.specs.Prelude.{◌==◌, ◌&&◌, ◌||◌, ℕ, zero, suc, Bool, true, nat_le, not}
use Rattle.spec_control.specs.Rows.{is_owner, obj}
use Rattle.spec_control.specs.Control.{Control, next_object}
use Rattle.spec_control.specs.Has.{has_after}
use Rattle.ctl_plane.specs.Past.{control_of}
use Rattle.plain_desk.specs.Lent.{Lent}

module _ {G N S : Type 0} where
  -- an object whose commands come to this mailbox is this caller's, where it was taken in
  abbrev pub is_his : Lent G N S → (slot i : ℕ) → Bool
  is_his d slot i =
      let c : Control = control_of d.past in
      not ((obj c.rows i).plugged && slot == (obj c.rows i).slot) || is_owner d.caller (has_after i d.items)

  -- so is each of the first objects
  abbrev pub are_his : Lent G N S → (slot many : ℕ) → Bool
  are_his d slot zero = true
  are_his d slot (suc n) = is_his d slot n && are_his d slot n

  -- a worker's mailbox, all of whose objects that were taken in are this caller's
  abbrev pub is_workers : Lent G N S → ℕ → Bool
  is_workers d slot = not (slot == 0) && (nat_le slot d.past.workers && are_his d slot (next_object (control_of d.past)))
