-- The closed sockets that a desk keeps for the reaper (own choice).
use Rattle.std.specs.Prelude.{◌≡◌, ◌≢◌, ◌≤◌, ◌==◌, ◌&&◌, ◌||◌, ◌++◌, ℕ, Bool, true, not, [], ◌∷◌, Some, filter}
use Rattle.zq_base.specs.declared.ids.ObjId.{ObjId}
use Rattle.zq_base.specs.declared.ids.SlotId.{SlotId}
use Rattle.spec_control.specs.declared.letter.Letter.{Letter}
use Rattle.spec_control.specs.declared.entry.Answered.{Answered}
use Rattle.spec_control.specs.declared.entry.Did.TheVariants.{Delivered}
use Rattle.spec_control.specs.declared.entry.Item.TheVariants.{Event as IsEvent}
use Rattle.spec_control.specs.declared.entry.SeenEmpty.TheVariants.{Reapers}
use Rattle.spec_control.specs.declared.entry.Sight.{Sight}
use Rattle.spec_control.specs.Stage.{is_used}
use Rattle.spec_control.specs.Row.{Row, is_socket}
use Rattle.spec_control.specs.Rows.{is_owner, obj}
use Rattle.spec_control.specs.Control.{Control, begun, id}
use Rattle.spec_control.specs.ControlRun.{AreEmpty, after_all}
use Rattle.spec_control.specs.Has.{has_after}
use Rattle.spec_control.specs.Moments.{first_waiting, items_in, left_after}
use Rattle.desk.specs.declared.delivery.Delivery.{Delivery}
use Rattle.desk.specs.declared.delivery.Delivery.TheVariants.{Done, Empty}
use Rattle.ctl_state.specs.Listed.{Listed}
use Rattle.ctl_plane.specs.Past.{control_of, only_given, with_event}
use Rattle.control_laws.specs.Closed.{lives, unclosed}
use Rattle.plain_desk.specs.Lent.{AreSockets, Lent, Sees, moments_of}

-- they are the closed sockets, but for such that have ended, in the order of their closing, with room for those that may still be closed
pub record IsReaping (c : Control) (kept : Listed ObjId) : Type 0 where
  pub same : filter (lives c) kept.items ≡ filter (lives c) c.closed
  pub sockets : AreSockets c kept.items
  pub closed_sockets : AreSockets c c.closed
  pub room : unclosed c ≤ kept.spare

-- a closed socket that the reaper took over
abbrev pub is_taken : Row → Bool
is_taken o = is_socket o.kind && is_used o.request

module _ {G N S : Type 0} where
  -- an object of the caller's, or a closed socket that the reaper took over, whose commands come to this mailbox, while it lives
  abbrev pub served_by : Lent G N S → (slot i : ℕ) → Bool
  served_by d slot i =
      let c : Control = control_of d.past in
      slot == (obj c.rows i).slot && (not (i == 0) && (lives c (id i) && (is_taken (obj c.rows i) || is_owner d.caller (has_after i d.items))))

  -- the mailbox of a closed socket that was taken over and lives, which who has the socket knows for its mailbox
  pub record IsOfClosed (slot : ℕ) (d : Lent G N S) : Type 0 where
    pub socket : ℕ
    pub here : slot ≡ (obj (control_of d.past).rows socket).slot
    pub kind : is_socket (obj (control_of d.past).rows socket).kind ≡ true
    pub serves : served_by d slot socket ≡ true
    pub left : has_after socket (items_in (moments_of d)) ≡ Some d.caller → (obj (left_after socket (moments_of d)).rows socket).slot ≡ slot

  -- the first of the reaper's mailboxes in which a command waits
  pub record WaitsFirst (slot : SlotId) (d : Lent G N S) : Type 0 where
    pub first : first_waiting (after_all d.items (begun d.past.workers)) ≡ Some slot.0
    pub here : first_waiting (control_of d.past) ≡ Some slot.0
    pub some : (control_of d.past).boxes slot.0 ≢ []
    pub full : AreEmpty (control_of d.past) Reapers → ⊥
    pub whose : slot.0 ≢ 0 → IsOfClosed slot.0 d

  -- a command of this mailbox was processed for the caller; of the ends of closed sockets that are on their way it may have brought the first
  pub record HearsFrom (slot : SlotId) (old new : Lent G N S) : Type 0 where
    pub letter : Letter
    pub answered : Answered N S
    pub past : new.past ≡ only_given new.past.given (with_event (Delivered slot letter answered) old.past)
    pub items : new.items ≡ old.items ++ IsEvent (record { by = old.caller; did = Delivered slot letter answered }) ∷ []
    pub caller : new.caller ≡ old.caller

  -- that of the first of the reaper's mailboxes
  pub record HearsFirst (old new : Lent G N S) : Type 0 where
    pub slot : SlotId
    pub first : first_waiting (after_all old.items (begun old.past.workers)) ≡ Some slot.0
    pub hears : HearsFrom slot old new

  -- all of these are empty
  pub record SeesNoneWaiting (old new : Lent G N S) : Type 0 where
    pub sight : Sight
    pub sees : Sees Reapers sight old new

  -- what a delivery of the reaper's found
  abbrev pub FindsFirst : Delivery → (old new : Lent G N S) → Type 0
  FindsFirst Done old new = HearsFirst old new
  FindsFirst Empty old new = SeesNoneWaiting old new
