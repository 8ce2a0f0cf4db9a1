-- How many commands may still be put into a mailbox, and how much room an event takes for what it makes (own choice).
use Rattle.std.specs.Prelude.{◌≤◌, ◌+◌, ◌==◌, ℕ, cond, List, length, sum_by}
use Rattle.spec_control.specs.declared.entry.Did.{Did}
use Rattle.spec_control.specs.declared.entry.Did.TheVariants.{Asked, Delivered, Delimited}
use Rattle.spec_control.specs.declared.entry.Item.{Item}
use Rattle.spec_control.specs.Stage.{is_alive, has_ended, is_unused}
use Rattle.spec_control.specs.Place.{to_put}
use Rattle.spec_control.specs.Row.{Row, StopPut, link_may, is_socket, is_unowned}
use Rattle.spec_control.specs.Rows.{Rows, PairRow, obj}
use Rattle.spec_control.specs.Control.{Control, begun}
use Rattle.spec_control.specs.After.{owner_or_root, after}
use Rattle.spec_control.specs.ControlRun.{Fits, after_all, IsControlRun}
use Rattle.control_laws.specs.Move.{Move, LinkMoves, EndMoves, ObjectEnds, ObjectMade, PairDrawn, LetterPut}
use Rattle.control_laws.specs.OwnMoves.{own_moves}

-- for an object itself: its Term, and a socket's Stop
abbrev pub down_to_come : Row → ℕ
down_to_come o = cond (is_alive o.stage) 1 0 + cond (link_may StopPut o) 1 0

-- about it for its owner: its TermReq or Reap, and its TermAck
abbrev pub up_to_come : Row → ℕ
up_to_come o = cond (has_ended o.stage) 0 (cond (is_unused o.request) 1 0 + cond (is_unowned o.owner) 0 1)

module _ (slot : ℕ → ℕ) (m : ℕ) where
  -- so many, where this object's mailbox is this one
  abbrev pub for_slot : ℕ → ℕ → ℕ
  for_slot i n = cond (slot i == m) n 0

  -- of an object
  abbrev pub row_to_come : Row → ℕ
  row_to_come o = cond (o.slot == m) (down_to_come o) 0 + for_slot (owner_or_root o.owner) (up_to_come o)

  -- of a pair: what each end may still put is for the other end's owner
  abbrev pub pair_to_come : PairRow → ℕ
  pair_to_come p = for_slot p.a_owner (to_put p.b) + for_slot p.b_owner (to_put p.a)

  -- of all
  abbrev pub all_to_come : Rows → ℕ
  all_to_come s = sum_by row_to_come s.objects + sum_by pair_to_come s.pairs

  -- the room that a move takes: of a socket two commands in its own mailbox and two in the root's, of a listener or session one and two, of a pair two in that of each owner; and one for a command that is put at once
  abbrev pub move_room : Move → ℕ
  move_room (LinkMoves i event) = 0
  move_room (EndMoves e event) = 0
  move_room (ObjectEnds i) = 0
  move_room (ObjectMade row) = cond (row.slot == m) (cond (is_socket row.kind) 2 1) 0 + for_slot (owner_or_root row.owner) 2
  move_room (PairDrawn a b) = for_slot a 2 + for_slot b 2
  move_room (LetterPut to word) = for_slot to 1

-- the mailbox of each object
abbrev pub slots_of : Rows → ℕ → ℕ
slots_of s i = (obj s i).slot

-- what may still be put into a mailbox
abbrev pub to_come : Control → ℕ → ℕ
to_come c m = all_to_come (slots_of c.rows) m c.rows

-- the room that an event takes in a mailbox for what it makes
abbrev pub reserved : {N S : Type 0} → Control → Did N S → ℕ → ℕ
reserved c did m = sum_by (move_room (slots_of (after did c).rows) m) (own_moves c did)

-- how many commands an event takes from it
abbrev pub took_from : {N S : Type 0} → Did N S → ℕ → ℕ
took_from (Asked req reply h) m = 0
took_from (Delivered slot letter h) m = cond (slot.0 == m) 1 0
took_from (Delimited e h) m = 0

-- what is in a mailbox and what may still come into it grows by the room that an event takes, and by no more: with so much kept free at each make no put lacks room
abbrev pub RoomIsKept : (N S : Type 0) → Type 0
RoomIsKept N S = (workers : ℕ) (items : List (Item N S)) → IsControlRun (begun workers) items →
    let c = after_all items (begun workers) in (did : Did N S) → Fits c did → (m : ℕ) →
    (length ((after did c).boxes m) + to_come (after did c) m) + took_from did m ≤ (length (c.boxes m) + to_come c m) + reserved c did m
