-- The room that a pair takes before it is made, and its number (own choice).
use Rattle.std.specs.Prelude.{◌≡◌, ◌<◌, ◌+◌, ◌++◌, ◌∷◌, [], ℕ, Bool, cond, length}
use Rattle.mailbox.specs.Mail.{with_spare}
use Rattle.zq_base.specs.declared.ids.ObjId.{ObjId}
use Rattle.spec_control.specs.Rows.{obj}
use Rattle.spec_control.specs.Control.{Control}
use Rattle.ctl_state.specs.declared.state.State.{State}
use Rattle.ctl_state.specs.Boxes.{mail_at, with_mail}
use Rattle.ctl_state.specs.Listed.{with_room}
use Rattle.ctl_state.specs.Lists.{with_ends}
use Rattle.ctl_state.specs.Pairs.{entry_drawn}
use Rattle.ctl_state.specs.Parts.{on_boxes, on_lists, on_pairs}
use Rattle.ctl_moves.specs.declared.owners.Owners.{Owners}

-- these are the two objects, with their mailboxes
pub record AreOwners (c : Control) (x y : ObjId) (o : Owners) : Type 0 where
  pub first : o.first ≡ x
  pub last : o.last ≡ y
  pub first_slot : (obj c.rows x.0).slot ≡ o.first_slot.0
  pub last_slot : (obj c.rows y.0).slot ≡ o.last_slot.0

-- the connecting end's owner, and the bound one's
abbrev pub connecting : Bool → Owners → ObjId
connecting a_first o = cond a_first o.first o.last

abbrev pub bound : Bool → Owners → ObjId
bound a_first o = cond a_first o.last o.first

module _ {L : Type 0} where
  -- room for so many commands more in a mailbox
  abbrev pub with_more : ℕ → ℕ → State L → State L
  with_more k more s = on_boxes (with_mail k (with_spare ((mail_at s.boxes k).spare + more) (mail_at s.boxes k))) s

  -- in the mailboxes of two owners
  abbrev pub with_both : (first last : ℕ) → Owners → State L → State L
  with_both first last o s = with_more o.last_slot.0 last (with_more o.first_slot.0 first s)

  -- room for all commands that may come of a pair: two for the owner of each end, and the bind of the last
  abbrev pub with_commands : Owners → State L → State L
  with_commands o s = with_both 2 3 o s

  -- and for its ends in the lists of their owners
  abbrev pub with_places : Owners → State L → State L
  with_places o s = on_lists (with_ends (with_room 1) o.last.0) (on_lists (with_ends (with_room 1) o.first.0) s)

  abbrev pub with_pair_room : Owners → State L → State L
  with_pair_room o s = with_places o (with_commands o s)

  -- the same with a pair's number drawn: its end a is the connecting one's
  abbrev pub with_drawn : Bool → Owners → State L → State L
  with_drawn a_first o s = on_pairs (λ es. es ++ entry_drawn (connecting a_first o) (bound a_first o) ∷ []) (with_pair_room o s)

  -- both mailboxes are there
  pub record HaveBoxes (s : State L) (o : Owners) : Type 0 where
    pub first : o.first_slot.0 < length s.boxes
    pub last : o.last_slot.0 < length s.boxes

  -- and both lists
  pub record HavePlaces (s : State L) (o : Owners) : Type 0 where
    pub first_box : o.first_slot.0 < length s.boxes
    pub last_box : o.last_slot.0 < length s.boxes
    pub first_list : o.first.0 < length s.objects.lists
    pub last_list : o.last.0 < length s.objects.lists

  -- room for so many commands was kept
  pub record KeepsCommands (first last : ℕ) (s : State L) (o : Owners) : Type 0 where
    pub before : State L
    pub boxes : HaveBoxes before o
    pub is : s ≡ with_both first last o before

  -- all of a pair's room was kept
  pub record KeepsRoom (s : State L) (o : Owners) : Type 0 where
    pub before : State L
    pub places : HavePlaces before o
    pub is : s ≡ with_pair_room o before

  -- a pair's number was drawn, and its room kept
  pub record HasDrawn (s : State L) (a_first : Bool) (o : Owners) : Type 0 where
    pub before : State L
    pub places : HavePlaces before o
    pub is : s ≡ with_drawn a_first o before
