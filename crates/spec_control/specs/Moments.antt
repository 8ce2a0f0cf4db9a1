-- What a caller did and saw, each item with the control plane as it found it (own choice).
use Rattle.std.specs.Prelude.{◌==◌, ◌||◌, ℕ, Bool, false, not, List, [], ◌∷◌, Option, if◌then◌else◌, filter, find, map}
use Rattle.spec_control.specs.declared.entry.Item.{Item}
use Rattle.spec_control.specs.declared.entry.Item.TheVariants.{Event, Seen}
use Rattle.spec_control.specs.Stage.{is_used}
use Rattle.spec_control.specs.Rows.{obj, is_owner}
use Rattle.spec_control.specs.Control.{Control, begun}
use Rattle.spec_control.specs.ControlRun.{after_item}
use Rattle.spec_control.specs.Held.{caller_of}
use Rattle.spec_control.specs.Has.{acts_in, taken_in}
use Rattle.spec_control.specs.OwnAsks.{is_none}

-- an event or a look, with the control plane as it found it
pub record Moment (N S : Type 0) : Type 0 where
  pub found : Control
  pub item : Item N S

module _ {N S : Type 0} where
  -- the control plane as an item left it
  abbrev pub left_by : Moment N S → Control
  left_by m = after_item m.item m.found

  -- each item of an order with what it found, from this state on
  abbrev pub moments_from : Control → List (Item N S) → List (Moment N S)
  moments_from c [] = []
  moments_from c (item ∷ items) = record { found = c; item = item } ∷ moments_from (after_item item c) items

  -- those of one caller
  abbrev pub moments_by : ℕ → List (Moment N S) → List (Moment N S)
  moments_by k moments = filter (λ m. caller_of m.item == k) moments

  -- the items of moments
  abbrev pub items_in : List (Moment N S) → List (Item N S)
  items_in moments = map (λ m. m.item) moments

  -- an object acts in an item, or is taken in with it
  abbrev pub is_of_item : ℕ → Control → Item N S → Bool
  is_of_item i c (Event entry) = is_owner i (acts_in c entry.did) || is_owner i (taken_in entry.did)
  is_of_item i c (Seen sight) = false

  -- the control plane as the last moment of an object left it
  abbrev pub left_then : ℕ → Moment N S → Control → Control
  left_then i m c = if is_of_item i m.found m.item then left_by m else c

  abbrev pub left_over : ℕ → Control → List (Moment N S) → Control
  left_over i c [] = c
  left_over i c (m ∷ moments) = left_over i (left_then i m c) moments

  abbrev pub left_after : ℕ → List (Moment N S) → Control
  left_after i moments = left_over i (begun 0) moments

-- the mailboxes that the reaper has: the root's, and those of closed sockets that it took over, in the order of closing
abbrev pub reaper_slots : Control → List ℕ
reaper_slots c = 0 ∷ map (λ o. (obj c.rows o.0).slot) (filter (λ o. is_used (obj c.rows o.0).request) c.closed)

-- the first of them that is not empty
abbrev pub first_waiting : Control → Option ℕ
first_waiting c = find (λ slot. not (is_none (c.boxes slot))) (reaper_slots c)
