-- The one order of the events and looks of a context's callers (own choice).
use Rattle.std.specs.Prelude.{◌≡◌, ◌+◌, ℕ, List, [], ◌∷◌, length}
use Rattle.spec_control.specs.declared.entry.Did.{Did}
use Rattle.spec_control.specs.declared.entry.Item.{Item}
use Rattle.spec_control.specs.declared.entry.Item.TheVariants.{Event as IsEvent, Seen as IsSeen}
use Rattle.spec_control.specs.Control.{begun}
use Rattle.spec_control.specs.ControlRun.{after_all, FitsItem, IsControlRun}
use Rattle.spec_control.specs.Names.{AreNamed, FitsNames}
use Rattle.spec_control.specs.Has.{AreBy, IsByItem}
use Rattle.plain_desk.specs.declared.mark.Mark.{Mark}
use Rattle.plain_desk.specs.declared.mark.Mark.TheVariants.{Event, Seen}

-- how many of these are events
abbrev pub events_in : List Mark → ℕ
events_in [] = 0
events_in (Event by ∷ ms) = 1 + events_in ms
events_in (Seen sight ∷ ms) = events_in ms

module _ {N S : Type 0} where
  -- these events and looks in their order; as many events are there as are marked
  abbrev pub order_of : List Mark → List (Did N S) → List (Item N S)
  order_of [] dids = []
  order_of (Event by ∷ ms) [] = []
  order_of (Event by ∷ ms) (did ∷ dids) = IsEvent (record { by = by; did = did }) ∷ order_of ms dids
  order_of (Seen sight ∷ ms) dids = IsSeen sight ∷ order_of ms dids

  -- each event is marked, and no other is
  abbrev pub AreMarked : List Mark → List (Did N S) → Type 0
  AreMarked ms dids = events_in ms ≡ length dids

  -- the order is a control run by callers that may make it, and pipes go by the names that they were given
  pub record IsOrder (workers : ℕ) (items : List (Item N S)) : Type 0 where
    pub run : IsControlRun (begun workers) items
    pub named : AreNamed [] items
    pub by : AreBy [] (begun workers) items

  -- an item may come behind it
  pub record FitsOrder (workers : ℕ) (items : List (Item N S)) (item : Item N S) : Type 0 where
    pub fits : FitsItem (after_all items (begun workers)) item
    pub names : FitsNames items item
    pub by : IsByItem items (after_all items (begun workers)) item
