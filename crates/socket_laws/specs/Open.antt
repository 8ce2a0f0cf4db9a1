-- An item of a caller that has a socket open, behind a control run (own choice, after libzmq's `socket_base_t`).
use Rattle.std.specs.Prelude.{◌≡◌, ℕ, true, List, [], ◌∷◌, ◌++◌, Some, map}
use Rattle.spec_control.specs.declared.entry.Did.{Did}
use Rattle.spec_control.specs.declared.entry.Did.TheVariants.{Asked, Delivered, Delimited}
use Rattle.spec_control.specs.declared.entry.Item.{Item}
use Rattle.spec_control.specs.declared.entry.Item.TheVariants.{Event, Seen}
use Rattle.spec_control.specs.Control.{Control, begun, owner_of, place_of, ends_of}
use Rattle.spec_control.specs.ControlRun.{after_all, IsControlRun}
use Rattle.spec_control.specs.Held.{asker, caller_of}
use Rattle.spec_control.specs.Has.{AreBy}
use Rattle.spec_control.specs.Moments.{Moment, items_in, left_after, moments_by, moments_from}
use Rattle.spec_control.specs.OwnAsks.{known_after}
use Rattle.spec_run.specs.OpenSocket.{SockEnd}

-- the ends of an object, each where it is
abbrev pub ends_at : ℕ → Control → List SockEnd
ends_at o c = map (λ e. record { end = e; place = place_of c e }) (ends_of o c)

module _ {N S : Type 0} where
  -- an event is of an object: its request, a command for it, or the delimiter of one of its ends
  abbrev pub IsOf : ℕ → Control → Did N S → Type 0
  IsOf o c (Asked req reply h) = asker req ≡ Some o
  IsOf o c (Delivered slot letter h) = letter.to.0 ≡ o
  IsOf o c (Delimited e h) = owner_of c e ≡ o

  -- and so is a look
  abbrev pub IsOfItem : ℕ → Control → Item N S → Type 0
  IsOfItem o c (Event entry) = IsOf o c entry.did
  IsOfItem o c (Seen sight) = Unit {0}

  -- what a caller did and saw in an order
  abbrev pub moments_of : (io : ℕ) → List (Item N S) → (by : ℕ) → List (Moment N S)
  moments_of io items by = moments_by by (moments_from (begun io) items)

  -- in a control run by callers that may make it, this one has this socket open, by its own items
  pub record HasOpen (io : ℕ) (items : List (Item N S)) (by o : ℕ) : Type 0 where
    pub run : IsControlRun (begun io) items
    pub callers : AreBy [] (begun io) items
    pub is_open : (known_after o (items_in (moments_of io items by))).open_socket ≡ true

  -- an item behind these, with the control plane as it found it
  abbrev pub moment_at : (io : ℕ) → List (Item N S) → Item N S → Moment N S
  moment_at io before item = record { found = after_all before (begun io); item = item }

  -- the control plane as the last moment of this object left it, of those of the caller of the item
  abbrev pub left_before : (io : ℕ) → List (Item N S) → Item N S → (o : ℕ) → Control
  left_before io before item o = left_after o (moments_of io before (caller_of item))

  -- an item comes to a socket that its caller has open
  pub record ComesTo (io : ℕ) (before : List (Item N S)) (item : Item N S) (o : ℕ) : Type 0 where
    pub run : IsControlRun (begun io) (before ++ item ∷ [])
    pub callers : AreBy [] (begun io) (before ++ item ∷ [])
    pub is_open : (known_after o (items_in (moments_of io before (caller_of item)))).open_socket ≡ true
    pub of_it : IsOfItem o (after_all before (begun io)) item
