-- The ends on their way to a socket, where calls on another sent none (own choice).
use Rattle.std.specs.Prelude.{◌≡◌, ◌≢◌, ◌≤◌, ℕ, Bool, true, false}
use Rattle.zq_base.specs.Ends.{other_end}
use Rattle.zq_base.specs.declared.ids.EndId.{EndId}
use Rattle.spec_control.specs.declared.entry.Did.{Did}
use Rattle.spec_control.specs.declared.entry.Did.TheVariants.{Asked, Delivered, Delimited}
use Rattle.spec_control.specs.declared.entry.Item.{Item}
use Rattle.spec_control.specs.declared.entry.Item.TheVariants.{Event, Seen}
use Rattle.spec_control.specs.declared.request.Req.{Req}
use Rattle.spec_control.specs.declared.request.Req.TheVariants.{Socket as MakeSocket, AskTerm, Bind, Connect, Unbind, Disconnect, Close, Accepted, Shaken, AskEnd, AskOver, OutputOver}
use Rattle.spec_control.specs.Place.{is_away}
use Rattle.spec_control.specs.Control.{next_pair, owner_of, place_of}
use Rattle.spec_control.specs.Names.{name_of}
use Rattle.ctl_plane.specs.Past.{control_of}
use Rattle.plain_desk.specs.Lent.{Lent, coming_to}

module _ {G N S : Type 0} where
  -- each end on its way to this mailbox was so before, and the pipes of its pair go by the names that they had
  pub record SendsNoneTo (slot : ℕ) (old new : Lent G N S) : Type 0 where
    pub coming : (e : EndId) → coming_to new slot e ≡ true → coming_to old slot e ≡ true
    pub written : (e : EndId) → coming_to new slot e ≡ true → name_of new.items e ≡ name_of old.items e
    pub read : (e : EndId) → coming_to new slot e ≡ true → name_of new.items (other_end e) ≡ name_of old.items (other_end e)

  -- an end on its way to this mailbox was so before, and the pipes of its pair go by the names that they had
  pub record WasComing (slot : ℕ) (old new : Lent G N S) (e : EndId) : Type 0 where
    pub coming : coming_to old slot e ≡ true
    pub written : name_of new.items e ≡ name_of old.items e
    pub read : name_of new.items (other_end e) ≡ name_of old.items (other_end e)

  -- no end of a pair that was made since is this object's
  abbrev pub HasNoneMade : ℕ → (old new : Lent G N S) → Type 0
  HasNoneMade u old new = (e : EndId) → next_pair (control_of old.past) ≤ e.pair.0 → owner_of (control_of new.past) e ≢ u

  -- an end is on its way whose pair was made since
  pub record IsSent (old new : Lent G N S) (e : EndId) : Type 0 where
    pub away : is_away (place_of (control_of new.past) e) ≡ true
    pub since : next_pair (control_of old.past) ≤ e.pair.0

-- a request that ends what a socket bound or connected, or the socket itself
abbrev pub ends_some : Req → Bool
ends_some (MakeSocket kind options) = false
ends_some AskTerm = false
ends_some (Bind o at) = false
ends_some (Connect o at) = false
ends_some (Unbind o at) = true
ends_some (Disconnect o at) = true
ends_some (Close o) = true
ends_some (Accepted o) = false
ends_some (Shaken o peer) = false
ends_some (AskEnd e reason) = false
ends_some (AskOver o) = false
ends_some (OutputOver o) = false

module _ {N S : Type 0} where
  abbrev pub is_ending_did : Did N S → Bool
  is_ending_did (Asked req reply h) = ends_some req
  is_ending_did (Delivered slot letter h) = false
  is_ending_did (Delimited e h) = false

  -- the item is one
  abbrev pub is_ending : Item N S → Bool
  is_ending (Event entry) = is_ending_did entry.did
  is_ending (Seen sight) = false
