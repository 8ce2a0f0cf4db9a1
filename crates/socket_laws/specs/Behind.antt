-- What a moment more of its caller leaves of an open socket, in the one order of a context (own choice).
use Rattle.std.specs.Prelude.{◌≡◌, ◌≢◌, ◌++◌, ℕ, Bool, true, false, [], ◌∷◌, Some}
use Rattle.std.specs.List.{list_any}
use Rattle.zq_base.specs.Ends.{other_end}
use Rattle.zq_base.specs.declared.ids.EndId.{EndId}
use Rattle.spec_control.specs.declared.entry.Did.{Did}
use Rattle.spec_control.specs.declared.entry.Did.TheVariants.{Asked, Delivered, Delimited}
use Rattle.spec_control.specs.declared.entry.Item.{Item}
use Rattle.spec_control.specs.declared.entry.Item.TheVariants.{Event, Seen}
use Rattle.spec_control.specs.Rows.{is_owner}
use Rattle.spec_control.specs.Control.{ends_of, id, is_end}
use Rattle.spec_control.specs.Names.{name_of}
use Rattle.spec_control.specs.Has.{given_up}
use Rattle.spec_control.specs.Moments.{Moment, left_after, left_by}
use Rattle.msg_pipe.specs.Known.{Known, IsElse}
use Rattle.desk.specs.Holding.{Holding}
use Rattle.desk.specs.TakingOver.{AreDistinct}
use Rattle.ctl_plane.specs.Past.{control_of}
use Rattle.desk.specs.Desk.{KeepsUp, slot_after}
use Rattle.end_table.specs.declared.table.EndTable.{EndTable}
use Rattle.end_table.specs.declared.table.Place.{Place}
use Rattle.end_table.specs.Others.{IsUnsettled}
use Rattle.end_table.specs.Places.{place_at}
use Rattle.plain_desk.specs.Lent.{coming_to, moments_of, GrowsBy, HasSocket, IsOneOrder, Lent}

module _ {N S : Type 0} where
  -- the item closes this socket
  abbrev pub closes : ℕ → Item N S → Bool
  closes o (Event entry) = is_owner o (given_up entry.did)
  closes o (Seen sight) = false

  -- the event is a request
  abbrev pub is_requested : Did N S → Bool
  is_requested (Asked req reply h) = true
  is_requested (Delivered slot letter h) = false
  is_requested (Delimited e h) = false

  -- the item is one
  abbrev pub is_request : Item N S → Bool
  is_request (Event entry) = is_requested entry.did
  is_request (Seen sight) = false

module _ {G N S : Type 0} where
  -- one call of the caller led from one state of the order to the other, by this moment
  pub record IsOneCall (old new : Lent G N S) (m : Moment N S) : Type 0 where
    pub before : IsOneOrder old
    pub behind : IsOneOrder new
    pub grows : GrowsBy old new
    pub one_more : moments_of new ≡ moments_of old ++ m ∷ []

  -- the order has its item more, which found the control state that the order led to and left the one that it leads to now
  pub record IsLastItem (old new : Lent G N S) (m : Moment N S) : Type 0 where
    pub items : new.items ≡ old.items ++ m.item ∷ []
    pub found : m.found ≡ control_of old.past
    pub left : left_by m ≡ control_of new.past

  -- the socket is open still, with the mailbox that it had, and its holder has it still
  pub record StaysOpen (o : ℕ) (old new : Lent G N S) : Type 0 where
    pub is_open : HasSocket new (id o)
    pub slot : slot_after o (moments_of new) ≡ slot_after o (moments_of old)
    pub holds : (by : ℕ) (h k : Holding N) → KeepsUp by (moments_of old) (moments_of new) h k → h.holds o ≡ true → k.holds o ≡ true

  -- no pipe was made, and no end was put on its way
  pub record SendsNone (old new : Lent G N S) : Type 0 where
    pub names : (e : EndId) → name_of new.items e ≡ name_of old.items e
    pub distinct : (exact : Bool) → AreDistinct exact (name_of old.items) → AreDistinct exact (name_of new.items)
    pub coming : (slot : ℕ) (e : EndId) → coming_to new slot e ≡ true → coming_to old slot e ≡ true

  -- the order is as it was, and so is the control state that it leads to
  pub record IsAsBefore (old new : Lent G N S) : Type 0 where
    pub items : new.items ≡ old.items
    pub control : control_of new.past ≡ control_of old.past
    pub sends : SendsNone old new

  -- the end is one that the socket has or had, as the moments of its caller left it
  abbrev pub is_its_end : ℕ → Lent G N S → EndId → Bool
  is_its_end o d e = list_any (is_end e) (ends_of o (left_after o (moments_of d)))

  -- it is none of these, and at the other side of none
  pub record IsNoneOfIts (o : ℕ) (d : Lent G N S) (e : EndId) : Type 0 where
    pub other : (x : EndId) → is_its_end o d x ≡ true → e ≢ x
    pub across : (x : EndId) → is_its_end o d x ≡ true → e ≢ other_end x

  -- the end is one that the socket has or had, and the pipes that it writes and reads were given these names
  pub record IsOfIts (o : ℕ) (d : Lent G N S) (e : EndId) (w r : N) : Type 0 where
    pub its : is_its_end o d e ≡ true
    pub written : name_of d.items e ≡ Some w
    pub read : name_of d.items (other_end e) ≡ Some r

-- a pipe that no end read that is held no more was not settled
abbrev pub SettlesOwn : {N O I P : Type 0} → Known P O I N → EndTable N O I → Type 0
SettlesOwn {N = N} {I = I} K t = (n : N) → ((k : ℕ) (p : Place N I) → place_at t.places.items k ≡ Some p → p.held ≡ false → IsElse K n p.read) → IsUnsettled K t n
