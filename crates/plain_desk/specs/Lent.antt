-- The control plane as it is lent to one of its callers: the events, their order with the looks, and whose call comes next (own choice).
use Rattle.std.specs.Prelude.{◌≡◌, ◌≤◌, ◌<◌, ◌+◌, ◌==◌, ◌&&◌, ◌++◌, ℕ, Bool, true, false, All, List, [], ◌∷◌, map}
use Rattle.zq_base.specs.declared.ids.EndId.{EndId}
use Rattle.zq_base.specs.declared.ids.ObjId.{ObjId}
use Rattle.zq_base.specs.declared.ids.SlotId.{SlotId}
use Rattle.spec_control.specs.declared.letter.Letter.{Letter}
use Rattle.spec_control.specs.declared.entry.Answered.{Answered}
use Rattle.spec_control.specs.declared.entry.Did.TheVariants.{Asked as DidAsk, Delivered, Delimited}
use Rattle.spec_control.specs.declared.entry.Item.{Item}
use Rattle.spec_control.specs.declared.entry.Item.TheVariants.{Event as IsEvent, Seen as IsLook}
use Rattle.spec_control.specs.declared.entry.SeenEmpty.{SeenEmpty}
use Rattle.spec_control.specs.declared.entry.SeenEmpty.TheVariants.{Mailbox}
use Rattle.spec_control.specs.declared.entry.Sight.{Sight}
use Rattle.spec_control.specs.ControlRun.{IsSeen, after_all}
use Rattle.spec_control.specs.declared.request.Req.{Req}
use Rattle.spec_control.specs.declared.request.Req.TheVariants.{Close}
use Rattle.spec_control.specs.declared.request.Reply.{Reply}
use Rattle.desk.specs.declared.delivery.Delivery.{Delivery}
use Rattle.desk.specs.declared.delivery.Delivery.TheVariants.{Done, Empty}
use Rattle.spec_control.specs.declared.request.Reply.TheVariants.{Done as IsDone, Object, Pair, Both, Wait, Asked, Before, Refused}
use Rattle.spec_control.specs.Place.{is_away, looks}
use Rattle.spec_control.specs.Row.{is_socket}
use Rattle.spec_control.specs.Rows.{obj}
use Rattle.spec_control.specs.Control.{Control, begun, next_object, owner_of, place_of}
use Rattle.spec_control.specs.Held.{caller_of}
use Rattle.spec_control.specs.OwnAsks.{known_after}
use Rattle.spec_control.specs.Moments.{Moment, items_in, moments_by, moments_from}
use Rattle.desk.specs.declared.given.Given.{Given}
use Rattle.msg_pipe.specs.Known.{Known}
use Rattle.desk.specs.Holding.{AllSealed, Holding, held_given}
use Rattle.desk.specs.TakingOver.{AreGivenWith}
use Rattle.desk.specs.Desk.{HasWhatTheySay, IsItsMailbox, KeepsUp}
use Rattle.ctl_moves.specs.Papers.{HasMarks}
use Rattle.ctl_plane.specs.Past.{Past, control_of, with_event, with_given}
use Rattle.plain_desk.specs.declared.mark.Mark.{Mark}
use Rattle.plain_desk.specs.Order.{order_of, AreMarked, IsOrder}

pub record Lent (G N S : Type 0) : Type 0 where
  pub past : Past G N S
  pub items : List (Item N S)
  pub caller : ℕ

-- how many objects a request for a socket may have made, by its answer
abbrev pub made_at_most : Reply → ℕ
made_at_most IsDone = 1
made_at_most (Object o) = 1
made_at_most (Pair p) = 1
made_at_most (Both o p) = 1
made_at_most Wait = 1
made_at_most Asked = 1
made_at_most Before = 1
made_at_most (Refused refusal) = 0

-- a mailbox is a worker's
pub record IsWorkers (workers slot : ℕ) : Type 0 where
  pub above : 1 ≤ slot
  pub within : slot ≤ workers

-- each socket has a mailbox of its own, behind the root's and the workers', and each listener and session has a worker's; a mailbox more for each of these stays empty
pub record HaveOwnBoxes (workers : ℕ) (c : Control) : Type 0 where
  pub some_worker : 1 ≤ workers
  pub workers_are : c.workers ≡ workers
  pub root : (obj c.rows 0).slot ≡ 0
  pub many : c.slots ≡ workers + next_object c
  pub own : (i : ℕ) → i < next_object c → is_socket (obj c.rows i).kind ≡ true → (obj c.rows i).slot ≡ workers + i
  pub shared : (i : ℕ) → 0 < i → i < next_object c → is_socket (obj c.rows i).kind ≡ false → IsWorkers workers (obj c.rows i).slot

-- each object but the root has marks that a socket may have: a listener's and a session's are its socket's
abbrev pub HaveMarks : Control → Type 0
HaveMarks c = (i : ℕ) → 0 < i → i < next_object c → HasMarks (obj c.rows i)

-- each of these is a socket
abbrev pub AreSockets : Control → List ObjId → Type 0
AreSockets c os = All (λ o. is_socket (obj c.rows o.0).kind ≡ true) os

module _ {G N S : Type 0} where
  -- with these marks of its events and looks, and this caller
  abbrev pub lent_to : ℕ → List Mark → Past G N S → Lent G N S
  lent_to caller ms past = record { past = past; items = order_of ms past.events; caller = caller }

  -- the marks are those of its events, and its order is one; each object but the root has marks that a socket may have, and a mailbox of its kind's, and there is a waker for each mailbox
  pub record IsLent (ms : List Mark) (past : Past G N S) (many : ℕ) : Type 0 where
    pub marked : AreMarked ms past.events
    pub order : IsOrder past.workers (order_of {N = N} {S = S} ms past.events)
    pub options : HaveMarks (control_of past)
    pub wakers : past.workers + next_object (control_of past) ≤ many
    pub boxes : HaveOwnBoxes past.workers (control_of past)

  -- what its caller did and saw so far, each item with the control plane as it found it
  abbrev pub moments_of : Lent G N S → List (Moment N S)
  moments_of d = moments_by d.caller (moments_from (begun d.past.workers) d.items)

  -- what is so of the order, whoever is called next: it is one, its events led to the control state, each object has a mailbox of its kind's, and but for the root marks that a socket may have, and those that were closed are sockets
  pub record IsOneOrder (d : Lent G N S) : Type 0 where
    pub order : IsOrder d.past.workers d.items
    pub control : control_of d.past ≡ after_all d.items (begun d.past.workers)
    pub boxes : HaveOwnBoxes d.past.workers (control_of d.past)
    pub options : HaveMarks (control_of d.past)
    pub closed : AreSockets (control_of d.past) (control_of d.past).closed

  -- the caller added items of its own at the end of the order, and no others
  pub record GrowsBy (old new : Lent G N S) : Type 0 where
    pub caller : new.caller ≡ old.caller
    pub workers : new.past.workers ≡ old.past.workers
    pub more : List (Item N S)
    pub items : new.items ≡ old.items ++ more
    pub by : All (λ item. caller_of item ≡ old.caller) more

  -- a holder that is not lent has what the moments say still
  abbrev pub KeepsAside : (old new : Lent G N S) → Type 0
  KeepsAside old new = (h : Holding N) → HasWhatTheySay old.caller (moments_of old) h → KeepsUp new.caller (moments_of old) (moments_of new) h h

  -- the mailbox of a socket that the holder has
  pub record IsOfSocket (slot : ℕ) (d : Lent G N S) (h : Holding N) : Type 0 where
    pub its : IsItsMailbox slot (moments_of d) h
    pub socket : is_socket (obj (control_of d.past).rows its.object).kind ≡ true

  -- a socket that its caller made and did not close
  abbrev pub HasSocket : Lent G N S → ObjId → Type 0
  HasSocket d socket = (known_after socket.0 (items_in (moments_of d))).open_socket ≡ true

  -- its caller made this request
  pub record Asks (req : Req) (reply : Reply) (old new : Lent G N S) : Type 0 where
    pub answered : Answered N S
    pub past : new.past ≡ with_event (DidAsk req reply answered) old.past
    pub items : new.items ≡ old.items ++ IsEvent (record { by = old.caller; did = DidAsk req reply answered }) ∷ []
    pub caller : new.caller ≡ old.caller

-- its caller's end met its delimiter
pub record Meets {G N S : Type 0} (e : EndId) (old new : Lent G N S) : Type 0 where
  pub looked_at : looks (place_of (control_of old.past) e) ≡ true
  pub answered : Answered N S
  pub past : new.past ≡ with_event (Delimited e answered) old.past
  pub items : new.items ≡ old.items ++ IsEvent (record { by = old.caller; did = Delimited e answered }) ∷ []
  pub caller : new.caller ≡ old.caller

-- the ends whose halves are on their way to a mailbox
abbrev pub coming_to : {G N S : Type 0} → Lent G N S → ℕ → EndId → Bool
coming_to d slot e = let c : Control = control_of d.past in is_away (place_of c e) && slot == (obj c.rows (owner_of c e)).slot

-- the oldest command of a mailbox was processed for its caller, and the ends of closed sockets stay on their way
pub record Hears {G N S : Type 0} (slot : SlotId) (old new : Lent G N S) : Type 0 where
  pub letter : Letter
  pub behind : List Letter
  pub oldest : (control_of old.past).boxes slot.0 ≡ letter ∷ behind
  pub answered : Answered N S
  pub past : new.past ≡ with_event (Delivered slot letter answered) old.past
  pub items : new.items ≡ old.items ++ IsEvent (record { by = old.caller; did = Delivered slot letter answered }) ∷ []
  pub caller : new.caller ≡ old.caller

-- a delimiter counts where it is looked at
abbrev pub MeetsOrNot : {G N S : Type 0} → EndId → Bool → (old new : Lent G N S) → Type 0
MeetsOrNot e true old new = Meets e old new
MeetsOrNot e false old new = (looks (place_of (control_of old.past) e) ≡ false) × (new ≡ old)

-- its caller closed this socket, and all ends that the socket's holder had of it are on their way, as they stood there, with halves of its pipes; the holder was told to seal these, of those that have their delimiters
pub record ClosesOnce {P N O I S : Type 0} (K : Known P O I N) (pipes : P) (h : Holding N) (socket : ObjId) (old new : Lent (Given N O I) N S) : Type 0 where
  pub ends : List (Given N O I)
  pub given : AreGivenWith K pipes ends
  pub sealed : AllSealed h.sealed ends
  pub all : map (held_given K.out_name K.in_name) ends ≡ h.ends socket.0
  pub answered : Answered N S
  pub past : new.past ≡ with_given ends (with_event (DidAsk (Close socket) IsDone answered) old.past)
  pub items : new.items ≡ old.items ++ IsEvent (record { by = old.caller; did = DidAsk (Close socket) IsDone answered }) ∷ []
  pub caller : new.caller ≡ old.caller

-- its caller looked, found these mailboxes empty, and saw what there is
pub record Sees {G N S : Type 0} (empty : SeenEmpty) (sight : Sight) (old new : Lent G N S) : Type 0 where
  pub looked_at : sight.empty ≡ empty
  pub by : sight.by ≡ old.caller
  pub seen : IsSeen (control_of old.past) sight
  pub past : new.past ≡ old.past
  pub items : new.items ≡ old.items ++ IsLook sight ∷ []
  pub caller : new.caller ≡ old.caller

-- it looked, and found a mailbox empty
pub record SeesNone {G N S : Type 0} (slot : SlotId) (old new : Lent G N S) : Type 0 where
  pub sight : Sight
  pub sees : Sees (Mailbox slot) sight old new

-- what a delivery found
abbrev pub FindsIn : {G N S : Type 0} → SlotId → Delivery → (old new : Lent G N S) → Type 0
FindsIn slot Done old new = Hears slot old new
FindsIn slot Empty old new = SeesNone slot old new
