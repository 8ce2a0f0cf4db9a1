-- What a caller's moments are after a call of its desk (own choice).
use Rattle.std.specs.Prelude.{◌≡◌, ℕ, Bool, true, false, List, [], ◌∷◌, ◌++◌, Some, Option, None, flat_map, is_some}
use Rattle.zq_base.specs.declared.ids.EndId.{EndId}
use Rattle.zq_base.specs.declared.ids.Settled.{Settled}
use Rattle.zq_base.specs.declared.ids.SlotId.{SlotId}
use Rattle.spec_control.specs.declared.letter.Letter.{Letter}
use Rattle.spec_control.specs.declared.request.Req.{Req}
use Rattle.spec_control.specs.declared.request.Reply.{Reply}
use Rattle.spec_control.specs.declared.entry.Answered.{Answered}
use Rattle.spec_control.specs.declared.entry.Did.{Did}
use Rattle.spec_control.specs.declared.entry.Did.TheVariants.{Asked, Delivered, Delimited}
use Rattle.spec_control.specs.declared.entry.SeenEmpty.{SeenEmpty}
use Rattle.spec_control.specs.declared.entry.SeenEmpty.TheVariants.{Mailbox, Reapers}
use Rattle.spec_control.specs.declared.entry.Sight.{Sight}
use Rattle.spec_control.specs.declared.entry.Item.{Item}
use Rattle.spec_control.specs.declared.entry.Joining.{Joining}
use Rattle.spec_control.specs.declared.entry.Item.TheVariants.{Event, Seen}
use Rattle.spec_control.specs.Place.{At, looks}
use Rattle.spec_control.specs.Rows.{obj}
use Rattle.spec_control.specs.Control.{Control, met_in, place_of}
use Rattle.spec_control.specs.Held.{ends_after}
use Rattle.spec_control.specs.Has.{has_after}
use Rattle.spec_control.specs.Moments.{Moment, items_in, left_after, left_by, first_waiting}
use Rattle.desk.specs.Kinds.{kind_after}
use Rattle.desk.specs.declared.delivery.Delivery.{Delivery}
use Rattle.desk.specs.declared.delivery.Delivery.TheVariants.{Done, Empty}
use Rattle.desk.specs.Bringing.{BringsIn}
use Rattle.desk.specs.Counts.{CountsIn}
use Rattle.desk.specs.Output.{LeavesIn}
use Rattle.desk.specs.declared.given.Given.{Given}
use Rattle.desk.specs.Holding.{HearsMore, Holding, JoinsBy, has_end}
use Rattle.desk.specs.Joins.{KeepsObjects, came_in}
use Rattle.desk.specs.Lent.{has_writer}
use Rattle.desk.specs.Heard.{heard_in}
use Rattle.desk.specs.declared.notice.Notice.{Notice}
use Rattle.desk.specs.Turns.{TurnsBy, turned_in}

-- an end of an object that the holder has
pub record HoldsEnd {N : Type 0} (e : EndId) (h : Holding N) : Type 0 where
  pub object : ℕ
  pub has : h.holds object ≡ true
  pub here : has_end e (h.ends object) ≡ true

module _ {N S : Type 0} where
  -- a holder that is lent has of its objects what the moments of its caller say: the ends that joined, each as the last moment of its object left it, and the kind of a socket that its caller made and did not close
  pub record HasWhatTheySay (by : ℕ) (moments : List (Moment N S)) (h : Holding N) : Type 0 where
    pub objects : (i : ℕ) → h.holds i ≡ true → has_after i (items_in moments) ≡ Some by
    pub no_root : h.holds 0 ≡ false
    pub ends : (i : ℕ) → h.holds i ≡ true → h.ends i ≡ ends_after i (items_in moments)
    pub writes : (i : ℕ) (e : EndId) → h.holds i ≡ true → has_end e (h.ends i) ≡ true → h.writes e ≡ has_writer (place_of (left_after i moments) e)
    pub delimiters : (i : ℕ) (e : EndId) → h.holds i ≡ true → has_end e (h.ends i) ≡ true → met_in (place_of (left_after i moments) e) ((left_after i moments).reasons e) ≡ true → h.at_delimiter e ≡ true
    pub states : (i : ℕ) (e : EndId) → h.holds i ≡ true → has_end e (h.ends i) ≡ true → place_of (left_after i moments) e ≡ At (h.state e)
    pub kinds : (i : ℕ) → h.holds i ≡ true → h.kind i ≡ kind_after i (items_in moments)

  -- in these moments more a holder was told of each change of state of its ends, each once, and to seal the pipes of those that were asked
  abbrev pub TurnsWith : (old new : List (Moment N S)) → (before now : Holding N) → Type 0
  TurnsWith old new before now = (more : List (Moment N S)) → new ≡ old ++ more → TurnsBy (flat_map (λ m. turned_in m.found (left_by m)) more) before now

  -- the ends that join in an item
  abbrev pub came_with : Item N S → List (Joining N)
  came_with (Event entry) = came_in entry.did
  came_with (Seen sight) = []

  -- in these moments more the ends that they tell joined it, each with its kind's answer
  abbrev pub JoinsWith : (old new : List (Moment N S)) → (before now : Holding N) → Type 0
  JoinsWith old new before now = (more : List (Moment N S)) → new ≡ old ++ more → JoinsBy (flat_map (λ m. came_with m.item) more) before now

  -- behind a moment more it has the objects that it had, with their kinds, but those that ended, were closed, or came with a Reap; and all of them behind none
  pub record KeepsObjectsIn (old new : List (Moment N S)) (before now : Holding N) : Type 0 where
    pub one : (m : Moment N S) → new ≡ old ++ m ∷ [] → KeepsObjects m.found (left_by m) before now
    pub none : new ≡ old → (i : ℕ) → (now.holds i ≡ before.holds i) × (now.kind i ≡ before.kind i)

  -- what the holder of an object is told of it in an item
  abbrev pub heard_with : Item N S → (before now : Control) → List Notice
  heard_with (Event entry) before now = heard_in entry.did before now
  heard_with (Seen sight) before now = []

  -- in these moments more it heard what they tell of its objects: their Stops, their Terms, and that they have ended
  abbrev pub HearsWith : (old new : List (Moment N S)) → (before now : Holding N) → Type 0
  HearsWith old new before now = (more : List (Moment N S)) → new ≡ old ++ more → HearsMore (flat_map (λ m. heard_with m.item m.found (left_by m)) more) before now

  -- it has what the moments say, once it was told of those that are new
  pub record KeepsUp (by : ℕ) (old new : List (Moment N S)) (before now : Holding N) : Type 0 where
    pub has : HasWhatTheySay by new now
    pub turned : TurnsWith old new before now
    pub came : JoinsWith old new before now
    pub objects : KeepsObjectsIn old new before now
    pub heard : HearsWith old new before now

  -- by a holder that had this, an item that delivers an acknowledgement tells the counts of the pipe that its end read
  abbrev pub counts_with : {O : Type 0} → (out_name : O → N) → (counts : EndId → O → Settled) → Holding N → Item N S → Type 0
  counts_with out_name counts h (Event entry) = CountsIn out_name counts h entry.did
  counts_with out_name counts h (Seen sight) = Unit {0}

  -- the same of the item of a moment more
  abbrev pub CountsWith : {O : Type 0} → (out_name : O → N) → (counts : EndId → O → Settled) → (old new : List (Moment N S)) → Holding N → Type 0
  CountsWith out_name counts old new h = (m : Moment N S) → new ≡ old ++ m ∷ [] → counts_with out_name counts h m.item

  -- an item tells whether a session has output left as a holder had it that had this
  abbrev pub leaves_with : Control → Holding N → Item N S → Type 0
  leaves_with found h (Event entry) = LeavesIn found h entry.did
  leaves_with found h (Seen sight) = Unit {0}

  -- the same of the item of a moment more
  abbrev pub LeavesWith : (old new : List (Moment N S)) → Holding N → Type 0
  LeavesWith old new h = (m : Moment N S) → new ≡ old ++ m ∷ [] → leaves_with m.found h m.item

  -- an item that delivers a command brings, of the ends of closed sockets that are on their way, those of a Reap and no others
  abbrev pub brings_with : {O I : Type 0} → (out_name : O → N) → (in_name : I → N) → Item N S → (before after : List (Given N O I)) → Type 0
  brings_with out_name in_name (Event entry) before after = BringsIn out_name in_name entry.did before after
  brings_with out_name in_name (Seen sight) before after = Unit {0}

  -- the same of the item of a moment more
  abbrev pub BringsWith : {O I : Type 0} → (out_name : O → N) → (in_name : I → N) → (old new : List (Moment N S)) → (before after : List (Given N O I)) → Type 0
  BringsWith out_name in_name old new before after = (m : Moment N S) → new ≡ old ++ m ∷ [] → brings_with out_name in_name m.item before after

  -- the mailbox of an object, as the moments left it
  abbrev pub slot_after : ℕ → List (Moment N S) → SlotId
  slot_after i moments = record { 0 = (obj (left_after i moments).rows i).slot }

  -- the mailbox of an object that the holder has
  pub record IsItsMailbox (slot : ℕ) (moments : List (Moment N S)) (h : Holding N) : Type 0 where
    pub object : ℕ
    pub has : h.holds object ≡ true
    pub here : (obj (left_after object moments).rows object).slot ≡ slot

  -- the mailbox of a socket that its caller made and did not close
  pub record IsSocketsMailbox (slot : ℕ) (moments : List (Moment N S)) (h : Holding N) : Type 0 where
    pub its : IsItsMailbox slot moments h
    pub open_still : is_some (h.kind its.object) ≡ true

  -- one moment more: this item, with the control plane as it found it
  abbrev pub adds : Control → Item N S → (old new : List (Moment N S)) → Type 0
  adds found item old new = new ≡ old ++ record { found = found; item = item } ∷ []

  -- an event of this caller
  abbrev pub by_caller : ℕ → Did N S → Item N S
  by_caller by did = Event (record { by = by; did = did })

  -- a request by this caller, with its answer
  pub record AsksOnce (by : ℕ) (req : Req) (reply : Reply) (old new : List (Moment N S)) : Type 0 where
    pub found : Control
    pub answered : Answered N S
    pub one_more : adds found (by_caller by (Asked req reply answered)) old new

  -- a command of this mailbox
  pub record TakesOne (by : ℕ) (slot : SlotId) (old new : List (Moment N S)) : Type 0 where
    pub found : Control
    pub letter : Letter
    pub answered : Answered N S
    pub one_more : adds found (by_caller by (Delivered slot letter answered)) old new

  -- a command of the first of the reaper's mailboxes that was not empty
  pub record TakesFirst (by : ℕ) (old new : List (Moment N S)) : Type 0 where
    pub slot : SlotId
    pub takes : TakesOne by slot old new
    pub first : first_waiting takes.found ≡ Some slot.0

  -- a delimiter that an end met
  pub record Delimits (by : ℕ) (e : EndId) (old new : List (Moment N S)) : Type 0 where
    pub found : Control
    pub answered : Answered N S
    pub one_more : adds found (by_caller by (Delimited e answered)) old new

  -- a look by this caller
  pub record Looks (by : ℕ) (empty : SeenEmpty) (sight : Sight) (old new : List (Moment N S)) : Type 0 where
    pub found : Control
    pub caller : sight.by ≡ by
    pub looked_at : sight.empty ≡ empty
    pub one_more : adds found (Seen sight) old new

  -- a look that found what it looked at empty
  pub record FindsNothing (by : ℕ) (empty : SeenEmpty) (old new : List (Moment N S)) : Type 0 where
    pub sight : Sight
    pub looks : Looks by empty sight old new

  -- a delivery
  abbrev pub GivesOrNot : (by : ℕ) → SlotId → Delivery → (old new : List (Moment N S)) → Type 0
  GivesOrNot by slot Done old new = TakesOne by slot old new
  GivesOrNot by slot Empty old new = FindsNothing by (Mailbox slot) old new

  -- a delivery of the reaper's
  abbrev pub ReapsOrNot : (by : ℕ) → Delivery → (old new : List (Moment N S)) → Type 0
  ReapsOrNot by Done old new = TakesFirst by old new
  ReapsOrNot by Empty old new = FindsNothing by Reapers old new

  -- a delimiter that is looked at or not
  abbrev pub DelimitsOrNot : (by : ℕ) → EndId → Bool → (old new : List (Moment N S)) → Type 0
  DelimitsOrNot by e true old new = Delimits by e old new
  DelimitsOrNot by e false old new = new ≡ old

  -- where it is not, the end is at none that is looked at, by whatever object of the holder's it is had
  abbrev pub IsNotLooked : EndId → Bool → List (Moment N S) → Holding N → Type 0
  IsNotLooked e found moments h = found ≡ false → (i : ℕ) → h.holds i ≡ true → has_end e (h.ends i) ≡ true → looks (place_of (left_after i moments) e) ≡ false

  -- a look, which sees nothing where a mailbox that it asks for is not empty
  abbrev pub LooksOrNot : (by : ℕ) → SeenEmpty → Option Sight → (old new : List (Moment N S)) → Type 0
  LooksOrNot by empty (Some sight) old new = Looks by empty sight old new
  LooksOrNot by empty None old new = new ≡ old
