-- A call of the reaper: a letter, and the look behind it (own choice, after libzmq's `reaper_t`).
use Rattle.std.specs.Prelude.{◌≡◌, ◌∷◌, ◌++◌, ℕ, Bool, true, false, List, [], Option, Some, None}
use Rattle.zq_base.specs.declared.ids.EndId.{EndId}
use Rattle.zq_base.specs.declared.ids.ObjId.{ObjId}
use Rattle.zq_base.specs.declared.ids.SlotId.{SlotId}
use Rattle.spec_pattern.specs.PipeStep.{read_through}
use Rattle.spec_control.specs.declared.entry.Did.{Did}
use Rattle.spec_control.specs.declared.entry.Did.TheVariants.{Delivered, Delimited}
use Rattle.spec_control.specs.declared.entry.Item.{Item}
use Rattle.spec_control.specs.declared.entry.Item.TheVariants.{Event, Seen}
use Rattle.spec_control.specs.Place.{At}
use Rattle.spec_control.specs.Control.{begun}
use Rattle.spec_control.specs.ControlRun.{after_all}
use Rattle.spec_control.specs.Names.{name_of}
use Rattle.spec_control.specs.Moments.{Moment}
use Rattle.spec_run.specs.Act.{Act, Step}
use Rattle.spec_run.specs.Event.{acts_said}
use Rattle.spec_run.specs.OpenSocket.{awaits_delimiter}
use Rattle.msg_pipe.specs.Known.{Known}
use Rattle.msg_pipe.specs.Told.{front_step}
use Rattle.msg_pipe.specs.declared.pipes.Front.{Front}
use Rattle.msg_pipe.specs.declared.pipes.Front.TheVariants as front
use Rattle.desk.specs.declared.given.Given.{Given}
use Rattle.desk.specs.TakingOver.{AreDistinct, MayTakeFirst}
use Rattle.ctl_plane.specs.Addressee.{last_addressee, last_asked}
use Rattle.ctl_plane.specs.Giving.{AreOnTheirWay}
use Rattle.ctl_plane.specs.Past.{control_of}
use Rattle.desk.specs.Coming.{BindsFit, TakesEnds}
use Rattle.desk.specs.Desk.{CountsWith, HasWhatTheySay, KeepsUp}
use Rattle.desk.specs.declared.delivery.Delivery.{Delivery}
use Rattle.desk.specs.declared.delivery.Delivery.TheVariants.{Done, Empty}
use Rattle.closed_ends.specs.declared.sockets.ClosedSockets.{ClosedSockets}
use Rattle.closed_ends.specs.Coming.{IsBrought}
use Rattle.closed_ends.specs.Counting.{counts_of}
use Rattle.closed_ends.specs.Has.{ends_of, holding_in, state_in}
use Rattle.closed_ends.specs.Sound.{MayJoin, MayTake}
use Rattle.plain_desk.specs.Lent.{coming_to, moments_of, IsOneOrder, Lent}
use Rattle.plain_desk.specs.Reaping.{served_by, FindsFirst}
use Rattle.plain_desk.specs.Waiting.{HearsAt}
use Rattle.reaper.specs.Calls.{ChangesClosed, FitsClosed, LooksOn, SaysFound}

-- the desk of a core, the pipes of all sockets, and the closed sockets, as they are lent to the reaper
pub record ReapParts (S N O I T : Type 0) : Type 0 where
  pub desk : Lent (Given N O I) N T
  pub pipes : S
  pub closed : ClosedSockets N O I

abbrev pub reap_parts : {S N O I T : Type 0} → Lent (Given N O I) N T → S → ClosedSockets N O I → ReapParts S N O I T
reap_parts desk pipes closed = record { desk = desk; pipes = pipes; closed = closed }

-- ---- whose front is looked at behind a letter

-- an end, with the object that got the command which says that its other end was asked
abbrev pub looker_of : Option ObjId → Option EndId → Option (ObjId × EndId)
looker_of None end = None
looker_of (Some o) None = None
looker_of (Some o) (Some e) = Some (o, e)

-- so by the last of these events
abbrev pub last_looker : {N T : Type 0} → List (Did N T) → Option (ObjId × EndId)
last_looker events = looker_of (last_addressee events) (last_asked events)

module _ {S O I N T : Type 0} (K : Known S O I N) where
  -- the order of a desk is one, and the ends on their way to the reaper go by the names of their pipes
  pub record DeskStands (d : Lent (Given N O I) N T) : Type 0 where
    pub order : IsOneOrder d
    pub ways : AreOnTheirWay K.in_name (control_of d.past) (name_of d.items) d.past.given

  -- the reaper has of closed sockets what its moments say, and with them whatever commands may come to it; ends that are on their way, with either, may come
  pub record MayReap (l : ReapParts S N O I T) : Type 0 where
    pub fits : FitsClosed K l.pipes l.closed
    pub lent : (m i : ℕ) → served_by l.desk m i ≡ true → (holding_in K.out_name K.in_name l.closed).holds i ≡ true
    pub has : HasWhatTheySay l.desk.caller (moments_of l.desk) (holding_in K.out_name K.in_name l.closed)
    pub distinct : AreDistinct K.exact (name_of l.desk.items)
    pub binds : (m i : ℕ) → served_by l.desk m i ≡ true → BindsFit K.out_name K.in_name (name_of l.desk.items) (coming_to l.desk m) (λ h. MayJoin K l.pipes l.closed h)
    pub takes : MayTakeFirst (λ o gs. MayTake K l.pipes l.closed gs) (control_of l.desk.past) l.desk.past.given

  -- the oldest command was processed, or none
  pub record Delivers (old new : ReapParts S N O I T) : Type 0 where
    pub counts : CountsWith K.out_name (λ e writer. counts_of K old.pipes old.closed.sockets.items e writer) (moments_of old.desk) (moments_of new.desk) (holding_in K.out_name K.in_name old.closed)
    pub given : TakesEnds old.desk.past.given new.desk.past.given
    pub keeps : KeepsUp new.desk.caller (moments_of old.desk) (moments_of new.desk) (holding_in K.out_name K.in_name old.closed) (holding_in K.out_name K.in_name new.closed)
    pub changes : ChangesClosed K (IsBrought (control_of old.desk.past) old.desk.past.given) old.pipes old.closed new.pipes new.closed
    pub stands : DeskStands new.desk

  -- an end of a closed socket was looked at, and a delimiter found there was said
  pub record LooksOne (o : ℕ) (e : EndId) (old new : ReapParts S N O I T) : Type 0 where
    pub found : Front
    pub looks : LooksOn K (IsBrought (control_of old.desk.past) old.desk.past.given) o e found old.desk old.pipes old.closed new.desk new.pipes new.closed
    pub stands : DeskStands new.desk

  -- where it reads on, and else it was not
  abbrev pub LooksIf : Bool → ℕ → EndId → (old new : ReapParts S N O I T) → Type 0
  LooksIf true o e old new = LooksOne o e old new
  LooksIf false o e old new = new ≡ old

  abbrev pub reads_in : ReapParts S N O I T → ℕ → EndId → Bool
  reads_in l o e = awaits_delimiter (At (state_in (ends_of l.closed.sockets.items o) e))

  -- the end that a letter said, if it said one
  abbrev pub LooksAfter : Option (ObjId × EndId) → (old new : ReapParts S N O I T) → Type 0
  LooksAfter None old new = new ≡ old
  LooksAfter (Some x) old new = LooksIf (reads_in old x.0.0 x.1) x.0.0 x.1 old new

  -- behind a letter, and where there was none
  abbrev pub LooksBehindIt : Delivery → (old new : ReapParts S N O I T) → Type 0
  LooksBehindIt Done old new = LooksAfter (last_looker old.desk.past.events) old new
  LooksBehindIt Empty old new = new ≡ old

  -- a letter was taken of the first of the reaper's mailboxes that was not empty, or all were found empty, and behind the letter the end was looked at that it said
  pub record ReapedSo (old new : ReapParts S N O I T) : Type 0 where
    pub found : Delivery
    pub mid : ReapParts S N O I T
    pub finds : FindsFirst found old.desk mid.desk
    pub delivers : Delivers old mid
    pub looks : LooksBehindIt found mid new

  -- a letter was taken of this mailbox of the reaper's, and behind it the end was looked at that it said
  pub record ReapedAt (slot : SlotId) (old new : ReapParts S N O I T) : Type 0 where
    pub mid : ReapParts S N O I T
    pub hears : HearsAt slot old.desk mid.desk
    pub delivers : Delivers old mid
    pub looks : LooksAfter (last_looker mid.desk.past.events) mid new

  -- ---- its acts

  -- the item of a delivery
  abbrev pub item_found : (found : Delivery) (old mid : Lent (Given N O I) N T) → FindsFirst found old mid → Item N T
  item_found Done old mid f = Event (record { by = old.caller; did = Delivered f.slot f.hears.letter f.hears.answered })
  item_found Empty old mid f = Seen f.sight

  abbrev pub next_of : Lent (Given N O I) N T → Item N T → Moment N T
  next_of d item = record { found = after_all d.items (begun d.past.workers); item = item }

  -- the delimiter that was said, with what it leads to
  abbrev pub acts_met : (found : Front) (brings : ℕ → Given N O I → Type 0) (e : EndId) (d now : Lent (Given N O I) N T) (old new : S) (from to : ClosedSockets N O I) → SaysFound K found brings e d old from now new to → List (Act N T)
  acts_met front.Message brings e d now old new from to s = []
  acts_met front.Empty brings e d now old new from to s = []
  acts_met front.Delimiter brings e d now old new from to s = acts_said (next_of d (Event (record { by = d.caller; did = Delimited e s.meets.answered })))

  -- a look, with what it leads to
  abbrev pub acts_looked : (o : ℕ) (e : EndId) (old new : ReapParts S N O I T) → LooksOne o e old new → List (Act N T)
  acts_looked o e old new l =
      Step (front_step (read_through e) l.found) ∷ acts_met l.found (IsBrought (control_of old.desk.past) old.desk.past.given) e old.desk new.desk l.looks.between new.pipes l.looks.kept new.closed l.looks.says

  abbrev pub acts_if : (b : Bool) (o : ℕ) (e : EndId) (old new : ReapParts S N O I T) → LooksIf b o e old new → List (Act N T)
  acts_if true o e old new l = acts_looked o e old new l
  acts_if false o e old new l = []

  abbrev pub acts_after : (looker : Option (ObjId × EndId)) (old new : ReapParts S N O I T) → LooksAfter looker old new → List (Act N T)
  acts_after None old new l = []
  acts_after (Some x) old new l = acts_if (reads_in old x.0.0 x.1) x.0.0 x.1 old new l

  abbrev pub acts_behind : (found : Delivery) (old new : ReapParts S N O I T) → LooksBehindIt found old new → List (Act N T)
  acts_behind Done old new l = acts_after (last_looker old.desk.past.events) old new l
  acts_behind Empty old new l = []

  -- those of the whole call
  abbrev pub acts_reaped : (old new : ReapParts S N O I T) → ReapedSo old new → List (Act N T)
  acts_reaped old new r = acts_said (next_of old.desk (item_found r.found old.desk r.mid.desk r.finds)) ++ acts_behind r.found r.mid new r.looks

  -- the item of a letter of this mailbox, and the acts of the whole call
  abbrev pub item_at : (slot : SlotId) (old mid : Lent (Given N O I) N T) → HearsAt slot old mid → Item N T
  item_at slot old mid h = Event (record { by = old.caller; did = Delivered slot h.hears.letter h.hears.answered })

  abbrev pub acts_at : (slot : SlotId) (old new : ReapParts S N O I T) → ReapedAt slot old new → List (Act N T)
  acts_at slot old new r = acts_said (next_of old.desk (item_at slot old.desk r.mid.desk r.hears)) ++ acts_after (last_looker r.mid.desk.past.events) r.mid new r.looks

  -- memory was wanting, and no letter was taken
  pub record WantsMemory (old new : ReapParts S N O I T) : Type 0 where
    pub same : new.desk ≡ old.desk
    pub delivers : Delivers old new
