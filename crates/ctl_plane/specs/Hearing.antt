-- What a delivery needs of the events so far, and what it finds (own choice).
use Rattle.std.specs.Prelude.{◌≡◌, ◌≢◌, ◌<◌, ℕ, Bool, true, false, List, [], ◌∷◌, Some}
use Rattle.zq_base.specs.Ends.{other_end}
use Rattle.zq_base.specs.declared.ids.EndId.{EndId}
use Rattle.zq_base.specs.declared.ids.SlotId.{SlotId}
use Rattle.zq_base.specs.declared.ids.ObjId.{ObjId}
use Rattle.spec_control.specs.declared.letter.Letter.{Letter}
use Rattle.spec_control.specs.declared.letter.Word.TheVariants.{PipeTermAck}
use Rattle.spec_control.specs.declared.entry.Answered.{Answered}
use Rattle.spec_control.specs.declared.entry.Did.TheVariants.{Delivered, Delimited}
use Rattle.spec_control.specs.Stage.{has_ended}
use Rattle.spec_control.specs.Rows.{obj}
use Rattle.spec_control.specs.Control.{Control, next_object, owner_of, place_of}
use Rattle.spec_control.specs.Place.{Away, looks}
use Rattle.spec_control.specs.Names.{name_of}
use Rattle.desk.specs.declared.halves.Halves.{Halves}
use Rattle.desk.specs.declared.given.Given.{Given}
use Rattle.desk.specs.Holding.{Holding, NoneWrites}
use Rattle.desk.specs.Lent.{HasAll}
use Rattle.desk.specs.Bringing.{BringsFirst}
use Rattle.ctl_plane.specs.declared.heard.Heard.{Heard}
use Rattle.ctl_plane.specs.declared.heard.Heard.TheVariants.{Done, Empty}
use Rattle.ctl_plane.specs.Past.{Past, items_of, control_of, with_event, only_given}
use Rattle.ctl_moves.specs.Processing.{IsSilent}
use Rattle.ctl_moves.specs.Attaching.{KindFits}

-- an object whose commands come to this mailbox, but for the root, that had its Plug and lives
pub record IsServed (c : Control) (slot i : ℕ) : Type 0 where
  pub no_root : i ≢ 0
  pub there : i < next_object c
  pub here : (obj c.rows i).slot ≡ slot
  pub plugged : (obj c.rows i).plugged ≡ true
  pub lives : has_ended (obj c.rows i).stage ≡ false

-- nobody has an object whose Plug is on its way
abbrev pub HasPlugged : {N : Type 0} → Control → Holding N → Type 0
HasPlugged c h = (i : ℕ) → (obj c.rows i).plugged ≡ false → h.holds i ≡ false

-- no end of the holder that has its writing half writes the pipe whose writing half the oldest command of a mailbox brings
abbrev pub AreApart : {G N S : Type 0} → (exact : Bool) → Past G N S → (slot : ℕ) → Holding N → Type 0
AreApart {N = N} exact p slot h = (to : ObjId) (e : EndId) (behind : List Letter) (n : N) → (control_of p).boxes slot ≡ record { to = to; word = PipeTermAck e } ∷ behind → name_of (items_of p) (other_end e) ≡ Some n → NoneWrites exact n h

-- the kinds that a holder says of the objects whose commands come to this mailbox are theirs
abbrev pub AreOfKind : {N : Type 0} → Control → (slot : ℕ) → Holding N → Type 0
AreOfKind c slot h = (i : ℕ) → IsServed c slot i → KindFits (obj c.rows i) (h.kind i)

-- halves whose bind or Plug is on its way to an object of this mailbox may join what the holder has: they are known by the names of their pipes
abbrev pub FitBinds : {G N O I S : Type 0} → (out_name : O → N) → (in_name : I → N) → Past G N S → (slot : ℕ) → (fits : Halves O I → Type 0) → Type 0
FitBinds {O = O} {I = I} out_name in_name p slot fits = (e : EndId) (x : Halves O I) → place_of (control_of p) e ≡ Away → owner_of (control_of p) e < next_object (control_of p) → (obj (control_of p).rows (owner_of (control_of p) e)).slot ≡ slot →
    name_of (items_of p) e ≡ Some (out_name x.out) → name_of (items_of p) (other_end e) ≡ Some (in_name x.input) → fits x

module _ {G N S : Type 0} where
  -- a lent holder has of its objects what the events say
  abbrev pub HasWhat : Past G N S → Holding N → Type 0
  HasWhat p h = HasAll (name_of (items_of p)) (control_of p) h

  -- an end met its delimiter, and nothing else happened
  pub record NotesDelimiter (e : EndId) (old new : Past G N S) : Type 0 where
    pub looked_at : looks (place_of (control_of old) e) ≡ true
    pub answered : Answered N S
    pub silent : IsSilent answered
    pub step : new ≡ with_event (Delimited e answered) old

  -- a delimiter counts where it is looked at
  abbrev pub MeetsDelimiter : EndId → Bool → (old new : Past G N S) → Type 0
  MeetsDelimiter e true old new = NotesDelimiter e old new
  MeetsDelimiter e false old new = (looks (place_of (control_of old) e) ≡ false) × (new ≡ old)

module _ {N O I S : Type 0} (out_name : O → N) (in_name : I → N) where
  -- the oldest command of a mailbox was processed
  pub record TakesOldest (slot : SlotId) (old new : Past (Given N O I) N S) : Type 0 where
    pub letter : Letter
    pub behind : List Letter
    pub oldest : (control_of old).boxes slot.0 ≡ letter ∷ behind
    pub answered : Answered N S
    pub brings : BringsFirst out_name in_name letter.word answered.joined old.given new.given
    pub step : new ≡ only_given new.given (with_event (Delivered slot letter answered) old)

  -- what a delivery found: only a command that was processed changes anything
  abbrev pub FindsOldest : SlotId → Heard → (old new : Past (Given N O I) N S) → Type 0
  FindsOldest slot Done old new = TakesOldest slot old new
  FindsOldest slot Empty old new = ((control_of old).boxes slot.0 ≡ []) × (new ≡ old)
