-- What a call on one socket leaves of the others of a run (own choice).
use Rattle.std.specs.Prelude.{◌≡◌, ℕ, true, List, Option, Some, None, All, is_some}
use Rattle.msg_pipe.specs.Known.{Known}
use Rattle.desk.specs.declared.given.Given.{Given}
use Rattle.desk.specs.declared.halves.Halves.{Halves}
use Rattle.desk.specs.TakingOver.{AreGivenWith}
use Rattle.end_table.specs.declared.table.Place.{Place}
use Rattle.end_table.specs.Places.{place_at}
use Rattle.end_table.specs.Sound.{IsElseOf}
use Rattle.end_table.specs.declared.table.EndTable.{EndTable}
use Rattle.end_table.specs.Others.{IsApartFrom, IsNoneWritten, IsNoneRead, IsUnsettled, AreElseFrom}
use Rattle.sock_core.specs.declared.sock.SockCore.{SockCore}
use Rattle.sock_calls.specs.Calls.{FitsPipes, MayJoin, LeavesOthers}

module _ {N O I S : Type 0} (K : Known S O I N) where
  -- the halves of an end that was given away are of other pipes than those of one owner's ends
  pub record IsGivenElse (from to : EndTable N O I) (g : Given N O I) : Type 0 where
    pub outs : is_some g.out ≡ true → IsNoneWritten K from to g.written
    pub unsettled : is_some g.out ≡ true → IsUnsettled K to g.written
    pub ins : IsNoneRead K from to (K.in_name g.input)

module _ {C W N O I S : Type 0} (K : Known S O I N) where
  -- the ends that a socket has are of other pipes than those of one that was called
  abbrev pub IsApart : (old new other : Option (SockCore C W N O I)) → Type 0
  IsApart None new other = ⊥
  IsApart (Some a) None other = ⊥
  IsApart (Some a) (Some b) None = ⊥
  IsApart (Some a) (Some b) (Some s) = (k : ℕ) (p : Place N I) → place_at s.ends.places.items k ≡ Some p → p.held ≡ true → IsApartFrom K a.ends b.ends p

  -- halves on their way to a socket are of other pipes than those of one that was called, and than those of its own ends now
  abbrev pub AreElse : (old new other : Option (SockCore C W N O I)) → Halves O I → Type 0
  AreElse None new other h = ⊥
  AreElse (Some a) None other h = ⊥
  AreElse (Some a) (Some b) None h = ⊥
  AreElse (Some a) (Some b) (Some s) h = AreElseFrom K a.ends b.ends h × ((k : ℕ) (p : Place N I) → place_at s.ends.places.items k ≡ Some p → p.held ≡ true → IsElseOf K p h)

  -- and than those of a socket that was called
  abbrev pub IsGivenApart : (old new : Option (SockCore C W N O I)) → Given N O I → Type 0
  IsGivenApart None new g = ⊥
  IsGivenApart (Some a) None g = ⊥
  IsGivenApart (Some a) (Some b) g = IsGivenElse K a.ends b.ends g

module _ (C W : Type 0) {N O I S : Type 0} (K : Known S O I N) where
  -- a socket whose ends are of other pipes than those of one that was called fits still
  abbrev pub LeavesFit : (peers : C → List ℕ) → Type 0
  LeavesFit peers = (old new other : Option (SockCore C W N O I)) (before now : S) →
      LeavesOthers K old new before now → IsApart K old new other → FitsPipes K peers before other → FitsPipes K peers now other

  -- halves that are of other pipes may join a socket still; it may be the socket that was called
  abbrev pub LeavesJoining : Type 0
  LeavesJoining = (old new was other : Option (SockCore C W N O I)) (before now : S) (h : Halves O I) →
      LeavesOthers K old new before now → AreElse K old new other h → MayJoin K before was h → MayJoin K now other h

  -- ends of other pipes that were given away are with their halves still
  abbrev pub LeavesGiven : Type 0
  LeavesGiven = (old new : Option (SockCore C W N O I)) (before now : S) (gs : List (Given N O I)) →
      LeavesOthers K old new before now → All (IsGivenApart K old new) gs → AreGivenWith K before gs → AreGivenWith K now gs
