-- What calls on one open socket leave of the others (own choice).
use Rattle.std.specs.Prelude.{◌≡◌, ◌≢◌, ◌≤◌, ℕ, false, All, List, Some, length}
use Rattle.spec_control.specs.Control.{id}
use Rattle.spec_control.specs.Names.{name_of}
use Rattle.msg_pipe.specs.Known.{Known}
use Rattle.desk.specs.declared.given.Given.{Given}
use Rattle.desk.specs.TakingOver.{AreDistinct}
use Rattle.desk.specs.Coming.{BindsFit}
use Rattle.desk.specs.Desk.{slot_after}
use Rattle.any_sock.specs.declared.any_sock.AnySock.{AnySock}
use Rattle.end_table.specs.declared.table.Place.{Place}
use Rattle.end_table.specs.declared.table.EndTable.{EndTable}
use Rattle.end_table.specs.Others.{IsApartFrom, KeepsPlaces}
use Rattle.sock_core.specs.declared.sock.SockCore.{SockCore}
use Rattle.sock_core.specs.Noted.{WereRead}
use Rattle.sock_calls.specs.Calls.{LeavesOthers, MayJoin}
use Rattle.sock_calls.specs.Others.{IsApart}
use Rattle.line_socket.specs.Owned.{IsOwned}
use Rattle.plain_desk.specs.Lent.{coming_to, HasSocket, IsOneOrder, Lent, moments_of}
use Rattle.socket_laws.specs.Behind.{is_request, SendsNone, SettlesOwn}
use Rattle.core_laws.specs.Apart.{ArePlacesOf, IsHeldBy}
use Rattle.core_laws.specs.Coming.{SendsNoneTo}
use Rattle.core_laws.specs.Calls.{AreCallsOn, SaySame, for_caller}

-- where each pipe that was settled is one that an end read that is held no more, no other was
abbrev pub SettledWereRead : {N O I P : Type 0} → Known P O I N → Type 0
SettledWereRead {N} {O} {I} K = (t : EndTable N O I) → WereRead t.places.items t.settled.items → SettlesOwn K t

-- whatever socket another caller has open, or the same caller another, calls on an object leave what its caller's moments say of it
abbrev pub OthersSayTheSame : (G N S : Type 0) → Type 0
OthersSayTheSame G N S = (old new : Lent G N S) (o : ℕ) → AreCallsOn o old new →
    (j u : ℕ) → (j ≡ old.caller → u ≢ o) → HasSocket (for_caller j old) (id u) → SaySame u (moments_of (for_caller j old)) (moments_of (for_caller j new))

-- the ends that a socket holds are of other pipes than those of another that were there at the beginning or came since, and than those that it settled
abbrev pub HeldPlacesAreApart : {P N O I : Type 0} → Known P O I N → (G S : Type 0) → Type 0
HeldPlacesAreApart {N = N} {O = O} {I = I} K G S = (d : Lent G N S) → IsOneOrder d → AreDistinct K.exact (name_of d.items) →
    (i o j u : ℕ) → o ≢ u → HasSocket (for_caller i d) (id o) → HasSocket (for_caller j d) (id u) →
    (from to : EndTable N O I) → ArePlacesOf o (for_caller i d) to.places.items → WereRead to.places.items to.settled.items →
    (p : Place N I) → IsHeldBy u (for_caller j d) p → IsApartFrom K from to p

-- a socket that its caller has open is so still, as its caller's moments left it, behind calls on another whose ends are of other pipes: another caller's, or another of the same caller
abbrev pub OthersStayOwned : (W T : Type 0) → {P N O I : Type 0} → Known P O I N → Type 0
OthersStayOwned W T {P} {N} {O} {I} K = (old new : Lent (Given N O I) N T) (o : ℕ) → AreCallsOn o old new →
    (was now t : SockCore AnySock W N O I) (before behind : P) → LeavesOthers K (Some was) (Some now) before behind → IsApart K (Some was) (Some now) (Some t) →
    (j : ℕ) → (j ≡ old.caller → t.number.0 ≢ o) → IsOwned K j (moments_of (for_caller j old)) before t → IsOwned K j (moments_of (for_caller j new)) behind t

-- the ends of a socket that its caller has open are of other pipes than those of another that is open, whose places are of its ends
abbrev pub OwnedAreApart : (W T : Type 0) → {P N O I : Type 0} → Known P O I N → Type 0
OwnedAreApart W T {P} {N} {O} {I} K = (d : Lent (Given N O I) N T) → IsOneOrder d → AreDistinct K.exact (name_of d.items) →
    (i o : ℕ) → HasSocket (for_caller i d) (id o) → (was now t : SockCore AnySock W N O I) → ArePlacesOf o (for_caller i d) now.ends.places.items → WereRead now.ends.places.items now.ends.settled.items →
    (j : ℕ) (pipes : P) → o ≢ t.number.0 → IsOwned K j (moments_of (for_caller j d)) pipes t → IsApart K (Some was) (Some now) (Some t)

-- halves that might join an open socket may join it still, behind calls on another that sent it none
abbrev pub ComingJoinStill : (C W : Type 0) → {P N O I : Type 0} → Known P O I N → (G S : Type 0) → Type 0
ComingJoinStill C W {P} {N} {O} {I} K G S = (old new : Lent G N S) → IsOneOrder new → AreDistinct K.exact (name_of new.items) →
    (i o j u : ℕ) → o ≢ u → HasSocket (for_caller i new) (id o) → HasSocket (for_caller j new) (id u) →
    (was now t : SockCore C W N O I) (before behind : P) → LeavesOthers K (Some was) (Some now) before behind →
    ArePlacesOf o (for_caller i new) now.ends.places.items → WereRead now.ends.places.items now.ends.settled.items →
    SendsNoneTo (slot_after u (moments_of (for_caller j new))).0 old new →
    BindsFit K.out_name K.in_name (name_of old.items) (coming_to old (slot_after u (moments_of (for_caller j new))).0) (MayJoin K before (Some t)) →
    BindsFit K.out_name K.in_name (name_of new.items) (coming_to new (slot_after u (moments_of (for_caller j new))).0) (MayJoin K behind (Some t))

-- the places of an open socket are of its ends still, behind calls on another
abbrev pub OtherPlacesStay : (G N S I : Type 0) → Type 0
OtherPlacesStay G N S I = (old new : Lent G N S) (o : ℕ) → AreCallsOn o old new →
    (j u : ℕ) → (j ≡ old.caller → u ≢ o) → HasSocket (for_caller j old) (id u) → (ps : List (Place N I)) → ArePlacesOf u (for_caller j old) ps → ArePlacesOf u (for_caller j new) ps

-- calls of a socket that are no requests make no pipe, and put no end on its way
abbrev pub CallsSendNone : (G N S : Type 0) → Type 0
CallsSendNone G N S = (old new : Lent G N S) (o : ℕ) (calls : AreCallsOn o old new) → All (λ m. is_request m.item ≡ false) calls.more → SendsNone old new

-- what puts no end on its way sends no mailbox any
abbrev pub SendsNoneAtAll : (G N S : Type 0) → Type 0
SendsNoneAtAll G N S = (old new : Lent G N S) → SendsNone old new → (slot : ℕ) → SendsNoneTo slot old new

-- calls that attached no end to the socket and settled none of its pipes, as a close, leave the ends of others apart
abbrev pub ClosedAreApart : {P N O I : Type 0} → Known P O I N → Type 0
ClosedAreApart {P} {N} {O} {I} K = (from to : EndTable N O I) → KeepsPlaces from.places.items to.places.items → length to.places.items ≤ length from.places.items → to.settled.items ≡ from.settled.items →
    (p : Place N I) → IsApartFrom K from from p → IsApartFrom K from to p
