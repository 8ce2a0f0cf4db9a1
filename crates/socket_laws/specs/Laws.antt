-- The one order of a context, as the caller of an open socket needs it from call to call (own choice).
use Rattle.std.specs.Prelude.{◌≡◌, ◌≢◌, ℕ, true, false, All, Some}
use Rattle.zq_base.specs.declared.ids.EndId.{EndId}
use Rattle.spec_control.specs.Control.{id}
use Rattle.spec_control.specs.Names.{name_of}
use Rattle.spec_control.specs.Moments.{Moment}
use Rattle.msg_pipe.specs.Known.{Known}
use Rattle.desk.specs.Holding.{Holding}
use Rattle.desk.specs.TakingOver.{AreDistinct}
use Rattle.desk.specs.Coming.{BindsFit}
use Rattle.desk.specs.Desk.{HasWhatTheySay, slot_after}
use Rattle.end_table.specs.declared.table.Place.{Place}
use Rattle.end_table.specs.Places.{place_at}
use Rattle.sock_core.specs.declared.sock.SockCore.{SockCore}
use Rattle.sock_calls.specs.Calls.{LeavesOthers, MayJoin}
use Rattle.plain_desk.specs.Lent.{coming_to, moments_of, GrowsBy, HasSocket, IsOneOrder, Lent}
use Rattle.plain_desk.specs.Reaping.{served_by}
use Rattle.socket_laws.specs.Behind.{closes, is_request, IsLastItem, is_its_end, IsAsBefore, IsNoneOfIts, IsOfIts, IsOneCall, SendsNone, SettlesOwn, StaysOpen}

-- the commands of no other object come to the mailbox of an open socket
abbrev pub SocketsAreAlone : (G N S : Type 0) → Type 0
SocketsAreAlone G N S = (d : Lent G N S) (o : ℕ) → IsOneOrder d → HasSocket d (id o) →
    (i : ℕ) → served_by d (slot_after o (moments_of d)).0 i ≡ true → i ≡ o

-- the last moment of the caller is the last item of the order
abbrev pub MomentsAreLast : (G N S : Type 0) → Type 0
MomentsAreLast G N S = (old new : Lent G N S) (m : Moment N S) → IsOneCall old new m → IsLastItem old new m

-- where the caller has no moment more, the order is as it was
abbrev pub NoMomentNoItem : (G N S : Type 0) → Type 0
NoMomentNoItem G N S = (old new : Lent G N S) → IsOneOrder old → IsOneOrder new → GrowsBy old new → moments_of new ≡ moments_of old → IsAsBefore old new

-- the other callers did and saw no more
abbrev pub OthersStay : (G N S : Type 0) → Type 0
OthersStay G N S = (old new : Lent G N S) → GrowsBy old new → (k : ℕ) → k ≢ old.caller → moments_of (record new { caller = k }) ≡ moments_of (record old { caller = k })

-- a call that does not close a socket leaves it open
abbrev pub SocketsStayOpen : (G N S : Type 0) → Type 0
SocketsStayOpen G N S = (old new : Lent G N S) (m : Moment N S) → IsOneCall old new m →
    (o : ℕ) → HasSocket old (id o) → closes o m.item ≡ false → StaysOpen o old new

-- a call that is no request makes no pipe, and puts no end on its way
abbrev pub RequestsAloneSend : (G N S : Type 0) → Type 0
RequestsAloneSend G N S = (old new : Lent G N S) (m : Moment N S) → IsOneCall old new m → is_request m.item ≡ false → SendsNone old new

-- an end on its way to an open socket is none that the socket has or had, and no pair joins a socket with itself
abbrev pub ComingEndsAreNew : (G N S : Type 0) → Type 0
ComingEndsAreNew G N S = (d : Lent G N S) (o : ℕ) → IsOneOrder d → HasSocket d (id o) →
    (e : EndId) → coming_to d (slot_after o (moments_of d)).0 e ≡ true → IsNoneOfIts o d e

-- the ends that a holder has of an open socket are its, by the names that their pipes were given
abbrev pub HeldEndsAreIts : (G N S : Type 0) → Type 0
HeldEndsAreIts G N S = (d : Lent G N S) (o : ℕ) → IsOneOrder d → HasSocket d (id o) →
    (h : Holding N) → HasWhatTheySay d.caller (moments_of d) h → h.holds o ≡ true → All (λ x. IsOfIts o d x.end x.written x.read) (h.ends o)

-- and stay its where it is not closed, also those that are held no more
abbrev pub EndsStayIts : (G N S : Type 0) → Type 0
EndsStayIts G N S = (old new : Lent G N S) (m : Moment N S) → IsOneCall old new m →
    (o : ℕ) → HasSocket old (id o) → closes o m.item ≡ false → (e : EndId) → is_its_end o old e ≡ true → is_its_end o new e ≡ true

-- halves that might join a socket may join it behind calls of its that put no end on its way and left it open
abbrev pub BindsFitStill : (C W S : Type 0) → {P N O I : Type 0} → Known P O I N → (G : Type 0) → Type 0
BindsFitStill C W S {P} {N} {O} {I} K G = (old new : Lent G N S) (o : ℕ) → IsOneOrder new → SendsNone old new →
    HasSocket new (id o) → slot_after o (moments_of new) ≡ slot_after o (moments_of old) → AreDistinct K.exact (name_of old.items) →
    (was now : SockCore C W N O I) (pipes behind : P) → LeavesOthers K (Some was) (Some now) pipes behind →
    ((k : ℕ) (p : Place N I) → place_at now.ends.places.items k ≡ Some p → IsOfIts o new p.end p.written p.read) → SettlesOwn K now.ends →
    BindsFit K.out_name K.in_name (name_of old.items) (coming_to old (slot_after o (moments_of old)).0) (MayJoin K pipes (Some was)) →
    BindsFit K.out_name K.in_name (name_of new.items) (coming_to new (slot_after o (moments_of new)).0) (MayJoin K behind (Some now))
