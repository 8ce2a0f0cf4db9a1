-- The sockets that callers have open agree still behind a call of the reaper (own choice, after libzmq's `reaper_t`).
use Rattle.std.specs.Prelude.{◌≡◌, ◌≢◌, ◌⊎◌, ℕ, true, List}
use Rattle.std.specs.List.{list_any}
use Rattle.zq_base.specs.declared.ids.EndId.{EndId}
use Rattle.spec_control.specs.Control.{owner_of}
use Rattle.spec_control.specs.Names.{name_of}
use Rattle.msg_pipe.specs.Known.{Known}
use Rattle.any_sock.specs.declared.any_sock.AnySock.{AnySock}
use Rattle.desk.specs.declared.given.Given.{Given}
use Rattle.ctl_plane.specs.Past.{control_of}
use Rattle.end_table.specs.declared.changes.PipeChange.{PipeChange}
use Rattle.socket_laws.specs.Names.{NamesStand}
use Rattle.sock_core.specs.declared.sock.SockCore.{SockCore}
use Rattle.closed_ends.specs.declared.sockets.ClosedSockets.{ClosedSockets}
use Rattle.closed_ends.specs.Has.{all_ends, is_of}
use Rattle.plain_desk.specs.Lent.{Lent}
use Rattle.core_laws.specs.Agrees.{AgreesIn}
use Rattle.core_laws.specs.ReapedComing.{AwayUnsealed, HasOnlyTaken}
use Rattle.core_laws.specs.Ends.{ReaperDid, ReaperGoesOn}

-- where the ends go on; what is on its way is unsealed, and each pipe that has a name has one of its own
abbrev pub OpenAgreeStill : (W T : Type 0) → {S O I N : Type 0} → Known S O I N → Type 0
OpenAgreeStill W T {S} {O} {I} {N} K = (old new : Lent (Given N O I) N T) (before behind : S) (from to : ClosedSockets N O I) (changes : List (PipeChange O I × S)) →
    (did : ReaperDid K old new before behind from to changes) → ∥ ReaperGoesOn K old new did.call from to ∥₁ →
    NamesStand K (control_of old.past) (name_of old.items) before → AwayUnsealed K old before → HasOnlyTaken old.caller old →
    (j : ℕ) (t : SockCore AnySock W N O I) → AgreesIn K old j before t → AgreesIn K new j behind t

-- an end that the reaper had or has is none of a socket's that a caller has open
abbrev pub OpenHasNone : (W T : Type 0) → {S O I N : Type 0} → Known S O I N → Type 0
OpenHasNone W T {S} {O} {I} {N} K = (old new : Lent (Given N O I) N T) (before behind : S) (from to : ClosedSockets N O I) (changes : List (PipeChange O I × S)) →
    ReaperDid K old new before behind from to changes → HasOnlyTaken old.caller old →
    (j : ℕ) (t : SockCore AnySock W N O I) → AgreesIn K old j before t → (e : EndId) → (list_any (is_of e) (all_ends from.sockets.items) ≡ true) ⊎ (list_any (is_of e) (all_ends to.sockets.items) ≡ true) →
    owner_of (control_of new.past) e ≢ t.number.0
