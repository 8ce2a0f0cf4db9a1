-- What a core shows of calls on one of its sockets, so that each other that its caller has open agrees still (own choice).
use Rattle.std.specs.Prelude.{◌≡◌, ◌≢◌, ◌<◌, ℕ, true, Some}
use Rattle.zq_base.specs.declared.ids.EndId.{EndId}
use Rattle.spec_control.specs.Control.{id, next_object}
use Rattle.spec_control.specs.Moments.{Moment}
use Rattle.msg_pipe.specs.Known.{Known}
use Rattle.any_sock.specs.declared.any_sock.AnySock.{AnySock}
use Rattle.desk.specs.declared.given.Given.{Given}
use Rattle.ctl_plane.specs.Past.{control_of}
use Rattle.sock_core.specs.declared.sock.SockCore.{SockCore}
use Rattle.line_socket.specs.View.{open_view}
use Rattle.zq_world.specs.Way.{KeepsOthers}
use Rattle.plain_desk.specs.Lent.{HasSocket, Lent}
use Rattle.socket_laws.specs.Behind.{IsOneCall, SendsNone}
use Rattle.socket_laws.specs.Calling.{IsExact}
use Rattle.line_socket.specs.Leaving.{NamesStandIn, TellsRest}
use Rattle.core_laws.specs.Agrees.{AgreesIn}
use Rattle.core_laws.specs.Calls.{AreCallsOn}
use Rattle.core_laws.specs.Coming.{IsSent, is_ending}

module _ {N O I P T : Type 0} (K : Known P O I N) where
  -- calls of an open socket, over pipes whose looks are exact, each with a name of its own
  pub record LeavesRest (o : ℕ) (old new : Lent (Given N O I) N T) (before behind : P) : Type 0 where
    pub calls : AreCallsOn o old new
    pub had : HasSocket old (id o)
    pub exact : IsExact K
    pub named : NamesStandIn K old before
    pub named_now : NamesStandIn K new behind
    pub rest : TellsRest K o old new before behind

-- each other socket that its caller has open agrees still, behind calls of one
abbrev pub OthersAgreeStill : (W T : Type 0) → {P N O I : Type 0} → Known P O I N → Type 0
OthersAgreeStill W T {P} {N} {O} {I} K = (o : ℕ) (old new : Lent (Given N O I) N T) (before behind : P) → LeavesRest K o old new before behind →
    (j : ℕ) (t : SockCore AnySock W N O I) → (j ≡ old.caller → t.number.0 ≢ o) → AgreesIn K old j before t → AgreesIn K new j behind t

-- so an actor's others are kept
abbrev pub OthersAreKept : (W T : Type 0) → {P N O I : Type 0} → Known P O I N → Type 0
OthersAreKept W T {P} {N} {O} {I} K = (o : ℕ) (old new : Lent (Given N O I) N T) (before behind : P) →
    LeavesRest K o old new before behind → (slot : SockCore AnySock W N O I → ℕ) →
    KeepsOthers {W = Lent (Given N O I) N T × P} (λ s. open_view (slot s) (Some s)) (λ w k s. AgreesIn K w.0 k w.1 s) (λ w i. i < next_object (control_of w.0.past)) old.caller o (old, before) (new, behind)

-- where no end was put on its way, none of a pair made since was
abbrev pub NoneIsSent : (G N S : Type 0) → Type 0
NoneIsSent G N S = (old new : Lent G N S) → SendsNone old new → (e : EndId) → IsSent old new e → ⊥

-- and a request that ends what a socket bound or connected, or the socket, puts none on its way
abbrev pub EndingsSendNone : (G N S : Type 0) → Type 0
EndingsSendNone G N S = (old new : Lent G N S) (m : Moment N S) → IsOneCall old new m → is_ending m.item ≡ true → (e : EndId) → IsSent old new e → ⊥
