-- A request of a socket's that binds or connects to a name, or strikes one of these.
use Rattle.std.proofs.Common.{◌≡◌, ◌∙◌, ◌++◌, ℕ, Bool, true, false, List, append-nil, Option, Some, None, refl, sym, ap, subst}
use Rattle.std.specs.Prelude.{Result, Ok, Err, IfOk, OnErr}
use Rattle.zq_base.specs.declared.ids.ObjId.{ObjId}
use Rattle.spec_control.specs.declared.request.Req.{Req}
use Rattle.spec_control.specs.declared.request.Req.TheVariants.{Bind, Connect, Unbind, Disconnect, Socket as MakeSocket, AskTerm, Close, Accepted, Shaken, AskEnd, AskOver, OutputOver}
use Rattle.spec_control.specs.Control.{id}
use Rattle.spec_control.specs.Held.{asker}
use Rattle.spec_control.specs.Has.{given_by_request}
use Rattle.spec_control.specs.Rows.{is_owner}
use Rattle.spec_control.specs.declared.entry.Item.{Item}
use Rattle.spec_control.specs.OwnAsks.{known_after, MayAskOwn}
use Rattle.desk.specs.declared.given.Given.{Given}
use Rattle.desk.specs.Asking.{HasMarks, IsOfSockets}
use Rattle.desk.specs.Coming.{SendsEnds, is_close}
use Rattle.desk.specs.Holding.{Holding}
use Rattle.msg_pipe.specs.Known.{Known}
use Rattle.any_sock.specs.declared.any_sock.AnySock.{AnySock}
use Rattle.sock_core.specs.declared.sock.SockCore.{SockCore}
use Rattle.sock_calls.specs.Calls.{owner_of}
use Rattle.line_calls.specs.Steps.{IsNamingOf}
use Rattle.line_socket.specs.View.{open_view}
use Rattle.line_socket.proofs.PartsLemmas.{may_reach}

-- it is one of four
by_four : (P : ℕ → Req → Type 0) → ((o : ℕ) (at : _) → P o (Bind (id o) at)) → ((o : ℕ) (at : _) → P o (Connect (id o) at)) → ((o : ℕ) (at : _) → P o (Unbind (id o) at)) → ((o : ℕ) (at : _) → P o (Disconnect (id o) at))
    → (o : ℕ) (req : Req) → IsNamingOf o req → P o req
by_four P b k u d o (Bind s at) is = subst (λ (i : ObjId). P o (Bind i at)) (sym is.0) (b o at)
by_four P b k u d o (Connect s at) is = subst (λ (i : ObjId). P o (Connect i at)) (sym is.0) (k o at)
by_four P b k u d o (Unbind s at) is = subst (λ (i : ObjId). P o (Unbind i at)) (sym is) (u o at)
by_four P b k u d o (Disconnect s at) is = subst (λ (i : ObjId). P o (Disconnect i at)) (sym is) (d o at)
by_four P b k u d o (MakeSocket kind options) is = absurd is
by_four P b k u d o AskTerm is = absurd is
by_four P b k u d o (Close s) is = absurd is
by_four P b k u d o (Accepted s) is = absurd is
by_four P b k u d o (Shaken s peer) is = absurd is
by_four P b k u d o (AskEnd e reason) is = absurd is
by_four P b k u d o (AskOver s) is = absurd is
by_four P b k u d o (OutputOver s) is = absurd is

pub naming_own : (o : ℕ) (req : Req) → IsNamingOf o req → asker req ≡ Some o
naming_own o req is = by_four (λ o r. asker r ≡ Some o) (λ o at. refl) (λ o at. refl) (λ o at. refl) (λ o at. refl) o req is

pub naming_free : (o : ℕ) (req : Req) → IsNamingOf o req → is_owner o (given_by_request req) ≡ false
naming_free o req is = by_four (λ o r. is_owner o (given_by_request r) ≡ false) (λ o at. refl) (λ o at. refl) (λ o at. refl) (λ o at. refl) o req is

pub naming_open : (o : ℕ) (req : Req) → IsNamingOf o req → is_close req ≡ false
naming_open o req is = by_four (λ o r. is_close r ≡ false) (λ o at. refl) (λ o at. refl) (λ o at. refl) (λ o at. refl) o req is

pub naming_marks : (o : ℕ) (req : Req) → IsNamingOf o req → HasMarks req
naming_marks o req is = by_four (λ o r. HasMarks r) (λ o at. tt) (λ o at. tt) (λ o at. tt) (λ o at. tt) o req is

pub naming_may : (o : ℕ) {N T : Type 0} (items : List (Item N T)) (req : Req) → IsNamingOf o req → (known_after o items).open_socket ≡ true → MayAskOwn items req
naming_may o items req is = by_four (λ o r. (known_after o items).open_socket ≡ true → MayAskOwn items r) (λ o at h. h) (λ o at h. h) (λ o at h. h) (λ o at h. h) o req is

pub naming_sockets : (serves : Bool) (o : ℕ) (req : Req) → IsNamingOf o req → IsOfSockets serves req
naming_sockets serves o (Bind s at) is = may_reach serves at is.1
naming_sockets serves o (Connect s at) is = may_reach serves at is.1
naming_sockets serves o (Unbind s at) is = tt
naming_sockets serves o (Disconnect s at) is = tt
naming_sockets serves o (MakeSocket kind options) is = absurd is
naming_sockets serves o AskTerm is = absurd is
naming_sockets serves o (Close s) is = absurd is
naming_sockets serves o (Accepted s) is = absurd is
naming_sockets serves o (Shaken s peer) is = absurd is
naming_sockets serves o (AskEnd e reason) is = absurd is
naming_sockets serves o (AskOver s) is = absurd is
naming_sockets serves o (OutputOver s) is = absurd is

-- of the socket as a run tells it
pub naming_seen : {W N O I : Type 0} (slot : ℕ) (s : Option (SockCore AnySock W N O I)) (req : Req) → IsNamingOf (open_view slot s).object req → IsNamingOf (owner_of s) req
naming_seen slot None req is = is
naming_seen slot (Some s) req is = is

-- it puts no end on its way
pub given_stays : {S O I N A E : Type 0} (K : Known S O I N) (pipes : S) (h : Holding N) (req : Req) → is_close req ≡ false → {old new : List (Given N O I)} (Q : Type 0) (r : Result A E) → IfOk r (λ x. SendsEnds K pipes h req old new) → OnErr r (Q × (new ≡ old)) → new ≡ old
given_stays K pipes h req stays {old} {new} Q (Ok x) sends err = sends.behind ∙ ap (λ l. old ++ l) (sends.others stays) ∙ append-nil old
given_stays K pipes h req stays Q (Err x) sends err = err.1
