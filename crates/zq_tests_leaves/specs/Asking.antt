-- A socket that is there, and what is asked for it (zmq_bind(3), zmq_connect(3), zmq_unbind(3), zmq_disconnect(3), zmq_close(3); own choice).
use Rattle.std.specs.Prelude.{◌≡◌, ◌≤◌, ℕ, true, [], Option, Some, None}
use Rattle.spec_control.specs.declared.request.Req.{Req}
use Rattle.spec_control.specs.declared.request.Req.TheVariants.{Socket as MakeSocket, AskTerm, Bind, Connect, Unbind, Disconnect, Close, Accepted, Shaken, AskEnd, AskOver, OutputOver}
use Rattle.spec_control.specs.Control.{begun}
use Rattle.spec_control.specs.Moments.{moments_by, moments_from}
use Rattle.sock_core.specs.declared.sock.SockCore.{SockCore}
use Rattle.plain_desk.specs.Lent.{Lent}

-- the socket is there, open, and of this number
abbrev pub IsOpenAs : {C W N O I : Type 0} → ℕ → Option (SockCore C W N O I) → Type 0
IsOpenAs o None = ⊥
IsOpenAs o (Some s) = (s.is_open ≡ true) × (s.number.0 ≡ o)

-- a bind or a connect of this socket's to any endpoint, what strikes one of these, or its close
abbrev pub IsOfIts : ℕ → Req → Type 0
IsOfIts o (MakeSocket kind options) = ⊥
IsOfIts o AskTerm = ⊥
IsOfIts o (Bind s at) = s.0 ≡ o
IsOfIts o (Connect s at) = s.0 ≡ o
IsOfIts o (Unbind s at) = s.0 ≡ o
IsOfIts o (Disconnect s at) = s.0 ≡ o
IsOfIts o (Close s) = s.0 ≡ o
IsOfIts o (Accepted s) = ⊥
IsOfIts o (Shaken s peer) = ⊥
IsOfIts o (AskEnd e reason) = ⊥
IsOfIts o (AskOver s) = ⊥
IsOfIts o (OutputOver s) = ⊥

-- the callers from this number on did and saw nothing yet
abbrev pub NoneFrom : {G N S : Type 0} → ℕ → Lent G N S → Type 0
NoneFrom n d = (k : ℕ) → n ≤ k → moments_by k (moments_from (begun d.past.workers) d.items) ≡ []
