-- The pipes that a request makes, and how many messages they hold (zmq_setsockopt(3), ZMQ_SNDHWM and ZMQ_RCVHWM).
use Rattle.std.specs.Prelude.{◌≡◌, ◌+◌, ℕ, true, false, List, [], ◌∷◌, Option, Some, None, slice_get}
use Rattle.zq_base.specs.declared.endpoint.Endpoint.TheVariants.{Inproc, Tcp}
use Rattle.zq_base.specs.declared.ids.EndId.{EndId}
use Rattle.zq_base.specs.declared.options.Options.{Options}
use Rattle.spec_control.specs.declared.book.Binding.{Binding}
use Rattle.spec_control.specs.declared.book.Waiting.{Waiting}
use Rattle.spec_control.specs.declared.request.Req.{Req}
use Rattle.spec_control.specs.declared.request.Req.TheVariants.{Socket as MakeSocket, AskTerm, Bind, Connect, Unbind, Disconnect, Close, Accepted, Shaken, AskEnd, AskOver, OutputOver}
use Rattle.spec_control.specs.Register.{fulfilled_by}
use Rattle.spec_control.specs.Rows.{obj}
use Rattle.spec_control.specs.Control.{Control, end_of, next_pair}
use Rattle.spec_control.specs.After.{binding_by, pair_or_none}

-- how many messages a pipe holds that one socket writes and another reads
abbrev pub capacity_between : Control → (writer reader : ℕ) → ℕ
capacity_between c writer reader = (obj c.rows writer).options.hwm + (obj c.rows reader).options.rcvhwm

-- an end that a request makes, and how many messages its pipes hold: the one that it writes, and the one that it reads
pub record MadeEnd : Type 0 where
  pub end : EndId
  pub written : ℕ
  pub read : ℕ

-- between two sockets
abbrev pub between : Control → EndId → (o peer : ℕ) → MadeEnd
between c e o peer = record { end = e; written = capacity_between c o peer; read = capacity_between c peer o }

-- between a socket and its session a pipe has the socket's mark alone, its send mark outward and its receive mark inward: the socket's end, and the session's
abbrev pub outward : Options → EndId → MadeEnd
outward options e = record { end = e; written = options.hwm; read = options.rcvhwm }

abbrev pub inward : Options → EndId → MadeEnd
inward options e = record { end = e; written = options.rcvhwm; read = options.hwm }

-- the ends of a bind's own for these waiting connects, from this pair on
abbrev pub bind_makes : Control → (o k : ℕ) → List Waiting → List MadeEnd
bind_makes c o k [] = []
bind_makes c o k (w ∷ ws) = between c (end_of k false) o w.waiter.0 ∷ bind_makes c o (k + 1) ws

abbrev pub connect_makes : Control → (o : ℕ) → Option Binding → List MadeEnd
connect_makes c o None = []
connect_makes c o (Some binding) = between c (end_of (next_pair c) true) o binding.holder.0 ∷ []

-- the ends of its own that an object's request joins
abbrev pub request_makes : Control → Req → List MadeEnd
request_makes c (Bind o (Inproc name)) = bind_makes c o.0 (next_pair c) (fulfilled_by (Inproc name) (binding_by o.0 c) c.names)
request_makes c (Bind o (Tcp address)) = []
request_makes c (Connect o (Inproc name)) = connect_makes c o.0 (c.names.held (Inproc name))
request_makes c (Connect o (Tcp address)) = outward (obj c.rows o.0).options (end_of (next_pair c) true) ∷ []
request_makes c (MakeSocket kind options) = []
request_makes c AskTerm = []
request_makes c (Unbind o at) = []
request_makes c (Disconnect o at) = []
request_makes c (Close o) = []
request_makes c (Accepted o) = []
request_makes c (Shaken o peer) = inward (obj c.rows o.0).options (end_of (pair_or_none (obj c.rows o.0).pair) true) ∷ []
request_makes c (AskEnd e reason) = []
request_makes c (AskOver o) = []
request_makes c (OutputOver o) = []

-- a request makes this end, whose pipes hold so many messages: the one that it writes, and the one that it reads
pub record IsMadeFor (c : Control) (req : Req) (e : EndId) (written read : ℕ) : Type 0 where
  pub place : ℕ
  pub among : slice_get (request_makes c req) place ≡ Some (record { end = e; written = written; read = read })

-- whatever a request makes may be made
abbrev pub MakesSo : Control → Req → (may_make : EndId → ℕ → ℕ → Type 0) → Type 0
MakesSo c req may_make = (e : EndId) (written read : ℕ) → IsMadeFor c req e written read → may_make e written read
