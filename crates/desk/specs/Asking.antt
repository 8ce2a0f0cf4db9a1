-- What a desk is asked (own choice).
use Rattle.std.specs.Prelude.{◌≤◌, Bool, true, false}
use Rattle.zq_base.specs.declared.endpoint.Endpoint.{Endpoint}
use Rattle.zq_base.specs.declared.endpoint.Endpoint.TheVariants.{Inproc, Tcp}
use Rattle.zq_base.specs.declared.options.Options.{Options}
use Rattle.spec_control.specs.declared.request.Req.{Req}
use Rattle.spec_control.specs.declared.request.Req.TheVariants.{Socket as MakeSocket, AskTerm, Bind, Connect, Unbind, Disconnect, Close, Accepted, Shaken, AskEnd, AskOver, OutputOver}

-- the options that a socket may be made with: its marks are from 1 to 10000 (zmq_setsockopt(3), ZMQ_SNDHWM and ZMQ_RCVHWM; the bound is our own choice)
pub record MayHave (options : Options) : Type 0 where
  pub some_out : 1 ≤ options.hwm
  pub few_out : options.hwm ≤ 10000
  pub some_in : 1 ≤ options.rcvhwm
  pub few_in : options.rcvhwm ≤ 10000

-- a socket that a request makes has such options
abbrev pub HasMarks : Req → Type 0
HasMarks (MakeSocket kind options) = MayHave options
HasMarks AskTerm = Unit {0}
HasMarks (Bind o at) = Unit {0}
HasMarks (Connect o at) = Unit {0}
HasMarks (Unbind o at) = Unit {0}
HasMarks (Disconnect o at) = Unit {0}
HasMarks (Close o) = Unit {0}
HasMarks (Accepted o) = Unit {0}
HasMarks (Shaken o peer) = Unit {0}
HasMarks (AskEnd e reason) = Unit {0}
HasMarks (AskOver o) = Unit {0}
HasMarks (OutputOver o) = Unit {0}

-- the endpoint is a name within the context (zmq_inproc(7))
abbrev pub IsInproc : Endpoint → Type 0
IsInproc (Inproc name) = Unit {0}
IsInproc (Tcp address) = ⊥

-- a socket's endpoint is a name, where there are no listeners and no sessions
abbrev pub MayReach : (serves : Bool) → Endpoint → Type 0
MayReach true at = Unit {0}
MayReach false at = IsInproc at

-- the request is the context's or a socket's, and where there are no listeners and no sessions it makes none
abbrev pub IsOfSockets : (serves : Bool) → Req → Type 0
IsOfSockets serves (MakeSocket kind options) = Unit {0}
IsOfSockets serves AskTerm = Unit {0}
IsOfSockets serves (Bind o at) = MayReach serves at
IsOfSockets serves (Connect o at) = MayReach serves at
IsOfSockets serves (Unbind o at) = Unit {0}
IsOfSockets serves (Disconnect o at) = Unit {0}
IsOfSockets serves (Close o) = Unit {0}
IsOfSockets serves (Accepted o) = ⊥
IsOfSockets serves (Shaken o peer) = ⊥
IsOfSockets serves (AskEnd e reason) = ⊥
IsOfSockets serves (AskOver o) = ⊥
IsOfSockets serves (OutputOver o) = ⊥

-- the request is a listener's or a session's
abbrev pub IsOfWorkers : Req → Type 0
IsOfWorkers (MakeSocket kind options) = ⊥
IsOfWorkers AskTerm = ⊥
IsOfWorkers (Bind o at) = ⊥
IsOfWorkers (Connect o at) = ⊥
IsOfWorkers (Unbind o at) = ⊥
IsOfWorkers (Disconnect o at) = ⊥
IsOfWorkers (Close o) = ⊥
IsOfWorkers (Accepted o) = Unit {0}
IsOfWorkers (Shaken o peer) = Unit {0}
IsOfWorkers (AskEnd e reason) = Unit {0}
IsOfWorkers (AskOver o) = Unit {0}
IsOfWorkers (OutputOver o) = Unit {0}

-- of these, those that make an object or a pair take memory
abbrev pub makes_more : Req → Bool
makes_more (MakeSocket kind options) = true
makes_more AskTerm = false
makes_more (Bind o at) = true
makes_more (Connect o at) = true
makes_more (Unbind o at) = false
makes_more (Disconnect o at) = false
makes_more (Close o) = false
makes_more (Accepted o) = true
makes_more (Shaken o peer) = true
makes_more (AskEnd e reason) = false
makes_more (AskOver o) = false
makes_more (OutputOver o) = false
