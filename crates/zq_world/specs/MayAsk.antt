-- What the lines of a script may ask (zmq_setsockopt(3), ZMQ_SNDHWM, ZMQ_RCVHWM and ZMQ_IDENTITY; zmq_inproc(7); the bound of the marks is our own choice).
use Rattle.std.specs.Prelude.{◌≢◌, ◌≤◌, ℕ, List, [], ◌∷◌, length}
use Rattle.std.specs.List.{AllByRecursion}
use Rattle.zq_base.specs.declared.endpoint.Endpoint.{Endpoint}
use Rattle.zq_base.specs.declared.endpoint.Endpoint.TheVariants.{Inproc, Tcp}
use Rattle.zq_base.specs.declared.options.Options.{Options}
use Rattle.spec_run.specs.declared.script.Call.TheVariants as call
use Rattle.spec_run.specs.declared.script.Call.{Call}
use Rattle.spec_run.specs.declared.script.Line.{Line}
use Rattle.spec_run.specs.Script.{Script}

-- what a peer may say as its identity: nothing, or 1 to 255 octets of which the first isn't 0
abbrev pub MayBeSaid : List ℕ → Type 0
MayBeSaid [] = Unit {0}
MayBeSaid (octet ∷ octets) = (octet ≢ 0) × (length octets ≤ 254)

-- the options that a socket may be made with: its marks are from 1 to 10000, and its identity is one that a peer may say
pub record MayMake (options : Options) : Type 0 where
  pub some_out : 1 ≤ options.hwm
  pub few_out : options.hwm ≤ 10000
  pub some_in : 1 ≤ options.rcvhwm
  pub few_in : options.rcvhwm ≤ 10000
  pub identity : MayBeSaid options.id

-- the endpoint is a name within the context
abbrev pub IsLocal : Endpoint → Type 0
IsLocal (Inproc name) = Unit {0}
IsLocal (Tcp address) = ⊥

-- a line may be asked: a socket is made with such options, and a bind or a connect is to such an endpoint
abbrev pub MayAskLine : Call → Type 0
MayAskLine (call.Socket kind options) = MayMake options
MayAskLine (call.Bind place at) = IsLocal at
MayAskLine (call.Connect place to) = IsLocal to
MayAskLine _ = Unit {0}

-- so may each of these lines
abbrev pub MayAskLines : List Line → Type 0
MayAskLines lines = AllByRecursion (λ line. MayAskLine line.call) lines

-- and each line of each actor
abbrev pub MayAskScript : Script → Type 0
MayAskScript script = AllByRecursion (λ actor. MayAskLines actor.lines) script
