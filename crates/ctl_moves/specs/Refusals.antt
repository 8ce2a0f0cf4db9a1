-- Why a request is refused, if it is (own choice).
use Rattle.std.specs.Prelude.{ℕ, Bool, Option, Some, None, length}
use Rattle.zq_base.specs.declared.endpoint.Endpoint.{Endpoint}
use Rattle.zq_base.specs.declared.endpoint.Endpoint.TheVariants.{Inproc, Tcp}
use Rattle.spec_control.specs.declared.request.Refusal.{Refusal}
use Rattle.spec_control.specs.declared.request.Reply.{Reply}
use Rattle.spec_control.specs.declared.request.Reply.TheVariants.{Done, Object, Pair, Both, Wait, Asked, Before, Refused}
use Rattle.spec_control.specs.Register.{fulfilled_by}
use Rattle.spec_control.specs.Control.{Control}
use Rattle.spec_control.specs.After.{binding_by}
use Rattle.spec_control.specs.Reply.{has_object, has_pairs}

-- the refusal that an answer is, if it is one
abbrev pub refusal_in : Reply → Option Refusal
refusal_in Done = None
refusal_in (Object o) = None
refusal_in (Pair p) = None
refusal_in (Both o p) = None
refusal_in Wait = None
refusal_in Asked = None
refusal_in Before = None
refusal_in (Refused refusal) = Some refusal

-- there may be what a bind makes: over inproc a pair for each connect that it fulfils, over tcp its listener
abbrev pub takes_bind : ℕ → Endpoint → Control → Bool
takes_bind i (Inproc name) c = has_pairs (length (fulfilled_by (Inproc name) (binding_by i c) c.names)) c
takes_bind i (Tcp address) c = has_object c
