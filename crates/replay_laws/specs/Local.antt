-- Where nothing is asked over tcp, a context has sockets alone (own choice, after libzmq's `listener_t` and `session_base_t`, which tcp alone makes).
use Rattle.std.specs.Prelude.{◌≡◌, ℕ, Bool, true, false, List}
use Rattle.std.specs.List.{list_all}
use Rattle.zq_base.specs.declared.endpoint.Endpoint.{Endpoint}
use Rattle.zq_base.specs.declared.endpoint.Endpoint.TheVariants.{Inproc, Tcp}
use Rattle.spec_control.specs.declared.request.Req.{Req}
use Rattle.spec_control.specs.declared.request.Req.TheVariants.{Socket as MakeSocket, AskTerm, Bind, Connect, Unbind, Disconnect, Close, Accepted, Shaken, AskEnd, AskOver, OutputOver}
use Rattle.spec_control.specs.declared.entry.Did.{Did}
use Rattle.spec_control.specs.declared.entry.Did.TheVariants.{Asked, Delivered, Delimited}
use Rattle.spec_control.specs.declared.entry.Item.{Item}
use Rattle.spec_control.specs.declared.entry.Item.TheVariants.{Event, Seen}
use Rattle.spec_control.specs.Row.{is_session, is_listener}
use Rattle.spec_control.specs.Rows.{obj}
use Rattle.spec_control.specs.Control.{Control, begun}
use Rattle.spec_control.specs.ControlRun.{after_all, IsControlRun}

abbrev pub is_inproc : Endpoint → Bool
is_inproc (Inproc name) = true
is_inproc (Tcp address) = false

-- the request makes no listener and no session
abbrev pub is_local : Req → Bool
is_local (MakeSocket kind options) = true
is_local AskTerm = true
is_local (Bind o at) = is_inproc at
is_local (Connect o at) = is_inproc at
is_local (Unbind o at) = true
is_local (Disconnect o at) = true
is_local (Close o) = true
is_local (Accepted o) = false
is_local (Shaken o peer) = true
is_local (AskEnd e reason) = true
is_local (AskOver o) = true
is_local (OutputOver o) = true

abbrev pub is_local_did : {N S : Type 0} → Did N S → Bool
is_local_did (Asked req reply h) = is_local req
is_local_did (Delivered slot letter h) = true
is_local_did (Delimited e h) = true

abbrev pub is_local_item : {N S : Type 0} → Item N S → Bool
is_local_item (Event entry) = is_local_did entry.did
is_local_item (Seen sight) = true

-- no object is a listener or a session, and none has output left to write
pub record HasSocketsAlone (c : Control) : Type 0 where
  pub no_session : (i : ℕ) → is_session (obj c.rows i).kind ≡ false
  pub no_listener : (i : ℕ) → is_listener (obj c.rows i).kind ≡ false
  pub no_output : (i : ℕ) → c.output_left i ≡ false

abbrev pub LocalRunsHaveSocketsAlone : (N S : Type 0) → Type 0
LocalRunsHaveSocketsAlone N S = (workers : ℕ) (items : List (Item N S)) → IsControlRun (begun workers) items → list_all is_local_item items ≡ true →
    HasSocketsAlone (after_all items (begun workers))
