-- What the control plane answers to a request (zmq_socket(3), zmq_bind(3), zmq_connect(3), zmq_unbind(3), zmq_disconnect(3), zmq_ctx_term(3); the limits are our own choice).
use Rattle.std.specs.Prelude.{◌+◌, ◌&&◌, ◌||◌, ℕ, Bool, true, false, not, Option, Some, None, if◌then◌else◌, length, count_by, is_some, find, nat_lt}
use Rattle.zq_base.specs.declared.endpoint.Endpoint.{Endpoint}
use Rattle.zq_base.specs.declared.endpoint.Endpoint.TheVariants.{Inproc, Tcp}
use Rattle.spec_control.specs.declared.object.ObjState.{ObjState}
use Rattle.spec_control.specs.declared.object.ObjState.TheVariants.{Live, Asked as WasAsked, Ended}
use Rattle.spec_control.specs.declared.stage.Stage.{Stage}
use Rattle.spec_control.specs.declared.stage.Stage.TheVariants.{Alive, Told, Ending, Finished, Cleared}
use Rattle.spec_control.specs.declared.request.Req.{Req}
use Rattle.spec_control.specs.declared.request.Req.TheVariants.{Socket as MakeSocket, AskTerm, Bind, Connect, Unbind, Disconnect, Close, Accepted, Shaken, AskEnd, AskOver, OutputOver}
use Rattle.spec_control.specs.declared.request.Refusal.{Refusal}
use Rattle.spec_control.specs.declared.request.Refusal.TheVariants.{Term, InUse, NotBound, BadPair, TooMany}
use Rattle.spec_control.specs.declared.request.Reply.{Reply}
use Rattle.spec_control.specs.declared.request.Reply.TheVariants.{Done, Object, Pair, Both, Wait, Asked, Before, Refused}
use Rattle.spec_control.specs.declared.book.Binding.{Binding}
use Rattle.zq_base.specs.Kind.{fits}
use Rattle.spec_control.specs.EndpointBook.{is_object}
use Rattle.spec_control.specs.Register.{fulfilled_by}
use Rattle.spec_control.specs.Hold.{Hold, is_bind_to, is_connect_to}
use Rattle.spec_control.specs.Row.{Row, is_socket}
use Rattle.spec_control.specs.Rows.{obj}
use Rattle.spec_control.specs.Control.{Control, id, next_object, next_pair}
use Rattle.spec_control.specs.After.{binding_by, kind_of}
use Rattle.spec_control.specs.Stage.{is_alive, has_ended}

-- how many sockets may live at once, and how many objects and pairs are ever made
abbrev pub most_living_sockets : ℕ
most_living_sockets = 1023

abbrev pub most_objects : ℕ
most_objects = 1000000

abbrev pub most_made_pairs : ℕ
most_made_pairs = 1000000

-- how far an object is, as its owner tree has it
abbrev pub state_of : Stage → ObjState
state_of Alive = Live
state_of Told = Live
state_of Ending = WasAsked
state_of Finished = Ended
state_of Cleared = Ended

-- the root's state, and how many objects have not ended
abbrev pub root_state : Control → ObjState
root_state c = state_of (obj c.rows 0).stage

abbrev pub live_count : Control → ℕ
live_count c = count_by (λ o. not (has_ended o.stage)) c.rows.objects

-- the root was asked
abbrev pub root_asked : Control → Bool
root_asked c = not (is_alive (obj c.rows 0).stage)

-- how many sockets live
abbrev pub is_living_socket : Row → Bool
is_living_socket o = is_socket o.kind && not (has_ended o.stage)

abbrev pub living_sockets : Control → ℕ
living_sockets c = count_by is_living_socket c.rows.objects

-- one more object, and so many more pairs, may be made
abbrev pub has_object : Control → Bool
has_object c = nat_lt (next_object c) most_objects

abbrev pub has_pairs : ℕ → Control → Bool
has_pairs n c = nat_lt (next_pair c + n) (most_made_pairs + 2)

-- one more session could be accepted
abbrev pub has_room : Control → Bool
has_room c = has_object c && has_pairs 1 c

-- the answer where a test holds, or this refusal
abbrev pub unless : Bool → Refusal → Reply → Reply
unless true refusal reply = Refused refusal
unless false refusal reply = reply

-- a socket's request but close, once the root was asked
abbrev pub before_term : Control → Reply → Reply
before_term c reply = unless (root_asked c) Term reply

abbrev pub bind_reply : ℕ → Endpoint → Control → Reply
bind_reply i (Inproc name) c =
    unless (is_some (c.names.held (Inproc name))) InUse
    (unless (not (has_pairs (length (fulfilled_by (Inproc name) (binding_by i c) c.names)) c)) TooMany Done)
bind_reply i (Tcp address) c =
    unless (is_some (c.names.held (Tcp address))) InUse
    (unless (not (has_object c)) TooMany (Object (id (next_object c))))

-- a connect to a name that is held or not
abbrev pub connect_reply_at : ℕ → Option Binding → Control → Reply
connect_reply_at i None c = Wait
connect_reply_at i (Some binding) c =
    unless (is_object binding.holder (id i) || not (fits binding.kind (kind_of (obj c.rows i).kind))) BadPair
    (unless (not (has_pairs 1 c)) TooMany (Pair (record { 0 = next_pair c })))

abbrev pub connect_reply : ℕ → Endpoint → Control → Reply
connect_reply i (Inproc name) c = connect_reply_at i (c.names.held (Inproc name)) c
connect_reply i (Tcp address) c = unless (not (has_room c)) TooMany (Both (id (next_object c)) (record { 0 = next_pair c }))

-- a strike of the first hold that passes the test
abbrev pub strike_reply : ℕ → (Hold → Bool) → Control → Reply
strike_reply i test c = unless (not (is_some (find test (c.holds i)))) NotBound Done

-- the answer of each request
abbrev pub reply_of : Control → Req → Reply
reply_of c (MakeSocket kind options) =
    before_term c (unless (not (nat_lt (living_sockets c) most_living_sockets) || not (has_object c)) TooMany (Object (id (next_object c))))
reply_of c AskTerm = if root_asked c then Before else Asked
reply_of c (Bind o at) = before_term c (bind_reply o.0 at c)
reply_of c (Connect o at) = before_term c (connect_reply o.0 at c)
reply_of c (Unbind o at) = before_term c (strike_reply o.0 (is_bind_to at) c)
reply_of c (Disconnect o at) = before_term c (strike_reply o.0 (is_connect_to at) c)
reply_of c (Close o) = Done
reply_of c (Accepted o) = unless (not (has_room c)) TooMany (Both (id (next_object c)) (record { 0 = next_pair c }))
reply_of c (Shaken o peer) = Done
reply_of c (AskEnd e reason) = Done
reply_of c (AskOver o) = Done
reply_of c (OutputOver o) = Done
