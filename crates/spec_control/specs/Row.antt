-- The row of an object, and what it says is on its way between the object and its owner (own choice, after libzmq's `own_t`).
use Rattle.std.specs.Prelude.{ℕ, zero, suc, ℤ, pos, negsuc, Bool, true, false, not, ◌&&◌, List, [], ◌∷◌, Option, Some, None}
use Rattle.zq_base.specs.declared.options.Options.{Options}
use Rattle.zq_base.specs.declared.options.Role.TheVariants.{Null}
use Rattle.spec_control.specs.declared.object.ObjKind.{ObjKind}
use Rattle.spec_control.specs.declared.object.ObjKind.TheVariants.{Root, Socket, Listener, Session}
use Rattle.spec_control.specs.declared.stage.Stage.{Stage}
use Rattle.spec_control.specs.declared.stage.Stage.TheVariants.{Alive, Told, Ending, Finished, Cleared}
use Rattle.spec_control.specs.declared.stage.Use.{Use}
use Rattle.spec_control.specs.declared.stage.Use.TheVariants.{Unused, OnItsWay, Used}
use Rattle.spec_control.specs.Stage.{is_alive, is_told, has_ended, is_finished, is_cleared, is_unused, is_coming, is_used}

-- what is known of an object
pub record Row : Type 0 where
  -- the number of its owner, which the root alone has not
  pub owner : Option ℕ
  pub kind : ObjKind
  -- the number of its mailbox, which a worker's listeners and sessions share
  pub slot : ℕ
  -- a socket's, and those of its socket for a listener or a session
  pub options : Options
  -- the number of a session's pair, of which it has end b; an accepted session has end a
  pub pair : Option ℕ
  pub accepted : Bool
  pub stage : Stage
  -- its owner has processed its Own, or it needs none
  pub noted : Bool
  -- it has processed its Plug, or it needs none
  pub plugged : Bool
  -- the TermReq of a listener or session, the Reap of a socket
  pub request : Use
  -- a socket's Stop
  pub stop : Use
  -- a session asked its end with this reason by a request, or it may not
  pub asked_link : Bool
  pub asked_linger : Bool

abbrev pub is_socket : ObjKind → Bool
is_socket Root = false
is_socket (Socket kind) = true
is_socket Listener = false
is_socket Session = false

abbrev pub is_session : ObjKind → Bool
is_session Root = false
is_session (Socket kind) = false
is_session Listener = false
is_session Session = true

abbrev pub is_listener : ObjKind → Bool
is_listener Root = false
is_listener (Socket kind) = false
is_listener Listener = true
is_listener Session = false

-- the row of an object that has no owner
abbrev pub is_unowned : Option ℕ → Bool
is_unowned None = true
is_unowned (Some owner) = false

-- the linger of 0: what is left is given up at once (zmq_setsockopt(3), ZMQ_LINGER)
abbrev pub is_zero : ℤ → Bool
is_zero (pos zero) = true
is_zero (pos (suc n)) = false
is_zero (negsuc n) = false

-- when it is asked, its ends may read on to the delimiter: a session whose linger is not 0
abbrev pub reads_on : Row → Bool
reads_on o = is_session o.kind && not (is_zero o.options.linger)

-- options that nothing is made with
abbrev pub no_options : Options
no_options = record { hwm = 0; rcvhwm = 0; linger = pos 0; reconnect = 0; id = []; mandatory = false; verbose = false; role = Null; logins = [] }

-- the root of a context at its making
abbrev pub root_row : Row
root_row = record {
  owner = None;
  kind = Root;
  slot = 0;
  options = no_options;
  pair = None;
  accepted = false;
  stage = Alive;
  noted = true;
  plugged = true;
  request = Used;
  stop = Unused;
  asked_link = true;
  asked_linger = true;
}

-- what a number that no object has stands for: an object that ended long ago and that nobody owns
abbrev pub nobody : Row
nobody = record root_row { stage = Cleared }

-- a command to the owner of an object, about it
pub data Up : Type 0 where
  GivesOwn : Up
  -- TermReq, or a socket's Reap
  Requests : Up
  GivesAck : Up

-- a command to an object that its owner or its own worker's request put
pub data Down : Type 0 where
  GetsPlug : Down
  GetsStop : Down
  GetsTerm : Down

abbrev pub first_if : {X : Type 0} → Bool → X → List X → List X
first_if true x xs = x ∷ xs
first_if false x xs = xs

-- what is on its way about an object to its owner, oldest first
abbrev pub up_queue : Row → List Up
up_queue o = first_if (not o.noted) GivesOwn (first_if (is_coming o.request) Requests (first_if (is_finished o.stage && not (is_unowned o.owner)) GivesAck []))

-- what is on its way to the object, oldest first
abbrev pub down_queue : Row → List Down
down_queue o = first_if (not o.plugged) GetsPlug (first_if (is_coming o.stop) GetsStop (first_if (is_told o.stage) GetsTerm []))

-- what happens between an object and its owner
pub data LinkEvent : Type 0 where
  -- the owner processes its Own
  OwnComes : LinkEvent
  -- its worker processes its Plug
  PlugComes : LinkEvent
  -- its Term is put
  IsTold : LinkEvent
  -- it processes its Term
  TermComes : LinkEvent
  -- a listener or session asks to end, a socket is closed
  AsksOver : LinkEvent
  -- the owner processes its TermReq
  RequestComes : LinkEvent
  -- the root processes a socket's Reap, and puts its Term
  ReapComes : LinkEvent
  -- the owner processes its TermAck
  AckComes : LinkEvent
  -- the root is asked
  RootAsked : LinkEvent
  -- a socket's Stop is put
  StopPut : LinkEvent
  -- a socket processes its Stop
  StopComes : LinkEvent
  -- a session asks its end by a request: with reason `link`, with reason `linger`
  AsksForLink : LinkEvent
  AsksForLinger : LinkEvent

-- the event may happen to an object: commands come in their order
abbrev pub link_may : LinkEvent → Row → Bool
link_may OwnComes o = not o.noted
link_may PlugComes o = not o.plugged
link_may IsTold o = is_alive o.stage && not (is_socket o.kind)
link_may TermComes o = is_told o.stage && (o.plugged && not (is_coming o.stop))
link_may AsksOver o = is_unused o.request && not (has_ended o.stage)
link_may RequestComes o = is_coming o.request && (o.noted && not (is_socket o.kind))
link_may ReapComes o = is_coming o.request && (is_alive o.stage && is_socket o.kind)
link_may AckComes o = is_finished o.stage && (o.noted && not (is_coming o.request))
link_may RootAsked o = is_alive o.stage && (is_unowned o.owner && (o.plugged && not (is_coming o.stop)))
link_may StopPut o = is_unused o.stop && (is_unused o.request && (is_socket o.kind && is_alive o.stage))
link_may StopComes o = is_coming o.stop && o.plugged
link_may AsksForLink o = not o.asked_link && not (has_ended o.stage)
link_may AsksForLinger o = not o.asked_linger && not (has_ended o.stage)

-- the row then
abbrev pub link_after : LinkEvent → Row → Row
link_after OwnComes o = record o { noted = true }
link_after PlugComes o = record o { plugged = true }
link_after IsTold o = record o { stage = Told }
link_after TermComes o = record o { stage = Ending }
link_after AsksOver o = record o { request = OnItsWay }
link_after RequestComes o = record o { request = Used }
link_after ReapComes o = record o { request = Used; stage = Told }
link_after AckComes o = record o { stage = Cleared }
link_after RootAsked o = record o { stage = Ending }
link_after StopPut o = record o { stop = OnItsWay }
link_after StopComes o = record o { stop = Used }
link_after AsksForLink o = record o { asked_link = true }
link_after AsksForLinger o = record o { asked_linger = true }

-- a row that there may be, by its stage: who was asked has its Plug and its Stop behind it, and who is acknowledged has all behind it
abbrev pub stage_fits : Stage → (noted plugged : Bool) → (request stop : Use) → Bool
stage_fits Alive noted plugged request stop = true
stage_fits Told noted plugged request stop = true
stage_fits Ending noted plugged request stop = plugged && not (is_coming stop)
stage_fits Finished noted plugged request stop = plugged && not (is_coming stop)
stage_fits Cleared noted plugged request stop = plugged && (not (is_coming stop) && (noted && not (is_coming request)))

-- a socket is told by its Reap alone, and nobody else gets a Stop
abbrev pub socket_fits : (socket alive used unstopped : Bool) → Bool
socket_fits true true used unstopped = not used
socket_fits true false used unstopped = used
socket_fits false alive used unstopped = unstopped

-- the root owns the sockets, and sockets own the rest
abbrev pub owner_fits : ObjKind → Option ℕ → Bool
owner_fits Root None = true
owner_fits Root (Some owner) = false
owner_fits (Socket kind) None = false
owner_fits (Socket kind) (Some zero) = true
owner_fits (Socket kind) (Some (suc n)) = false
owner_fits Listener None = false
owner_fits Listener (Some zero) = false
owner_fits Listener (Some (suc n)) = true
owner_fits Session None = false
owner_fits Session (Some zero) = false
owner_fits Session (Some (suc n)) = true

-- who has no owner needs no Own, no Plug and no asking to end
abbrev pub root_fits : (unowned known : Bool) → Bool
root_fits true known = known
root_fits false known = true

-- a row that there may be
abbrev pub link_fits : Row → Bool
link_fits o = stage_fits o.stage o.noted o.plugged o.request o.stop
    && (socket_fits (is_socket o.kind) (is_alive o.stage) (is_used o.request) (is_unused o.stop)
    && (owner_fits o.kind o.owner && root_fits (is_unowned o.owner) (o.noted && (o.plugged && is_used o.request))))

-- nothing is on its way about the object to its owner, or will ever be
abbrev pub is_over : Row → Bool
is_over o = is_cleared o.stage && (o.noted && not (is_coming o.request))
