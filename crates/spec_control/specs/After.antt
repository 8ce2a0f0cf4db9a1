-- What each control event does: the tables of the commands and of the requests, a line for each (own choice, after libzmq's `command_t`).
use Rattle.std.specs.Prelude.{◌+◌, ◌%◌, ◌==◌, ℕ, Bool, true, false, not, List, [], ◌∷◌, ◌++◌, Option, Some, None, if◌then◌else◌, length, filter, find}
use Rattle.zq_base.specs.declared.ids.Settled.{Settled}
use Rattle.zq_base.specs.declared.endpoint.Endpoint.{Endpoint}
use Rattle.zq_base.specs.declared.endpoint.Endpoint.TheVariants.{Inproc, Tcp}
use Rattle.zq_base.specs.declared.kind.Kind.{Kind}
use Rattle.zq_base.specs.declared.kind.Kind.TheVariants.{Pair}
use Rattle.zq_base.specs.declared.options.Options.{Options}
use Rattle.zq_base.specs.declared.options.Peer.{Peer}
use Rattle.zq_base.specs.declared.ids.EndId.{EndId}
use Rattle.spec_control.specs.declared.end.EndEvent.TheVariants.{TermCame, DelimiterSeen, AckCame}
use Rattle.spec_control.specs.declared.end.Reason.{Reason}
use Rattle.spec_control.specs.declared.end.Reason.TheVariants.{Closed, BadId, Second, Linger, Link}
use Rattle.spec_control.specs.declared.object.ObjKind.{ObjKind}
use Rattle.spec_control.specs.declared.object.ObjKind.TheVariants.{Root, Socket, Listener, Session}
use Rattle.spec_control.specs.declared.stage.Stage.TheVariants.{Alive}
use Rattle.spec_control.specs.declared.stage.Use.TheVariants.{Unused}
use Rattle.spec_control.specs.declared.letter.Word.{Word}
use Rattle.spec_control.specs.declared.letter.Word.TheVariants.{Own, Plug, TermReq, Term, TermAck, PipeBind, PipeTerm, PipeTermAck, Stop, Reap}
use Rattle.spec_control.specs.declared.request.Req.{Req}
use Rattle.spec_control.specs.declared.request.Req.TheVariants.{Socket as MakeSocket, AskTerm, Bind, Connect, Unbind, Disconnect, Close, Accepted, Shaken, AskEnd, AskOver, OutputOver}
use Rattle.spec_control.specs.declared.request.Reply.{Reply}
use Rattle.spec_control.specs.declared.request.Reply.TheVariants.{Done, Object, Pair as PairMade, Both, Wait, Asked, Before, Refused}
use Rattle.zq_base.specs.declared.attached.Attached.{Attached}
use Rattle.zq_base.specs.declared.attached.Attached.TheVariants.{Yes}
use Rattle.spec_control.specs.declared.entry.Joining.{Joining}
use Rattle.spec_control.specs.declared.entry.Answered.{Answered}
use Rattle.spec_control.specs.declared.entry.Did.{Did}
use Rattle.spec_control.specs.declared.entry.Did.TheVariants.{Asked as DidAsk, Delivered, Delimited}
use Rattle.spec_control.specs.declared.book.Binding.{Binding}
use Rattle.spec_control.specs.declared.book.Waiting.{Waiting}
use Rattle.spec_control.specs.EndpointBook.{is_fulfilled, is_connect_of, without_first}
use Rattle.spec_control.specs.Register.{fulfilled_by, with_holder, without_holder, waiting_now, without_names_of}
use Rattle.spec_control.specs.Hold.{Hold, Bound, Waits, Joined, is_bind_to, is_connect_to, fulfil}
use Rattle.spec_control.specs.Place.{is_away}
use Rattle.spec_control.specs.PairPhase.{BindCame, behind_first}
use Rattle.spec_control.specs.Row.{Row, OwnComes, PlugComes, TermComes, AsksOver, RequestComes, ReapComes, AckComes, RootAsked, StopComes, AsksForLink, AsksForLinger, reads_on}
use Rattle.spec_control.specs.Rows.{obj, is_owner}
use Rattle.spec_control.specs.Control.{Control, with_value, with_end, is_end, id, end_of, place_of, owner_of, next_object, next_pair, put, link, makes, draws, tell_where, tell_children, stop_sockets, happens, ask, ask_all, attach, open_pair, greet, ends_of, try_end}
use Rattle.spec_control.specs.Stage.{was_asked}

-- what an event's holder answered, as far as the state goes by it
pub record Answers : Type 0 where
  -- what the kind answers to an end that joins
  pub kind : EndId → Attached
  -- the counts of the pipe that was settled
  pub counts : Option Settled
  -- whether the session that tried to end has output left
  pub left : Bool

-- what the kind answered to an end
abbrev pub kind_answer : {N : Type 0} → List (Joining N) → EndId → Attached
kind_answer [] e = Yes
kind_answer (j ∷ js) e = if is_end e j.end then j.answer else kind_answer js e

abbrev pub answers_in : {N S : Type 0} → Answered N S → Answers
answers_in h = record { kind = kind_answer h.joined; counts = h.settled; left = h.output_left }

-- a pipe was settled
abbrev pub settle : EndId → Option Settled → Control → Control
settle e None c = c
settle e (Some counts) c = record c { settlements = c.settlements ++ record { end = e; counts = counts; reason = c.reasons e } ∷ [] }

-- the reason for which the Term of an object asks its ends, and whether they may read on to the delimiter
abbrev pub term_reason : ObjKind → Reason
term_reason Root = Closed
term_reason (Socket kind) = Closed
term_reason Listener = Closed
term_reason Session = Linger

-- whether the ends that it asks then read on
abbrev pub term_delay : Row → Bool
term_delay o = reads_on o

-- its names and waiting connects leave the book
abbrev pub without_names : ℕ → Control → Control
without_names i c = record c { names = without_names_of (id i) c.names }

-- an object processes a command
abbrev pub processed : (at : ℕ) → Word → Answers → Control → Control
processed at (Own child) h c = tell_where (was_asked (obj c.rows at).stage) child.0 (link OwnComes child.0 c)
processed at (Plug None) h c = link PlugComes at c
processed at (Plug (Some e)) h c = greet (h.kind e) e (attach BindCame e (link PlugComes at c))
processed at (TermReq child) h c = tell_where (not (was_asked (obj c.rows at).stage)) child.0 (link RequestComes child.0 c)
processed at Term h c =
    let asked : Control = without_names at (link TermComes at c) in
    let ends_asked : Control = ask_all (term_reason (obj c.rows at).kind) (term_delay (obj c.rows at)) (ends_of at asked) asked in
    try_end at h.left (tell_children (length ends_asked.rows.objects) at ends_asked)
processed at (TermAck child) h c = try_end at h.left (link AckComes child.0 c)
processed at (PipeBind e peer) h c = greet (h.kind e) e (attach BindCame e c)
processed at (PipeTerm e) h c = happens TermCame e c
processed at (PipeTermAck e) h c = try_end at h.left (settle e h.counts (happens AckCame e c))
processed at Stop h c = link StopComes at c
processed at (Reap socket) h c = put socket.0 Term (link ReapComes socket.0 c)

-- the oldest letter of a mailbox is taken out
abbrev pub without_front : ℕ → Control → Control
without_front slot c = record c { boxes = with_value slot (behind_first (c.boxes slot)) c.boxes }

-- the mailbox of the I/O worker that gets the object of this number
abbrev pub worker_slot : Control → ℕ → ℕ
worker_slot c n = 1 + n % c.workers

-- the row of a new socket, listener, connecting session and accepted session
abbrev pub socket_row : Kind → Options → Control → Row
socket_row kind options c = record {
  owner = Some 0;
  kind = Socket kind;
  slot = c.slots;
  options = options;
  pair = None;
  accepted = false;
  stage = Alive;
  noted = true;
  plugged = true;
  request = Unused;
  stop = Unused;
  asked_link = true;
  asked_linger = true;
}

abbrev pub listener_row : ℕ → Control → Row
listener_row owner c = record {
  owner = Some owner;
  kind = Listener;
  slot = worker_slot c (next_object c);
  options = (obj c.rows owner).options;
  pair = None;
  accepted = false;
  stage = Alive;
  noted = false;
  plugged = false;
  request = Unused;
  stop = Unused;
  asked_link = true;
  asked_linger = true;
}

abbrev pub session_row : ℕ → Control → Row
session_row owner c = record {
  owner = Some owner;
  kind = Session;
  slot = worker_slot c (next_object c);
  options = (obj c.rows owner).options;
  pair = Some (next_pair c);
  accepted = false;
  stage = Alive;
  noted = false;
  plugged = false;
  request = Unused;
  stop = Unused;
  asked_link = true;
  asked_linger = false;
}

-- the owner of an object that is no root
abbrev pub owner_or_root : Option ℕ → ℕ
owner_or_root None = 0
owner_or_root (Some owner) = owner

abbrev pub accepted_row : ℕ → Control → Row
accepted_row listener c = record {
  owner = Some (owner_or_root (obj c.rows listener).owner);
  kind = Session;
  slot = (obj c.rows listener).slot;
  options = (obj c.rows listener).options;
  pair = Some (next_pair c);
  accepted = true;
  stage = Alive;
  noted = false;
  plugged = true;
  request = Unused;
  stop = Unused;
  asked_link = false;
  asked_linger = false;
}

-- a socket holds a bind or a connect more
abbrev pub with_hold : ℕ → Hold → Control → Control
with_hold i hold c = record c { holds = with_value i (c.holds i ++ hold ∷ []) c.holds }

-- a socket holds the name
abbrev pub named : ℕ → Endpoint → Binding → Control → Control
named i at binding c = record c { names = with_holder at binding c.names }

-- a pair between two sockets is made: end a is the connecting one's
abbrev pub joins : (connecting bound : ℕ) → (a_first : Bool) → Answers → Control → Control
joins connecting bound a_first h c =
    let first : EndId = end_of (next_pair c) a_first in
    let last : EndId = end_of (next_pair c) (not a_first) in
    let drawn : Control = draws connecting bound c in
    greet (h.kind first) first (open_pair first (PipeBind last (obj c.rows (owner_of drawn first)).options.id) drawn)

-- a bind fulfils these waiting connects, in this order
abbrev pub fulfil_all : ℕ → Endpoint → List Waiting → Answers → Control → Control
fulfil_all i at [] h c = c
fulfil_all i at (w ∷ ws) h c =
    let joined : Control = joins w.waiter.0 i false h c in
    fulfil_all i at ws h (record joined { holds = with_value w.waiter.0 (fulfil at (next_pair c) (joined.holds w.waiter.0)) joined.holds })

-- the kind of a socket, and what a socket is to the book
abbrev pub kind_of : ObjKind → Kind
kind_of Root = Pair
kind_of (Socket kind) = kind
kind_of Listener = Pair
kind_of Session = Pair

abbrev pub binding_by : ℕ → Control → Binding
binding_by i c = record { holder = id i; kind = kind_of (obj c.rows i).kind }

-- a bind that is done
abbrev pub binds : ℕ → Endpoint → Answers → Control → Control
binds i (Inproc name) h c =
    let at : Endpoint = Inproc name in
    let binding : Binding = binding_by i c in
    let held : Control = with_hold i (Bound at None) (named i at binding c) in
    fulfil_all i at (fulfilled_by at binding c.names) h
    (record held { names = waiting_now (filter (λ w. not (is_fulfilled at binding w)) held.names.waiting) held.names })
binds i (Tcp address) h c =
    let at : Endpoint = Tcp address in
    let child : ℕ = next_object c in
    put child (Plug None) (put i (Own (id child)) (makes (listener_row i c) (with_hold i (Bound at (Some child)) (named i at (binding_by i c) c))))

-- a connect to a name: to its holder, or it waits
abbrev pub connects_to : ℕ → Endpoint → Option Binding → Answers → Control → Control
connects_to i at None h c =
    with_hold i (Waits at)
    (record c { names = waiting_now (c.names.waiting ++ record { at = at; waiter = id i; kind = kind_of (obj c.rows i).kind } ∷ []) c.names })
connects_to i at (Some binding) h c = joins i binding.holder.0 true h (with_hold i (Joined at (next_pair c) None) c)

-- a connect that is done
abbrev pub connects : ℕ → Endpoint → Answers → Control → Control
connects i (Inproc name) h c = connects_to i (Inproc name) (c.names.held (Inproc name)) h c
connects i (Tcp address) h c =
    let child : ℕ = next_object c in
    let mine : EndId = end_of (next_pair c) true in
    let made : Control = draws i child (makes (session_row i c) (with_hold i (Joined (Tcp address) (next_pair c) (Some child)) c)) in
    greet (h.kind mine) mine (open_pair mine (Plug (Some (end_of (next_pair c) false))) (put i (Own (id child)) made))

-- a hold that is struck: the socket's listener or session is told, and its end is asked, at once or when it is attached
abbrev pub tell_struck : ℕ → Option ℕ → Control → Control
tell_struck i None c = c
tell_struck i (Some child) c = tell_where (is_owner i (obj c.rows child).owner) child c

abbrev pub strike_end : ℕ → EndId → Control → Control
strike_end i e c =
    if is_away (place_of c e) then record c { struck = with_end e true c.struck } else (if owner_of c e == i then ask Closed false e c else c)

abbrev pub strikes : ℕ → Endpoint → Option Hold → Control → Control
strikes i to None c = c
strikes i to (Some (Bound at listener)) c = tell_struck i listener (record c { names = without_holder to c.names })
strikes i to (Some (Waits at)) c = record c { names = waiting_now (without_first (is_connect_of (id i) to) c.names.waiting) c.names }
strikes i to (Some (Joined at k session)) c = tell_struck i session (strike_end i (end_of k true) c)

-- the first hold that passes the test is struck
abbrev pub strikes_first : ℕ → Endpoint → (Hold → Bool) → Control → Control
strikes_first i to test c = strikes i to (find test (c.holds i)) (record c { holds = with_value i (without_first test (c.holds i)) c.holds })

-- an accepted session is made, and its pair's number drawn
abbrev pub accepts : ℕ → Control → Control
accepts listener c =
    let child : ℕ = next_object c in
    let socket : ℕ = owner_or_root (obj c.rows listener).owner in
    put socket (Own (id child)) (draws child socket (makes (accepted_row listener c) c))

-- the number of a session's pair
abbrev pub pair_or_none : Option ℕ → ℕ
pair_or_none None = 0
pair_or_none (Some k) = k

-- the pair of an accepted session is made
abbrev pub shakes : ℕ → Peer → Answers → Control → Control
shakes i peer h c =
    let mine : EndId = end_of (pair_or_none (obj c.rows i).pair) true in
    greet (h.kind mine) mine (open_pair mine (PipeBind (end_of mine.pair.0 false) peer.identity) c)

-- a session's request for its end with this reason is used up
abbrev pub uses_reason : Reason → ℕ → Control → Control
uses_reason Closed i c = c
uses_reason BadId i c = c
uses_reason Second i c = c
uses_reason Linger i c = link AsksForLinger i c
uses_reason Link i c = link AsksForLink i c

-- a request that was not refused
abbrev pub requested : Req → Answers → Control → Control
requested (MakeSocket kind options) h c = makes (socket_row kind options c) c
requested AskTerm h c = try_end 0 h.left (stop_sockets (length c.rows.objects) (link RootAsked 0 c))
requested (Bind o at) h c = binds o.0 at h c
requested (Connect o at) h c = connects o.0 at h c
requested (Unbind o at) h c = strikes_first o.0 at (is_bind_to at) c
requested (Disconnect o at) h c = strikes_first o.0 at (is_connect_to at) c
requested (Close o) h c = put 0 (Reap o) (link AsksOver o.0 (record c { closed = c.closed ++ o ∷ [] }))
requested (Accepted o) h c = accepts o.0 c
requested (Shaken o peer) h c = shakes o.0 peer h c
requested (AskEnd e reason) h c = ask reason false e (uses_reason reason (owner_of c e) c)
requested (AskOver o) h c = put (owner_or_root (obj c.rows o.0).owner) (TermReq o) (link AsksOver o.0 c)
requested (OutputOver o) h c = try_end o.0 h.left c

-- a request, by its answer
abbrev pub answered : Req → Reply → Answers → Control → Control
answered req Done h c = requested req h c
answered req (Object o) h c = requested req h c
answered req (PairMade p) h c = requested req h c
answered req (Both o p) h c = requested req h c
answered req Wait h c = requested req h c
answered req Asked h c = requested req h c
answered req Before h c = c
answered req (Refused refusal) h c = c

-- the control plane after an event
abbrev pub after : {N S : Type 0} → Did N S → Control → Control
after (DidAsk req reply h) c = answered req reply (answers_in h) c
after (Delivered slot letter h) c = processed letter.to.0 letter.word (answers_in h) (without_front slot.0 c)
after (Delimited e h) c = happens DelimiterSeen e c
