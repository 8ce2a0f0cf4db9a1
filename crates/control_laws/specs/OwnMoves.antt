-- Which moves a control event has of its own: a line for each request and each command (own choice, after libzmq's `command_t`).
use Rattle.std.specs.Prelude.{◌+◌, ℕ, Bool, true, false, not, cond, List, [], ◌∷◌, ◌++◌, Option, Some, None}
use Rattle.zq_base.specs.declared.endpoint.Endpoint.TheVariants.{Inproc, Tcp}
use Rattle.spec_control.specs.declared.book.Binding.{Binding}
use Rattle.spec_control.specs.declared.book.Waiting.{Waiting}
use Rattle.spec_control.specs.declared.end.EndEvent.TheVariants.{TermCame, DelimiterSeen, AckCame}
use Rattle.spec_control.specs.declared.end.Reason.{Reason}
use Rattle.spec_control.specs.declared.end.Reason.TheVariants.{Closed, BadId, Second, Linger, Link}
use Rattle.spec_control.specs.declared.letter.Word.{Word}
use Rattle.spec_control.specs.declared.letter.Word.TheVariants.{Own, Plug, TermReq, Term, TermAck, PipeBind, PipeTerm, PipeTermAck, Stop, Reap}
use Rattle.spec_control.specs.declared.request.Req.{Req}
use Rattle.spec_control.specs.declared.request.Req.TheVariants.{Socket as MakeSocket, AskTerm, Bind, Connect, Unbind, Disconnect, Close, Accepted, Shaken, AskEnd, AskOver, OutputOver}
use Rattle.spec_control.specs.declared.entry.Did.{Did}
use Rattle.spec_control.specs.declared.entry.Did.TheVariants.{Asked as DidAsk, Delivered, Delimited}
use Rattle.spec_control.specs.Register.{fulfilled_by}
use Rattle.spec_control.specs.PairPhase.{Opens, BindCame, Happens}
use Rattle.spec_control.specs.Row.{OwnComes, PlugComes, TermComes, AsksOver, RequestComes, ReapComes, AckComes, RootAsked, StopComes, AsksForLink, AsksForLinger}
use Rattle.spec_control.specs.Rows.{obj}
use Rattle.spec_control.specs.Control.{Control, id, end_of, owner_of, next_object, next_pair}
use Rattle.spec_control.specs.After.{owner_or_root, pair_or_none, binding_by, socket_row, listener_row, session_row, accepted_row, without_front}
use Rattle.spec_control.specs.ControlRun.{unless_refused}
use Rattle.control_laws.specs.Move.{Move, LinkMoves, EndMoves, ObjectMade, PairDrawn, LetterPut}

-- a pair between two sockets is drawn and made, and its other end's bind is put
abbrev pub join_moves : Control → (k connecting bound : ℕ) → (a_first : Bool) → List Move
join_moves c k connecting bound a_first =
    PairDrawn connecting bound
    ∷ EndMoves (end_of k a_first) Opens
    ∷ LetterPut (cond a_first bound connecting) (PipeBind (end_of k (not a_first)) (obj c.rows (cond a_first connecting bound)).options.id)
    ∷ []

-- those of a bind that fulfils these connects, with pairs from this number on
abbrev pub fulfil_moves : Control → (i k : ℕ) → List Waiting → List Move
fulfil_moves c i k [] = []
fulfil_moves c i k (w ∷ ws) = join_moves c k w.waiter.0 i false ++ fulfil_moves c i (k + 1) ws

-- those of a connect to a name that is held or not
abbrev pub connect_moves : Control → ℕ → Option Binding → List Move
connect_moves c i None = []
connect_moves c i (Some binding) = join_moves c (next_pair c) i binding.holder.0 true

-- those of a session's request for its end
abbrev pub reason_moves : Reason → ℕ → List Move
reason_moves Closed i = []
reason_moves BadId i = []
reason_moves Second i = []
reason_moves Linger i = LinkMoves i AsksForLinger ∷ []
reason_moves Link i = LinkMoves i AsksForLink ∷ []

-- the moves of a request, without those that follow
abbrev pub request_moves : Control → Req → List Move
request_moves c (MakeSocket kind options) = ObjectMade (socket_row kind options c) ∷ []
request_moves c AskTerm = LinkMoves 0 RootAsked ∷ []
request_moves c (Bind o (Inproc name)) = fulfil_moves c o.0 (next_pair c) (fulfilled_by (Inproc name) (binding_by o.0 c) c.names)
request_moves c (Bind o (Tcp address)) = ObjectMade (listener_row o.0 c) ∷ LetterPut o.0 (Own (id (next_object c))) ∷ LetterPut (next_object c) (Plug None) ∷ []
request_moves c (Connect o (Inproc name)) = connect_moves c o.0 (c.names.held (Inproc name))
request_moves c (Connect o (Tcp address)) =
    ObjectMade (session_row o.0 c)
    ∷ PairDrawn o.0 (next_object c)
    ∷ LetterPut o.0 (Own (id (next_object c)))
    ∷ EndMoves (end_of (next_pair c) true) Opens
    ∷ LetterPut (next_object c) (Plug (Some (end_of (next_pair c) false)))
    ∷ []
request_moves c (Unbind o at) = []
request_moves c (Disconnect o at) = []
request_moves c (Close o) = LinkMoves o.0 AsksOver ∷ []
request_moves c (Accepted o) =
    let socket : ℕ = owner_or_root (obj c.rows o.0).owner in
    ObjectMade (accepted_row o.0 c) ∷ PairDrawn (next_object c) socket ∷ LetterPut socket (Own (id (next_object c))) ∷ []
request_moves c (Shaken o peer) =
    let k : ℕ = pair_or_none (obj c.rows o.0).pair in
    EndMoves (end_of k true) Opens ∷ LetterPut (owner_of c (end_of k false)) (PipeBind (end_of k false) peer.identity) ∷ []
request_moves c (AskEnd e reason) = reason_moves reason (owner_of c e)
request_moves c (AskOver o) = LinkMoves o.0 AsksOver ∷ []
request_moves c (OutputOver o) = []

-- and those of a command that this object processes
abbrev pub word_moves : ℕ → Word → List Move
word_moves at (Own child) = LinkMoves child.0 OwnComes ∷ []
word_moves at (Plug None) = LinkMoves at PlugComes ∷ []
word_moves at (Plug (Some e)) = LinkMoves at PlugComes ∷ EndMoves e BindCame ∷ []
word_moves at (TermReq child) = LinkMoves child.0 RequestComes ∷ []
word_moves at Term = LinkMoves at TermComes ∷ []
word_moves at (TermAck child) = LinkMoves child.0 AckComes ∷ []
word_moves at (PipeBind e peer) = EndMoves e BindCame ∷ []
word_moves at (PipeTerm e) = EndMoves e (Happens TermCame) ∷ []
word_moves at (PipeTermAck e) = EndMoves e (Happens AckCame) ∷ []
word_moves at Stop = LinkMoves at StopComes ∷ []
word_moves at (Reap socket) = LinkMoves socket.0 ReapComes ∷ []

-- the moves that an event has of its own
abbrev pub own_moves : {N S : Type 0} → Control → Did N S → List Move
own_moves c (DidAsk req reply h) = unless_refused reply (request_moves c req)
own_moves c (Delivered slot letter h) = word_moves letter.to.0 letter.word
own_moves c (Delimited e h) = EndMoves e (Happens DelimiterSeen) ∷ []

-- the state once the event has taken its command from its mailbox
abbrev pub having_taken : {N S : Type 0} → Did N S → Control → Control
having_taken (DidAsk req reply h) c = c
having_taken (Delivered slot letter h) c = without_front slot.0 c
having_taken (Delimited e h) c = c
