-- A control run: events that fit the state that those before them left, in any order of deliveries (own choice, after libzmq's `ctx_t`).
use Rattle.std.specs.Prelude.{◌≡◌, ◌≢◌, ◌+◌, ◌==◌, ◌&&◌, ℕ, Bool, true, false, List, [], ◌∷◌, ◌++◌, Option, Some, None, All, map, filter}
use Rattle.std.specs.List.{list_any}
use Rattle.zq_base.specs.declared.ids.Settled.{Settled}
use Rattle.zq_base.specs.declared.kind.Kind.TheVariants.{Router, Pair as IsPair}
use Rattle.zq_base.specs.declared.endpoint.Endpoint.TheVariants.{Inproc, Tcp}
use Rattle.zq_base.specs.declared.ids.EndId.{EndId}
use Rattle.spec_control.specs.declared.end.Reason.{Reason}
use Rattle.spec_control.specs.declared.end.Reason.TheVariants.{Closed, BadId, Second, Linger, Link}
use Rattle.spec_control.specs.declared.object.ObjKind.TheVariants.{Socket}
use Rattle.spec_control.specs.declared.stage.Use.TheVariants.{Unused, Used}
use Rattle.spec_control.specs.declared.letter.Letter.{Letter}
use Rattle.spec_control.specs.declared.letter.Word.{Word}
use Rattle.spec_control.specs.declared.letter.Word.TheVariants.{Own, Plug, TermReq, Term, TermAck, PipeBind, PipeTerm, PipeTermAck, Stop, Reap}
use Rattle.spec_control.specs.declared.request.Req.{Req}
use Rattle.spec_control.specs.declared.request.Req.TheVariants.{Socket as MakeSocket, AskTerm, Bind, Connect, Unbind, Disconnect, Close, Accepted, Shaken, AskEnd, AskOver, OutputOver}
use Rattle.spec_control.specs.declared.request.Reply.{Reply}
use Rattle.spec_control.specs.declared.request.Reply.TheVariants.{Done, Object, Pair, Both, Wait, Asked, Before, Refused}
use Rattle.zq_base.specs.declared.attached.Attached.{Attached}
use Rattle.zq_base.specs.declared.attached.Attached.TheVariants.{Yes, BadId as IsBadId, Second as IsSecond}
use Rattle.spec_control.specs.declared.entry.Joining.{Joining}
use Rattle.spec_control.specs.declared.entry.Answered.{Answered}
use Rattle.spec_control.specs.declared.entry.Did.{Did}
use Rattle.spec_control.specs.declared.entry.Did.TheVariants.{Asked as DidAsk, Delivered, Delimited}
use Rattle.spec_control.specs.declared.entry.SeenEmpty.{SeenEmpty}
use Rattle.spec_control.specs.declared.entry.SeenEmpty.TheVariants.{Nothing, Mailbox, Reapers}
use Rattle.spec_control.specs.declared.entry.Sight.{Sight}
use Rattle.spec_control.specs.declared.entry.Item.{Item}
use Rattle.spec_control.specs.declared.entry.Item.TheVariants.{Event, Seen}
use Rattle.spec_control.specs.declared.book.Binding.{Binding}
use Rattle.spec_control.specs.declared.book.Waiting.{Waiting}
use Rattle.spec_control.specs.Register.{fulfilled_by}
use Rattle.spec_control.specs.Place.{Unmade, is_here, looks}
use Rattle.spec_control.specs.Row.{Row, is_socket, is_session, is_listener}
use Rattle.spec_control.specs.Rows.{obj, may_end}
use Rattle.spec_control.specs.Control.{Control, end_of, place_of, owner_of, next_pair, ends_of, met_in}
use Rattle.spec_control.specs.After.{after, binding_by, pair_or_none}
use Rattle.spec_control.specs.Reply.{reply_of, root_state, live_count, has_room}
use Rattle.spec_control.specs.Stage.{has_ended, was_asked, is_coming}

-- a socket that lives and was not closed
pub record IsOpenSocket (o : Row) : Type 0 where
  pub socket : is_socket o.kind ≡ true
  pub open_still : o.request ≡ Unused
  pub lives : has_ended o.stage ≡ false

-- an object that its worker has and that has not ended
pub record IsTakenIn (o : Row) : Type 0 where
  pub plugged : o.plugged ≡ true
  pub lives : has_ended o.stage ≡ false

-- an accepted session whose pair is not made yet and whose Term was not processed
pub record MayShake (c : Control) (i : ℕ) : Type 0 where
  pub session : is_session (obj c.rows i).kind ≡ true
  pub accepted : (obj c.rows i).accepted ≡ true
  pub taken_in : IsTakenIn (obj c.rows i)
  pub unasked : was_asked (obj c.rows i).stage ≡ false
  pub unmade : place_of c (end_of (pair_or_none (obj c.rows i).pair) true) ≡ Unmade

-- a session may ask its end with a reason once: with `link` where it was accepted, with `linger` once its Term was processed
abbrev pub MayGive : Reason → Row → Type 0
MayGive Closed o = ⊥
MayGive BadId o = ⊥
MayGive Second o = ⊥
MayGive Linger o = (was_asked o.stage ≡ true) × (o.asked_linger ≡ false)
MayGive Link o = (o.accepted ≡ true) × (o.asked_link ≡ false)

-- an end that is there, of a session that its worker has
pub record MayAskEnd (c : Control) (e : EndId) (reason : Reason) : Type 0 where
  pub session : is_session (obj c.rows (owner_of c e)).kind ≡ true
  pub taken_in : IsTakenIn (obj c.rows (owner_of c e))
  pub there : is_here (place_of c e) ≡ true
  pub gives : MayGive reason (obj c.rows (owner_of c e))

-- a listener or session that did not ask to end before
pub record MayAskOver (o : Row) : Type 0 where
  pub no_socket : is_socket o.kind ≡ false
  pub taken_in : IsTakenIn o
  pub first_time : o.request ≡ Unused

-- a session that was asked and waits for its output alone
pub record MayBeOver (c : Control) (i : ℕ) : Type 0 where
  pub session : is_session (obj c.rows i).kind ≡ true
  pub may : may_end c.rows i ≡ true

-- who may make which request: the context, an open socket, a listener or session that its worker has
abbrev pub MayAsk : Control → Req → Type 0
MayAsk c (MakeSocket kind options) = Unit {0}
MayAsk c AskTerm = Unit {0}
MayAsk c (Bind o at) = IsOpenSocket (obj c.rows o.0)
MayAsk c (Connect o at) = IsOpenSocket (obj c.rows o.0)
MayAsk c (Unbind o at) = IsOpenSocket (obj c.rows o.0)
MayAsk c (Disconnect o at) = IsOpenSocket (obj c.rows o.0)
MayAsk c (Close o) = IsOpenSocket (obj c.rows o.0)
MayAsk c (Accepted o) = (is_listener (obj c.rows o.0).kind ≡ true) × IsTakenIn (obj c.rows o.0)
MayAsk c (Shaken o peer) = MayShake c o.0
MayAsk c (AskEnd e reason) = MayAskEnd c e reason
MayAsk c (AskOver o) = MayAskOver (obj c.rows o.0)
MayAsk c (OutputOver o) = MayBeOver c o.0

-- an end that joins its owner in an event, its peer's identity, and whether it had met its delimiter before
pub record Joins : Type 0 where
  pub end : EndId
  pub peer : List ℕ
  pub met : Bool

-- an end that joins by its attachment, which has met nothing yet
abbrev pub attaches : EndId → List ℕ → Joins
attaches e peer = record { end = e; peer = peer; met = false }

-- the identity of a socket
abbrev pub identity_of : Control → ℕ → List ℕ
identity_of c i = (obj c.rows i).options.id

-- the ends of the bind's own for these waiting connects, from this pair on
abbrev pub bind_joins : Control → ℕ → List Waiting → List Joins
bind_joins c k [] = []
bind_joins c k (w ∷ ws) = attaches (end_of k false) (identity_of c w.waiter.0) ∷ bind_joins c (k + 1) ws

abbrev pub connect_joins : Control → Option Binding → List Joins
connect_joins c None = []
connect_joins c (Some binding) = attaches (end_of (next_pair c) true) (identity_of c binding.holder.0) ∷ []

-- the ends that join in a request that is not refused; a session's link tells its peer's identity later, if ever
abbrev pub request_joins : Control → Req → List Joins
request_joins c (Bind o (Inproc name)) = bind_joins c (next_pair c) (fulfilled_by (Inproc name) (binding_by o.0 c) c.names)
request_joins c (Bind o (Tcp address)) = []
request_joins c (Connect o (Inproc name)) = connect_joins c (c.names.held (Inproc name))
request_joins c (Connect o (Tcp address)) = attaches (end_of (next_pair c) true) [] ∷ []
request_joins c (Shaken o peer) = attaches (end_of (pair_or_none (obj c.rows o.0).pair) true) [] ∷ []
request_joins c (MakeSocket kind options) = []
request_joins c AskTerm = []
request_joins c (Unbind o at) = []
request_joins c (Disconnect o at) = []
request_joins c (Close o) = []
request_joins c (Accepted o) = []
request_joins c (AskEnd e reason) = []
request_joins c (AskOver o) = []
request_joins c (OutputOver o) = []

-- an end that the reaper takes over: it may have met its delimiter while its socket was open
abbrev pub taken_over : Control → EndId → Joins
taken_over c e = record { end = e; peer = []; met = met_in (place_of c e) (c.reasons e) }

-- the ends that the reaper takes over with a closed socket: all that are there, as the close gave them
abbrev pub reap_joins : Control → ℕ → List Joins
reap_joins c i = map (λ e. taken_over c e) (filter (λ e. is_here (place_of c e)) (ends_of i c))

abbrev pub word_joins : Control → Word → List Joins
word_joins c (Own child) = []
word_joins c (Plug None) = []
word_joins c (Plug (Some e)) = attaches e [] ∷ []
word_joins c (TermReq child) = []
word_joins c Term = []
word_joins c (TermAck child) = []
word_joins c (PipeBind e peer) = attaches e peer ∷ []
word_joins c (PipeTerm e) = []
word_joins c (PipeTermAck e) = []
word_joins c Stop = []
word_joins c (Reap socket) = reap_joins c socket.0

-- nothing where a request was refused
abbrev pub unless_refused : {X : Type 0} → Reply → List X → List X
unless_refused Done xs = xs
unless_refused (Object o) xs = xs
unless_refused (Pair p) xs = xs
unless_refused (Both o p) xs = xs
unless_refused Wait xs = xs
unless_refused Asked xs = xs
unless_refused Before xs = []
unless_refused (Refused refusal) xs = []

-- the ends that join in an event, or that the reaper takes over, in order
abbrev pub joins_in : {N S : Type 0} → Control → Did N S → List Joins
joins_in c (DidAsk req reply h) = unless_refused reply (request_joins c req)
joins_in c (Delivered slot letter h) = word_joins c letter.word
joins_in c (Delimited e h) = []

-- both pipes of a pair, by the ends that write them
abbrev pub pipes_of : EndId → List EndId
pipes_of e = end_of e.pair.0 true ∷ end_of e.pair.0 false ∷ []

abbrev pub all_pipes : List Joins → List EndId
all_pipes [] = []
all_pipes (j ∷ js) = pipes_of j.end ++ all_pipes js

-- the pipes that are made in an event: those of the pairs that a request makes
abbrev pub opened_in : {N S : Type 0} → Control → Did N S → List EndId
opened_in c (DidAsk req reply h) = all_pipes (unless_refused reply (request_joins c req))
opened_in c (Delivered slot letter h) = []
opened_in c (Delimited e h) = []

-- a kind refuses an end only where it has a reason to, and once the reaper or a worker holds the ends nobody does
abbrev pub MayAnswer : Row → Attached → Type 0
MayAnswer o Yes = Unit {0}
MayAnswer o IsBadId = (o.kind ≡ Socket Router) × (o.request ≢ Used)
MayAnswer o IsSecond = (o.kind ≡ Socket IsPair) × (o.request ≢ Used)

abbrev pub MayAnswerAll : {N : Type 0} → Control → List (Joining N) → Type 0
MayAnswerAll c [] = Unit {0}
MayAnswerAll c (j ∷ js) = MayAnswer (obj c.rows (owner_of c j.end)) j.answer × MayAnswerAll c js

-- counts of a pipe that was settled; one whose reader was never asked was read to its end
pub record IsSettled (reason : Option Reason) (counts : Settled) : Type 0 where
  pub adds_up : counts.sent ≡ counts.got + counts.rest
  pub read_out : reason ≡ None → counts.rest ≡ 0

abbrev pub Settles : Control → Word → Option Settled → Type 0
Settles c (PipeTermAck e) (Some counts) = IsSettled (c.reasons e) counts
Settles c (PipeTermAck e) None = ⊥
Settles c (Own child) counts = counts ≡ None
Settles c (Plug end) counts = counts ≡ None
Settles c (TermReq child) counts = counts ≡ None
Settles c Term counts = counts ≡ None
Settles c (TermAck child) counts = counts ≡ None
Settles c (PipeBind e peer) counts = counts ≡ None
Settles c (PipeTerm e) counts = counts ≡ None
Settles c Stop counts = counts ≡ None
Settles c (Reap socket) counts = counts ≡ None

-- a pipe is settled at a PipeTermAck alone
abbrev pub SettlesIn : {N S : Type 0} → Control → Did N S → Type 0
SettlesIn c (DidAsk req reply h) = h.settled ≡ None
SettlesIn c (Delivered slot letter h) = Settles c letter.word h.settled
SettlesIn c (Delimited e h) = h.settled ≡ None

-- the commands at which their object tries to end
abbrev pub tries_end : Word → Bool
tries_end (Own child) = false
tries_end (Plug end) = false
tries_end (TermReq child) = false
tries_end Term = true
tries_end (TermAck child) = true
tries_end (PipeBind e peer) = false
tries_end (PipeTerm e) = false
tries_end (PipeTermAck e) = true
tries_end Stop = false
tries_end (Reap socket) = false

-- output is left of a session alone, at a command that lets it try to end, and not where it says that its output is over; what a session with a linger of 0 leaves is its link's to say
abbrev pub LeavesOutput : {N S : Type 0} → Control → Did N S → Type 0
LeavesOutput c (DidAsk req reply h) = h.output_left ≡ false
LeavesOutput c (Delivered slot letter h) = h.output_left ≡ true → (is_session (obj c.rows letter.to.0).kind ≡ true) × (tries_end letter.word ≡ true)
LeavesOutput c (Delimited e h) = h.output_left ≡ false

-- what the holder answered in an event
abbrev pub answer_of : {N S : Type 0} → Did N S → Answered N S
answer_of (DidAsk req reply h) = h
answer_of (Delivered slot letter h) = h
answer_of (Delimited e h) = h

-- the holder answered what the event asks, no more and no less
pub record IsAnswered {N S : Type 0} (c : Control) (did : Did N S) : Type 0 where
  pub joined : map (λ j. record { end = j.end; peer = j.peer; met = j.met }) (answer_of did).joined ≡ joins_in c did
  pub kinds : MayAnswerAll (after did c) (answer_of did).joined
  pub opened : map (λ n. n.pipe) (answer_of did).opened ≡ opened_in c did
  pub settled : SettlesIn c did
  pub output : LeavesOutput c did

-- a closed socket whose Reap is on its way: nobody holds its ends
abbrev pub is_between : Row → Bool
is_between o = is_socket o.kind && is_coming o.request

-- the letter is the oldest of its mailbox, which is not that of such a socket
pub record MayDeliver (c : Control) (slot : ℕ) (letter : Letter) : Type 0 where
  pub behind : List Letter
  pub oldest : c.boxes slot ≡ letter ∷ behind
  pub held : list_any (λ o. is_between o && o.slot == slot) c.rows.objects ≡ false

-- the front of the pipe that the end reads is looked at, by a holder that has the end
pub record MayDelimit (c : Control) (e : EndId) : Type 0 where
  pub looked_at : looks (place_of c e) ≡ true
  pub held : is_between (obj c.rows (owner_of c e)) ≡ false

-- the event may come, whatever the holder answers
abbrev pub MayHappen : {N S : Type 0} → Control → Did N S → Type 0
MayHappen c (DidAsk req reply h) = MayAsk c req × (reply ≡ reply_of c req)
MayHappen c (Delivered slot letter h) = MayDeliver c slot.0 letter
MayHappen c (Delimited e h) = MayDelimit c e

-- the event fits the state
pub record Fits {N S : Type 0} (c : Control) (did : Did N S) : Type 0 where
  pub may : MayHappen c did
  pub answered : IsAnswered c did

-- the mailboxes that a look found empty are so
abbrev pub AreEmpty : Control → SeenEmpty → Type 0
AreEmpty c Nothing = Unit {0}
AreEmpty c (Mailbox slot) = c.boxes slot.0 ≡ []
AreEmpty c Reapers = (c.boxes 0 ≡ []) × All (λ o. (obj c.rows o.0).request ≡ Used → c.boxes (obj c.rows o.0).slot ≡ []) c.closed

-- a look saw what there is
pub record IsSeen (c : Control) (sight : Sight) : Type 0 where
  pub empty : AreEmpty c sight.empty
  pub root : sight.root ≡ root_state c
  pub live : sight.live ≡ live_count c
  pub room : sight.room ≡ has_room c

abbrev pub FitsItem : {N S : Type 0} → Control → Item N S → Type 0
FitsItem c (Event entry) = Fits c entry.did
FitsItem c (Seen sight) = IsSeen c sight

-- the state after an event, or after a look
abbrev pub after_item : {N S : Type 0} → Item N S → Control → Control
after_item (Event entry) c = after entry.did c
after_item (Seen sight) c = c

-- the state after events and looks in order
abbrev pub after_all : {N S : Type 0} → List (Item N S) → Control → Control
after_all [] c = c
after_all (item ∷ items) c = after_all items (after_item item c)

-- each event and look fits the state that those before it left
abbrev pub IsControlRun : {N S : Type 0} → Control → List (Item N S) → Type 0
IsControlRun c [] = Unit {0}
IsControlRun c (item ∷ items) = FitsItem c item × IsControlRun (after_item item c) items
