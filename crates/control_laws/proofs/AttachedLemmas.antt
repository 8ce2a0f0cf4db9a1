-- Which ends an event attaches, in their order.
use Rattle.std.specs.Prelude.{◌≡◌, ◌+◌, ◌==◌, ◌&&◌, ℕ, zero, suc, Bool, true, false, not, List, [], ◌∷◌, ◌++◌, Option, Some, None, if◌then◌else◌, find, map, length, refl}
use Rattle.std.proofs.Common.{sym, ap, ◌∙◌}
use Rattle.std.proofs.lemmas.List.{append-nil, append_assoc}
use Rattle.zq_base.specs.declared.attached.Attached.{Attached}
use Rattle.zq_base.specs.declared.endpoint.Endpoint.{Endpoint}
use Rattle.zq_base.specs.declared.endpoint.Endpoint.TheVariants.{Inproc, Tcp}
use Rattle.zq_base.specs.declared.ids.EndId.{EndId}
use Rattle.zq_base.specs.declared.ids.Settled.{Settled}
use Rattle.spec_control.specs.declared.end.EndEvent.{EndEvent}
use Rattle.spec_control.specs.declared.end.EndEvent.TheVariants.{Asked, TermCame, DelimiterSeen, AckCame}
use Rattle.spec_control.specs.declared.end.EndCommands.{EndCommands}
use Rattle.spec_control.specs.declared.end.EndCommands.TheVariants.{Nothing, TermAndSeal, Ack, Settle, SettleAndAck}
use Rattle.spec_control.specs.declared.end.Reason.{Reason}
use Rattle.spec_control.specs.declared.end.Reason.TheVariants.{Closed, BadId, Second, Linger, Link}
use Rattle.spec_control.specs.declared.letter.Word.{Word}
use Rattle.spec_control.specs.declared.letter.Word.TheVariants.{Own, Plug, TermReq, Term, TermAck, PipeBind, PipeTerm, PipeTermAck, Stop, Reap}
use Rattle.spec_control.specs.declared.request.Req.{Req}
use Rattle.spec_control.specs.declared.request.Req.TheVariants.{Socket as MakeSocket, AskTerm, Bind, Connect, Unbind, Disconnect, Close, Accepted, Shaken, AskEnd, AskOver, OutputOver}
use Rattle.spec_control.specs.declared.request.Reply.{Reply}
use Rattle.spec_control.specs.declared.request.Reply.TheVariants.{Done, Object, Pair, Both, Wait, Asked as WasAsked, Before, Refused}
use Rattle.spec_control.specs.declared.book.Binding.{Binding}
use Rattle.spec_control.specs.declared.book.Waiting.{Waiting}
use Rattle.spec_control.specs.declared.entry.Did.{Did}
use Rattle.spec_control.specs.declared.entry.Did.TheVariants.{Asked as DidAsk, Delivered, Delimited}
use Rattle.spec_control.specs.declared.stage.Stage.TheVariants.{Finished}
use Rattle.spec_control.specs.EndpointBook.{without_first}
use Rattle.spec_control.specs.Register.{fulfilled_by, without_holder, waiting_now}
use Rattle.spec_control.specs.Hold.{Hold, Bound, Waits, Joined, is_bind_to, is_connect_to, fulfil}
use Rattle.spec_control.specs.Place.{is_here, is_away}
use Rattle.spec_control.specs.PairPhase.{Happens, BindCame}
use Rattle.spec_control.specs.Row.{IsTold, StopPut, PlugComes, OwnComes, RootAsked, RequestComes, TermComes, AckComes, link_may}
use Rattle.spec_control.specs.Rows.{obj, is_owner, may_end, with_object}
use Rattle.spec_control.specs.Stage.{was_asked}
use Rattle.spec_control.specs.Control.{Control, with_value, with_end, id, end_of, place_of, owner_of, next_object, next_pair, commands_in, reason_in, moved, tell_other, put, link, makes, draws, tell_where, tell_children, stop_sockets, happens, ask, ask_all, attach, open_pair, greet, ends_of, tell_owner, finish, try_end}
use Rattle.spec_control.specs.After.{Answers, answers_in, settle, tell_struck, strike_end, strikes, joins, fulfil_all, binds, binding_by, named, with_hold, connects, connects_to, uses_reason, requested, answered, processed, after, pair_or_none, without_names, term_reason, term_delay, session_row, without_front}
use Rattle.spec_control.specs.ControlRun.{Joins, bind_joins, connect_joins, request_joins, unless_refused}
use Rattle.control_laws.proofs.AttachLemmas.{greets}
use Rattle.control_laws.specs.OwnMoves.{fulfil_moves, connect_moves, request_moves, word_moves, own_moves}
use Rattle.control_laws.proofs.JoinGoLemmas.{joins_pairs}
use Rattle.control_laws.proofs.LeadLemmas.{attached_by}

-- ---- what attaches nothing
tells : (wanted : Bool) (child : ℕ) (c : Control) → (tell_where wanted child c).attached ≡ c.attached
tells wanted child c = by (wanted && link_may IsTold (obj c.rows child))
  where
    by : (b : Bool) → (if b then put child Term (link IsTold child c) else c).attached ≡ c.attached
    by true = refl
    by false = refl

tells_all : (n owner : ℕ) (c : Control) → (tell_children n owner c).attached ≡ c.attached
tells_all zero owner c = refl
tells_all (suc n) owner c =
    tells (is_owner owner (obj (tell_children n owner c).rows n).owner && (obj (tell_children n owner c).rows n).noted) n (tell_children n owner c) ∙ tells_all n owner c

stops : (n : ℕ) (c : Control) → (stop_sockets n c).attached ≡ c.attached
stops zero c = refl
stops (suc n) c = by (link_may StopPut (obj (stop_sockets n c).rows n)) ∙ stops n c
  where
    by : (b : Bool) → (if b then put n Stop (link StopPut n (stop_sockets n c)) else stop_sockets n c).attached ≡ (stop_sockets n c).attached
    by true = refl
    by false = refl

told_other : (commands : EndCommands) (e : EndId) (c : Control) → (tell_other commands e c).attached ≡ c.attached
told_other Nothing e c = refl
told_other TermAndSeal e c = refl
told_other Ack e c = refl
told_other Settle e c = refl
told_other SettleAndAck e c = refl

happened : (event : EndEvent) (e : EndId) (c : Control) → (happens event e c).attached ≡ c.attached
happened event e c = told_other (commands_in event (place_of c e)) e (record (moved (Happens event) e c) { reasons = with_end e (reason_in event (place_of c e) (c.reasons e)) c.reasons })

asks : (reason : Reason) (delay : Bool) (e : EndId) (c : Control) → (ask reason delay e c).attached ≡ c.attached
asks reason delay e c = by (is_here (place_of c e))
  where
    by : (b : Bool) → (if b then happens (Asked reason delay) e c else c).attached ≡ c.attached
    by true = happened (Asked reason delay) e c
    by false = refl

asks_all : (reason : Reason) (delay : Bool) (es : List EndId) (c : Control) → (ask_all reason delay es c).attached ≡ c.attached
asks_all reason delay [] c = refl
asks_all reason delay (e ∷ es) c = asks_all reason delay es (ask reason delay e c) ∙ asks reason delay e c

greeted : (kind : Attached) (e : EndId) (c : Control) → (greet kind e c).attached ≡ c.attached
greeted kind e c = (greets true kind e c).leaves.attached

owner_told : (owner : Option ℕ) (i : ℕ) (c : Control) → (tell_owner owner i c).attached ≡ c.attached
owner_told None i c = refl
owner_told (Some w) i c = refl

tried : (i : ℕ) (left : Bool) (c : Control) → (try_end i left c).attached ≡ c.attached
tried i left c = by (may_end c.rows i) left
  where
    now : Control
    now = record c { output_left = with_value i left c.output_left }

    by : (b l : Bool) → (if b then (if l then now else finish i now) else now).attached ≡ c.attached
    by true true = refl
    by true false = owner_told (obj c.rows i).owner i (record now { rows = with_object i (record (obj c.rows i) { stage = Finished }) c.rows; ended = c.ended ++ id i ∷ [] })
    by false l = refl

settled : (e : EndId) (counts : Option Settled) (c : Control) → (settle e counts c).attached ≡ c.attached
settled e None c = refl
settled e (Some counts) c = refl

told_struck : (i : ℕ) (child : Option ℕ) (c : Control) → (tell_struck i child c).attached ≡ c.attached
told_struck i None c = refl
told_struck i (Some child) c = tells (is_owner i (obj c.rows child).owner) child c

end_struck : (i : ℕ) (e : EndId) (c : Control) → (strike_end i e c).attached ≡ c.attached
end_struck i e c = by (is_away (place_of c e)) (owner_of c e == i)
  where
    by : (a m : Bool) → (if a then record c { struck = with_end e true c.struck } else (if m then ask Closed false e c else c)).attached ≡ c.attached
    by true m = refl
    by false true = asks Closed false e c
    by false false = refl

struck : (i : ℕ) (to : Endpoint) (hold : Option Hold) (c : Control) → (strikes i to hold c).attached ≡ c.attached
struck i to None c = refl
struck i to (Some (Bound at listener)) c = told_struck i listener (record c { names = without_holder to c.names })
struck i to (Some (Waits at)) c = refl
struck i to (Some (Joined at k session)) c = told_struck i session (strike_end i (end_of k true) c) ∙ end_struck i (end_of k true) c

used : (reason : Reason) (i : ℕ) (c : Control) → (uses_reason reason i c).attached ≡ c.attached
used Closed i c = refl
used BadId i c = refl
used Second i c = refl
used Linger i c = refl
used Link i c = refl

-- ---- what attaches one end, or some
joined_one : (x y : ℕ) (a : Bool) (h : Answers) (c : Control) → (joins x y a h c).attached ≡ c.attached ++ end_of (next_pair c) a ∷ []
joined_one x y a h c =
    greeted (h.kind (end_of (next_pair c) a)) (end_of (next_pair c) a)
    (open_pair (end_of (next_pair c) a) (PipeBind (end_of (next_pair c) (not a)) (obj c.rows (owner_of (draws x y c) (end_of (next_pair c) a))).options.id) (draws x y c))

joined_all : (c : Control) (i k : ℕ) (at : Endpoint) (ws : List Waiting) (h : Answers) (d : Control) → next_pair d ≡ k → (fulfil_all i at ws h d).attached ≡ d.attached ++ attached_by (fulfil_moves c i k ws)
joined_all c i k at [] h d is = sym (append-nil d.attached)
joined_all c i k at (w ∷ ws) h d is =
    let now = joins w.waiter.0 i false h d in
    let next = record now { holds = with_value w.waiter.0 (fulfil at (next_pair d) (now.holds w.waiter.0)) now.holds } in
    joined_all c i (k + 1) at ws h next (joins_pairs d w.waiter.0 i false h ∙ ap (λ (n : ℕ). n + 1) is)
    ∙ ap (λ (es : List EndId). es ++ attached_by (fulfil_moves c i (k + 1) ws)) (joined_one w.waiter.0 i false h d)
    ∙ append_assoc d.attached (end_of (next_pair d) false ∷ []) (attached_by (fulfil_moves c i (k + 1) ws))
    ∙ ap (λ (n : ℕ). d.attached ++ end_of n false ∷ attached_by (fulfil_moves c i (k + 1) ws)) is

bound : (i : ℕ) (at : Endpoint) (h : Answers) (c : Control) → (binds i at h c).attached ≡ c.attached ++ attached_by (request_moves c (Bind (id i) at))
bound i (Inproc name) h c =
    let at = Inproc name in
    let held = with_hold i (Bound at None) (named i at (binding_by i c) c) in
    joined_all c i (next_pair c) at (fulfilled_by at (binding_by i c) c.names) h
    (record held { names = waiting_now _ held.names }) refl
bound i (Tcp address) h c = sym (append-nil c.attached)

connected : (i : ℕ) (at : Endpoint) (h : Answers) (c : Control) → (connects i at h c).attached ≡ c.attached ++ attached_by (request_moves c (Connect (id i) at))
connected i (Inproc name) h c = by (c.names.held (Inproc name))
  where
    by : (held : Option Binding) → (connects_to i (Inproc name) held h c).attached ≡ c.attached ++ attached_by (connect_moves c i held)
    by None = sym (append-nil c.attached)
    by (Some binding) = joined_one i binding.holder.0 true h (with_hold i (Joined (Inproc name) (next_pair c) None) c)
connected i (Tcp address) h c =
    let child = next_object c in
    let mine = end_of (next_pair c) true in
    let made = draws i child (makes (session_row i c) (with_hold i (Joined (Tcp address) (next_pair c) (Some child)) c)) in
    greeted (h.kind mine) mine (open_pair mine (Plug (Some (end_of (next_pair c) false))) (put i (Own (id child)) made))

requested_attached : (c : Control) (req : Req) (h : Answers) → (requested req h c).attached ≡ c.attached ++ attached_by (request_moves c req)
requested_attached c (MakeSocket kind options) h = sym (append-nil c.attached)
requested_attached c AskTerm h = tried 0 h.left (stop_sockets (length c.rows.objects) (link RootAsked 0 c)) ∙ stops (length c.rows.objects) (link RootAsked 0 c) ∙ sym (append-nil c.attached)
requested_attached c (Bind o at) h = bound o.0 at h c
requested_attached c (Connect o at) h = connected o.0 at h c
requested_attached c (Unbind o at) h = struck o.0 at (find (is_bind_to at) (c.holds o.0)) (record c { holds = with_value o.0 (without_first (is_bind_to at) (c.holds o.0)) c.holds }) ∙ sym (append-nil c.attached)
requested_attached c (Disconnect o at) h = struck o.0 at (find (is_connect_to at) (c.holds o.0)) (record c { holds = with_value o.0 (without_first (is_connect_to at) (c.holds o.0)) c.holds }) ∙ sym (append-nil c.attached)
requested_attached c (Close o) h = sym (append-nil c.attached)
requested_attached c (Accepted o) h = sym (append-nil c.attached)
requested_attached c (Shaken o peer) h =
    let mine = end_of (pair_or_none (obj c.rows o.0).pair) true in
    greeted (h.kind mine) mine (open_pair mine (PipeBind (end_of mine.pair.0 false) peer.identity) c)
requested_attached c (AskEnd e reason) h = asks reason false e (uses_reason reason (owner_of c e) c) ∙ used reason (owner_of c e) c ∙ sym (append-nil c.attached) ∙ ap (λ (es : List EndId). c.attached ++ es) (none reason)
  where
    none : (reason : Reason) → [] ≡ attached_by (request_moves c (AskEnd e reason))
    none Closed = refl
    none BadId = refl
    none Second = refl
    none Linger = refl
    none Link = refl
requested_attached c (AskOver o) h = sym (append-nil c.attached)
requested_attached c (OutputOver o) h = tried o.0 h.left c ∙ sym (append-nil c.attached)

processed_attached : (c : Control) (at : ℕ) (word : Word) (h : Answers) → (processed at word h c).attached ≡ c.attached ++ attached_by (word_moves at word)
processed_attached c at (Own child) h = tells (was_asked (obj c.rows at).stage) child.0 (link OwnComes child.0 c) ∙ sym (append-nil c.attached)
processed_attached c at (Plug None) h = sym (append-nil c.attached)
processed_attached c at (Plug (Some e)) h = greeted (h.kind e) e (attach BindCame e (link PlugComes at c))
processed_attached c at (TermReq child) h = tells (not (was_asked (obj c.rows at).stage)) child.0 (link RequestComes child.0 c) ∙ sym (append-nil c.attached)
processed_attached c at Term h =
    let asked = without_names at (link TermComes at c) in
    let ends_asked = ask_all (term_reason (obj c.rows at).kind) (term_delay (obj c.rows at)) (ends_of at asked) asked in
    tried at h.left (tell_children (length ends_asked.rows.objects) at ends_asked) ∙ tells_all (length ends_asked.rows.objects) at ends_asked
    ∙ asks_all (term_reason (obj c.rows at).kind) (term_delay (obj c.rows at)) (ends_of at asked) asked ∙ sym (append-nil c.attached)
processed_attached c at (TermAck child) h = tried at h.left (link AckComes child.0 c) ∙ sym (append-nil c.attached)
processed_attached c at (PipeBind e peer) h = greeted (h.kind e) e (attach BindCame e c)
processed_attached c at (PipeTerm e) h = happened TermCame e c ∙ sym (append-nil c.attached)
processed_attached c at (PipeTermAck e) h = tried at h.left (settle e h.counts (happens AckCame e c)) ∙ settled e h.counts (happens AckCame e c) ∙ happened AckCame e c ∙ sym (append-nil c.attached)
processed_attached c at Stop h = sym (append-nil c.attached)
processed_attached c at (Reap socket) h = sym (append-nil c.attached)

-- the list of the ends that were attached grows by those that the event's own moves attach
pub attached_after : {N S : Type 0} (c : Control) (did : Did N S) → (after did c).attached ≡ c.attached ++ attached_by (own_moves c did)
attached_after c (DidAsk req reply h) = by reply
  where
    by : (reply : Reply) → (answered req reply (answers_in h) c).attached ≡ c.attached ++ attached_by (unless_refused reply (request_moves c req))
    by Done = requested_attached c req (answers_in h)
    by (Object o) = requested_attached c req (answers_in h)
    by (Pair p) = requested_attached c req (answers_in h)
    by (Both o p) = requested_attached c req (answers_in h)
    by Wait = requested_attached c req (answers_in h)
    by WasAsked = requested_attached c req (answers_in h)
    by Before = sym (append-nil c.attached)
    by (Refused refusal) = sym (append-nil c.attached)
attached_after c (Delivered slot letter h) = processed_attached (without_front slot.0 c) letter.to.0 letter.word (answers_in h)
attached_after c (Delimited e h) = happened DelimiterSeen e c ∙ sym (append-nil c.attached)

-- ---- they are the ends that join, but for those that the reaper takes over
abbrev pub ends_of_joins : List Joins → List EndId
ends_of_joins js = map (λ j. j.end) js

binds_are : (c d : Control) (i k : ℕ) (ws : List Waiting) → ends_of_joins (bind_joins c k ws) ≡ attached_by (fulfil_moves d i k ws)
binds_are c d i k [] = refl
binds_are c d i k (w ∷ ws) = ap (λ (es : List EndId). end_of k false ∷ es) (binds_are c d i (k + 1) ws)

connects_are : (c : Control) (i : ℕ) (held : Option Binding) → ends_of_joins (connect_joins c held) ≡ attached_by (connect_moves c i held)
connects_are c i None = refl
connects_are c i (Some binding) = refl

request_ends : (c : Control) (req : Req) → ends_of_joins (request_joins c req) ≡ attached_by (request_moves c req)
request_ends c (MakeSocket kind options) = refl
request_ends c AskTerm = refl
request_ends c (Bind o (Inproc name)) = binds_are c c o.0 (next_pair c) (fulfilled_by (Inproc name) (binding_by o.0 c) c.names)
request_ends c (Bind o (Tcp address)) = refl
request_ends c (Connect o (Inproc name)) = connects_are c o.0 (c.names.held (Inproc name))
request_ends c (Connect o (Tcp address)) = refl
request_ends c (Unbind o at) = refl
request_ends c (Disconnect o at) = refl
request_ends c (Close o) = refl
request_ends c (Accepted o) = refl
request_ends c (Shaken o peer) = refl
request_ends c (AskEnd e Closed) = refl
request_ends c (AskEnd e BadId) = refl
request_ends c (AskEnd e Second) = refl
request_ends c (AskEnd e Linger) = refl
request_ends c (AskEnd e Link) = refl
request_ends c (AskOver o) = refl
request_ends c (OutputOver o) = refl

pub asked_ends : (c : Control) (req : Req) (reply : Reply) → ends_of_joins (unless_refused reply (request_joins c req)) ≡ attached_by (unless_refused reply (request_moves c req))
asked_ends c req Done = request_ends c req
asked_ends c req (Object o) = request_ends c req
asked_ends c req (Pair p) = request_ends c req
asked_ends c req (Both o p) = request_ends c req
asked_ends c req Wait = request_ends c req
asked_ends c req WasAsked = request_ends c req
asked_ends c req Before = refl
asked_ends c req (Refused refusal) = refl
