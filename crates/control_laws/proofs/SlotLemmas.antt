-- An object keeps its mailbox, and each socket has one of its own.
use Rattle.std.specs.Prelude.{◌≡◌, ◌<◌, ◌+◌, ◌==◌, ◌&&◌, ◌||◌, ◌++◌, ◌∷◌, [], ℕ, zero, suc, Bool, true, false, cond, not, List, Option, Some, None, if◌then◌else◌, find, length, refl}
use Rattle.std.specs.List.{list_any}
use Rattle.std.proofs.Common.{sym, ap, ◌∙◌, subst}
use Rattle.std.proofs.lemmas.Bool.{eqb-true}
use Rattle.zq_base.specs.declared.attached.Attached.{Attached}
use Rattle.zq_base.specs.declared.attached.Attached.TheVariants.{Yes, BadId, Second}
use Rattle.zq_base.specs.declared.endpoint.Address.{Address}
use Rattle.zq_base.specs.declared.endpoint.Endpoint.{Endpoint}
use Rattle.zq_base.specs.declared.endpoint.Endpoint.TheVariants.{Inproc, Tcp}
use Rattle.zq_base.specs.declared.ids.EndId.{EndId}
use Rattle.zq_base.specs.declared.ids.ObjId.{ObjId}
use Rattle.zq_base.specs.declared.ids.Settled.{Settled}
use Rattle.spec_control.specs.declared.book.Binding.{Binding}
use Rattle.spec_control.specs.declared.book.Waiting.{Waiting}
use Rattle.spec_control.specs.declared.end.EndCommands.{EndCommands}
use Rattle.spec_control.specs.declared.end.EndCommands.TheVariants.{Nothing, TermAndSeal, Ack, Settle, SettleAndAck}
use Rattle.spec_control.specs.declared.end.EndEvent.{EndEvent}
use Rattle.spec_control.specs.declared.end.EndEvent.TheVariants.{Asked as IsAsked, TermCame, AckCame, DelimiterSeen}
use Rattle.spec_control.specs.declared.end.Reason.{Reason}
use Rattle.spec_control.specs.declared.end.Reason.TheVariants.{Closed, BadId as ForId, Second as ForSecond, Linger, Link}
use Rattle.spec_control.specs.declared.letter.Word.{Word}
use Rattle.spec_control.specs.declared.letter.Word.TheVariants.{Own, Plug, TermReq, Term, TermAck, PipeBind, PipeTerm, PipeTermAck, Stop, Reap}
use Rattle.spec_control.specs.declared.entry.Did.{Did}
use Rattle.spec_control.specs.declared.entry.Did.TheVariants.{Asked, Delivered, Delimited}
use Rattle.spec_control.specs.declared.entry.Item.{Item}
use Rattle.spec_control.specs.declared.entry.Item.TheVariants.{Event, Seen}
use Rattle.spec_control.specs.declared.request.Req.{Req}
use Rattle.spec_control.specs.declared.request.Req.TheVariants.{Socket as MakeSocket, AskTerm, Bind, Connect, Unbind, Disconnect, Close, Accepted, Shaken, AskEnd, AskOver, OutputOver}
use Rattle.spec_control.specs.declared.request.Reply.TheVariants.{Done, Object, Pair, Both, Wait, Asked as WasAsked, Before, Refused}
use Rattle.spec_control.specs.Register.{fulfilled_by, without_holder}
use Rattle.spec_control.specs.Hold.{Hold, Bound, Waits, Joined, fulfil, is_bind_to, is_connect_to}
use Rattle.spec_control.specs.Place.{is_away, is_here}
use Rattle.spec_control.specs.PairPhase.{BindCame, Happens}
use Rattle.spec_control.specs.declared.stage.Stage.TheVariants.{Finished}
use Rattle.spec_control.specs.Row.{IsTold, OwnComes, PlugComes, TermComes, RequestComes, AckComes, RootAsked, StopPut, link_may}
use Rattle.spec_control.specs.Rows.{Rows, is_owner, may_end, obj, with_object}
use Rattle.spec_control.specs.Stage.{was_asked}
use Rattle.spec_control.specs.Control.{Control, ask, ask_all, attach, commands_in, draws, end_of, ends_of, finish, greet, happens, id, link, makes, moved, next_object, next_pair, open_pair, owner_of, place_of, put, reason_in, stop_sockets, tell_children, tell_other, tell_owner, tell_where, try_end, with_end, with_value}
use Rattle.spec_control.specs.After.{Answers, after, answers_in, binding_by, connects, connects_to, fulfil_all, joins, pair_or_none, processed, requested, session_row, settle, strike_end, strikes, tell_struck, term_delay, term_reason, uses_reason, with_hold, without_front, without_names}
use Rattle.spec_control.specs.ControlRun.{Fits, IsControlRun, after_all}
use Rattle.spec_control.specs.Held.{items_by}
use Rattle.spec_control.specs.Has.{acts_in, given_up, has_over, has_then, taken_in}
use Rattle.spec_control.specs.Moments.{is_of_item, left_over, moments_by, moments_from}
use Rattle.control_laws.specs.Kept.{Kept}
use Rattle.control_laws.proofs.RunLemmas.{after_kept}
use Rattle.control_laws.proofs.ListLemmas.{never}
use Rattle.control_laws.specs.OwnMoves.{having_taken, own_moves, request_moves}
use Rattle.control_laws.proofs.AttachLemmas.{greets}
use Rattle.control_laws.proofs.EventGoLemmas.{event_goes}
use Rattle.control_laws.proofs.SoundLemmas.{leads_stay}
use Rattle.control_laws.proofs.WeighLemmas.{taken_rows}
use Rattle.control_laws.proofs.HeldOpenLemmas.{none_some, owned_by}
use Rattle.control_laws.proofs.HeldRowLemmas.{makes_object}
use Rattle.control_laws.proofs.ThereLemmas.{event_there, taken_there}

-- ---- an event leaves the mailboxes of the objects
pub event_slot : {N S : Type 0} (c : Control) (did : Did N S) → Kept c → Fits c did → (i : ℕ) → i < next_object c → (obj (after did c).rows i).slot ≡ (obj c.rows i).slot
event_slot c did kept fits i there =
    let g = event_goes c did kept fits in
    let same = taken_rows did c in
    (leads_stay g.moves (having_taken did c).rows (having_taken did c).boxes (after did c) i g.leads (subst (λ (r : Rows). i < length r.objects) (sym same) there)).slot
    ∙ ap (λ (r : Rows). (obj r i).slot) same

-- ---- what the last moment of an object left says its mailbox
pub record SlotLeft (l c : Control) (i : ℕ) : Type 0 where
  pub there : i < next_object c
  pub slot : (obj l.rows i).slot ≡ (obj c.rows i).slot

module _ {N S : Type 0} (k i : ℕ) where
  -- behind an event of the caller that had it, or takes it in
  module _ (c : Control) (kept : Kept c) (did : Did N S) (fits : Fits c did) (had : Option ℕ) where
    had_before : has_then i (Event (record { by = k; did = did })) had ≡ Some k → is_owner i (taken_in did) ≡ false → had ≡ Some k
    had_before e none = by (is_owner i (given_up did)) (sym (ap (λ (t : Bool). if t then Some k else (if is_owner i (given_up did) then None else had)) none) ∙ e)
      where
        by : (g : Bool) → (if g then None else had) ≡ Some k → had ≡ Some k
        by true x = absurd (none_some x)
        by false x = x

    passes : (l : Control) → SlotLeft l c i → SlotLeft l (after did c) i
    passes l was = record { there = event_there c did kept fits i was.there; slot = was.slot ∙ sym (event_slot c did kept fits i was.there) }

    behind : (l : Control) → (had ≡ Some k → SlotLeft l c i) → has_then i (Event (record { by = k; did = did })) had ≡ Some k → SlotLeft (if is_of_item i c (Event (record { by = k; did = did })) then after did c else l) (after did c) i
    behind l so e = by (is_owner i (acts_in c did)) (is_owner i (taken_in did)) refl
      where
        by : (a t : Bool) → is_owner i (taken_in did) ≡ t → SlotLeft (if a || t then after did c else l) (after did c) i
        by true t is = record { there = there t is; slot = refl }
          where
            there : (t : Bool) → is_owner i (taken_in did) ≡ t → i < next_object (after did c)
            there true is = taken_there c kept i did fits (owned_by i (taken_in did) is)
            there false is = event_there c did kept fits i (so (had_before e is)).there
        by false true is = record { there = taken_there c kept i did fits (owned_by i (taken_in did) is); slot = refl }
        by false false is = passes l (so (had_before e is))

  pub slot_left : (items : List (Item N S)) (c l : Control) (had : Option ℕ) → Kept c → IsControlRun c items → (had ≡ Some k → SlotLeft l c i) → has_over i had (items_by k items) ≡ Some k →
      SlotLeft (left_over i l (moments_by k (moments_from c items))) (after_all items c) i
  slot_left [] c l had kept run so has = so has
  slot_left (Seen sight ∷ items) c l had kept run so has = skip (sight.by == k) (slot_left items c l had kept run.1 so) has
    where
      skip : (b : Bool) → (has_over i had (items_by k items) ≡ Some k → SlotLeft (left_over i l (moments_by k (moments_from c items))) (after_all items c) i) → has_over i had (cond b (Seen sight ∷ items_by k items) (items_by k items)) ≡ Some k →
          SlotLeft (left_over i l (cond b (record { found = c; item = Seen sight } ∷ moments_by k (moments_from c items)) (moments_by k (moments_from c items)))) (after_all items c) i
      skip true next e = next e
      skip false next e = next e
  slot_left (Event entry ∷ items) c l had kept run so has =
      step (entry.by == k) refl (λ m was. slot_left items (after entry.did c) m was (after_kept c entry.did kept run.0) run.1) has
    where
      step : (b : Bool) → (entry.by == k) ≡ b →
          ((m : Control) (was : Option ℕ) → (was ≡ Some k → SlotLeft m (after entry.did c) i) → has_over i was (items_by k items) ≡ Some k →
          SlotLeft (left_over i m (moments_by k (moments_from (after entry.did c) items))) (after_all items (after entry.did c)) i) →
          has_over i had (cond b (Event entry ∷ items_by k items) (items_by k items)) ≡ Some k →
          SlotLeft (left_over i l (cond b (record { found = c; item = Event entry } ∷ moments_by k (moments_from (after entry.did c) items)) (moments_by k (moments_from (after entry.did c) items)))) (after_all items (after entry.did c)) i
      step true is next e =
          next (if is_of_item i c (Event entry) then after entry.did c else l) (has_then i (Event entry) had)
          (λ x. behind c kept entry.did run.0 had l so (ap (λ (n : ℕ). has_then i (Event (record { by = n; did = entry.did })) had) (sym (eqb-true entry.by k is)) ∙ x)) e
      step false is next e = next l had (λ x. passes c kept entry.did run.0 had l (so x)) e

-- ---- how many workers and mailboxes there are, and which sockets were closed
record Aside : Type 0 where
  pub workers : ℕ
  pub slots : ℕ
  pub closed : List ObjId

abbrev aside : Control → Aside
aside c = record { workers = c.workers; slots = c.slots; closed = c.closed }

if_slots : (b : Bool) (x y c : Control) → aside x ≡ aside c → aside y ≡ aside c → aside (if b then x else y) ≡ aside c
if_slots true x y c one other = one
if_slots false x y c one other = other

where_slots : (wanted : Bool) (child : ℕ) (c : Control) → aside (tell_where wanted child c) ≡ aside c
where_slots wanted child c = if_slots (wanted && link_may IsTold (obj c.rows child)) (put child Term (link IsTold child c)) c c refl refl

children_slots : (n owner : ℕ) (c : Control) → aside (tell_children n owner c) ≡ aside c
children_slots zero owner c = refl
children_slots (suc n) owner c =
    let before : Control = tell_children n owner c in
    where_slots (is_owner owner (obj before.rows n).owner && (obj before.rows n).noted) n before ∙ children_slots n owner c

stop_slots : (n : ℕ) (c : Control) → aside (stop_sockets n c) ≡ aside c
stop_slots zero c = refl
stop_slots (suc n) c =
    let before : Control = stop_sockets n c in
    if_slots (link_may StopPut (obj before.rows n)) (put n Stop (link StopPut n before)) before before refl refl ∙ stop_slots n c

other_slots : (commands : EndCommands) (e : EndId) (c : Control) → aside (tell_other commands e c) ≡ aside c
other_slots Nothing e c = refl
other_slots TermAndSeal e c = refl
other_slots Ack e c = refl
other_slots Settle e c = refl
other_slots SettleAndAck e c = refl

happens_slots : (event : EndEvent) (e : EndId) (c : Control) → aside (happens event e c) ≡ aside c
happens_slots event e c = other_slots (commands_in event (place_of c e)) e (record (moved (Happens event) e c) { reasons = with_end e (reason_in event (place_of c e) (c.reasons e)) c.reasons })

ask_slots : (why : Reason) (delay : Bool) (e : EndId) (c : Control) → aside (ask why delay e c) ≡ aside c
ask_slots why delay e c = if_slots (is_here (place_of c e)) (happens (IsAsked why delay) e c) c c (happens_slots (IsAsked why delay) e c) refl

all_slots : (why : Reason) (delay : Bool) (es : List EndId) (c : Control) → aside (ask_all why delay es c) ≡ aside c
all_slots why delay [] c = refl
all_slots why delay (e ∷ es) c = all_slots why delay es (ask why delay e c) ∙ ask_slots why delay e c

greet_slots : (answer : Attached) (e : EndId) (c : Control) → aside (greet answer e c) ≡ aside c
greet_slots Yes e c =
    if_slots (was_asked (obj c.rows (owner_of c e)).stage) (ask Closed false e c) (if c.struck e then ask Closed false e c else c) c (ask_slots Closed false e c)
    (if_slots (c.struck e) (ask Closed false e c) c c (ask_slots Closed false e c) refl)
greet_slots BadId e c = ask_slots ForId false e c
greet_slots Second e c = ask_slots ForSecond false e c

owner_slots : (owner : Option ℕ) (i : ℕ) (c : Control) → aside (tell_owner owner i c) ≡ aside c
owner_slots None i c = refl
owner_slots (Some owner) i c = refl

try_slots : (i : ℕ) (left : Bool) (c : Control) → aside (try_end i left c) ≡ aside c
try_slots i left c =
    let now : Control = record c { output_left = with_value i left c.output_left } in
    if_slots (may_end c.rows i) (if left then now else finish i now) now c
    (if_slots left now (finish i now) c refl (owner_slots (obj now.rows i).owner i (record now { rows = with_object i (record (obj now.rows i) { stage = Finished }) now.rows; ended = now.ended ++ id i ∷ [] }))) refl

settle_slots : (e : EndId) (counts : Option Settled) (c : Control) → aside (settle e counts c) ≡ aside c
settle_slots e None c = refl
settle_slots e (Some counts) c = refl

word_slots : (at : ℕ) (word : Word) (h : Answers) (c : Control) → aside (processed at word h c) ≡ aside c
word_slots at (Own child) h c = where_slots (was_asked (obj c.rows at).stage) child.0 (link OwnComes child.0 c)
word_slots at (Plug None) h c = refl
word_slots at (Plug (Some e)) h c = greet_slots (h.kind e) e (attach BindCame e (link PlugComes at c))
word_slots at (TermReq child) h c = where_slots (not (was_asked (obj c.rows at).stage)) child.0 (link RequestComes child.0 c)
word_slots at Term h c =
    let asked : Control = without_names at (link TermComes at c) in
    let ends_asked : Control = ask_all (term_reason (obj c.rows at).kind) (term_delay (obj c.rows at)) (ends_of at asked) asked in
    try_slots at h.left (tell_children (length ends_asked.rows.objects) at ends_asked) ∙ children_slots (length ends_asked.rows.objects) at ends_asked
    ∙ all_slots (term_reason (obj c.rows at).kind) (term_delay (obj c.rows at)) (ends_of at asked) asked
word_slots at (TermAck child) h c = try_slots at h.left (link AckComes child.0 c)
word_slots at (PipeBind e peer) h c = greet_slots (h.kind e) e (attach BindCame e c)
word_slots at (PipeTerm e) h c = happens_slots TermCame e c
word_slots at (PipeTermAck e) h c = try_slots at h.left (settle e h.counts (happens AckCame e c)) ∙ settle_slots e h.counts (happens AckCame e c) ∙ happens_slots AckCame e c
word_slots at Stop h c = refl
word_slots at (Reap socket) h c = refl

joins_slots : (connecting bound : ℕ) (a_first : Bool) (h : Answers) (c : Control) → aside (joins connecting bound a_first h c) ≡ aside c
joins_slots connecting bound a_first h c =
    let first : EndId = end_of (next_pair c) a_first in
    let drawn : Control = draws connecting bound c in
    greet_slots (h.kind first) first (open_pair first (PipeBind (end_of (next_pair c) (not a_first)) (obj c.rows (owner_of drawn first)).options.id) drawn)

fulfil_slots : (i : ℕ) (at : Endpoint) (ws : List Waiting) (h : Answers) (c : Control) → aside (fulfil_all i at ws h c) ≡ aside c
fulfil_slots i at [] h c = refl
fulfil_slots i at (w ∷ ws) h c =
    let joined : Control = joins w.waiter.0 i false h c in
    fulfil_slots i at ws h (record joined { holds = with_value w.waiter.0 (fulfil at (next_pair c) (joined.holds w.waiter.0)) joined.holds }) ∙ joins_slots w.waiter.0 i false h c

to_slots : (i : ℕ) (at : Endpoint) (held : Option Binding) (h : Answers) (c : Control) → aside (connects_to i at held h c) ≡ aside c
to_slots i at None h c = refl
to_slots i at (Some binding) h c = joins_slots i binding.holder.0 true h (with_hold i (Joined at (next_pair c) None) c)

struck_slots : (i : ℕ) (session : Option ℕ) (c : Control) → aside (tell_struck i session c) ≡ aside c
struck_slots i None c = refl
struck_slots i (Some child) c = where_slots (is_owner i (obj c.rows child).owner) child c

end_slots : (i : ℕ) (e : EndId) (c : Control) → aside (strike_end i e c) ≡ aside c
end_slots i e c =
    if_slots (is_away (place_of c e)) (record c { struck = with_end e true c.struck }) (if owner_of c e == i then ask Closed false e c else c) c refl
    (if_slots (owner_of c e == i) (ask Closed false e c) c c (ask_slots Closed false e c) refl)

strikes_slots : (i : ℕ) (to : Endpoint) (hold : Option Hold) (c : Control) → aside (strikes i to hold c) ≡ aside c
strikes_slots i to None c = refl
strikes_slots i to (Some (Bound at listener)) c = struck_slots i listener (record c { names = without_holder to c.names })
strikes_slots i to (Some (Waits at)) c = refl
strikes_slots i to (Some (Joined at k session)) c = struck_slots i session (strike_end i (end_of k true) c) ∙ end_slots i (end_of k true) c

reason_slots : (reason : Reason) (i : ℕ) (c : Control) → aside (uses_reason reason i c) ≡ aside c
reason_slots Closed i c = refl
reason_slots ForId i c = refl
reason_slots ForSecond i c = refl
reason_slots Linger i c = refl
reason_slots Link i c = refl

-- the sockets that are closed behind a request, and behind an event
abbrev pub close_of : Req → List ObjId → List ObjId
close_of (MakeSocket kind options) closed = closed
close_of AskTerm closed = closed
close_of (Bind o at) closed = closed
close_of (Connect o at) closed = closed
close_of (Unbind o at) closed = closed
close_of (Disconnect o at) closed = closed
close_of (Close o) closed = closed ++ o ∷ []
close_of (Accepted o) closed = closed
close_of (Shaken o peer) closed = closed
close_of (AskEnd e reason) closed = closed
close_of (AskOver o) closed = closed
close_of (OutputOver o) closed = closed

abbrev pub closed_in : {N S : Type 0} → Did N S → List ObjId → List ObjId
closed_in (Asked req Done h) closed = close_of req closed
closed_in (Asked req (Object o) h) closed = close_of req closed
closed_in (Asked req (Pair p) h) closed = close_of req closed
closed_in (Asked req (Both o p) h) closed = close_of req closed
closed_in (Asked req Wait h) closed = close_of req closed
closed_in (Asked req WasAsked h) closed = close_of req closed
closed_in (Asked req Before h) closed = closed
closed_in (Asked req (Refused refusal) h) closed = closed
closed_in (Delivered slot letter h) closed = closed
closed_in (Delimited e h) closed = closed

request_slots : (req : Req) (h : Answers) (c : Control) → list_any makes_object (request_moves c req) ≡ false → aside (requested req h c) ≡ record { workers = c.workers; slots = c.slots; closed = close_of req c.closed }
request_slots (MakeSocket kind options) h c none = absurd (never (sym none))
request_slots AskTerm h c none = try_slots 0 h.left (stop_sockets (length c.rows.objects) (link RootAsked 0 c)) ∙ stop_slots (length c.rows.objects) (link RootAsked 0 c)
request_slots (Bind o (Inproc name)) h c none = fulfil_slots o.0 (Inproc name) (fulfilled_by (Inproc name) (binding_by o.0 c) c.names) h _
request_slots (Bind o (Tcp address)) h c none = absurd (never (sym none))
request_slots (Connect o (Inproc name)) h c none = to_slots o.0 (Inproc name) (c.names.held (Inproc name)) h c
request_slots (Connect o (Tcp address)) h c none = absurd (never (sym none))
request_slots (Unbind o at) h c none = strikes_slots o.0 at (find (is_bind_to at) (c.holds o.0)) _
request_slots (Disconnect o at) h c none = strikes_slots o.0 at (find (is_connect_to at) (c.holds o.0)) _
request_slots (Close o) h c none = refl
request_slots (Accepted o) h c none = absurd (never (sym none))
request_slots (Shaken o peer) h c none =
    let mine : EndId = end_of (pair_or_none (obj c.rows o.0).pair) true in
    greet_slots (h.kind mine) mine (open_pair mine (PipeBind (end_of mine.pair.0 false) peer.identity) c)
request_slots (AskEnd e reason) h c none = ask_slots reason false e (uses_reason reason (owner_of c e) c) ∙ reason_slots reason (owner_of c e) c
request_slots (AskOver o) h c none = refl
request_slots (OutputOver o) h c none = try_slots o.0 h.left c

event_aside : {N S : Type 0} (c : Control) (did : Did N S) → list_any makes_object (own_moves c did) ≡ false → aside (after did c) ≡ record { workers = c.workers; slots = c.slots; closed = closed_in did c.closed }
event_aside c (Asked req Done h) none = request_slots req (answers_in h) c none
event_aside c (Asked req (Object o) h) none = request_slots req (answers_in h) c none
event_aside c (Asked req (Pair p) h) none = request_slots req (answers_in h) c none
event_aside c (Asked req (Both o p) h) none = request_slots req (answers_in h) c none
event_aside c (Asked req Wait h) none = request_slots req (answers_in h) c none
event_aside c (Asked req WasAsked h) none = request_slots req (answers_in h) c none
event_aside c (Asked req Before h) none = refl
event_aside c (Asked req (Refused refusal) h) none = refl
event_aside c (Delivered slot letter h) none = word_slots letter.to.0 letter.word (answers_in h) (without_front slot.0 c)
event_aside c (Delimited e h) none = happens_slots DelimiterSeen e c

-- an event that makes no object makes no mailbox
pub event_slots : {N S : Type 0} (c : Control) (did : Did N S) → list_any makes_object (own_moves c did) ≡ false → (after did c).slots ≡ c.slots
event_slots c did none = ap (λ (a : Aside). a.slots) (event_aside c did none)

-- and closes the socket of a close alone
pub event_closed : {N S : Type 0} (c : Control) (did : Did N S) → list_any makes_object (own_moves c did) ≡ false → (after did c).closed ≡ closed_in did c.closed
event_closed c did none = ap (λ (a : Aside). a.closed) (event_aside c did none)

-- there are the workers that there were
pub event_workers : {N S : Type 0} (c : Control) (did : Did N S) → list_any makes_object (own_moves c did) ≡ false → (after did c).workers ≡ c.workers
event_workers c did none = ap (λ (a : Aside). a.workers) (event_aside c did none)

-- a connect over tcp makes one mailbox, with its session, and closes no socket
module _ (i : ℕ) (address : Address) (h : Answers) (c : Control) where
  dial_aside : aside (connects i (Tcp address) h c) ≡ record { workers = c.workers; slots = c.slots + 1; closed = c.closed }
  dial_aside =
      let child : ℕ = next_object c in
      let mine : EndId = end_of (next_pair c) true in
      let made : Control = draws i child (makes (session_row i c) (with_hold i (Joined (Tcp address) (next_pair c) (Some child)) c)) in
      greet_slots (h.kind mine) mine (open_pair mine (Plug (Some (end_of (next_pair c) false))) (put i (Own (id child)) made))

  pub dial_slots : (connects i (Tcp address) h c).slots ≡ c.slots + 1
  dial_slots = ap (λ (a : Aside). a.slots) dial_aside

  pub dial_workers : (connects i (Tcp address) h c).workers ≡ c.workers
  dial_workers = ap (λ (a : Aside). a.workers) dial_aside

  pub dial_closed : (connects i (Tcp address) h c).closed ≡ c.closed
  dial_closed = ap (λ (a : Aside). a.closed) dial_aside

  -- and one object
  pub dial_objects : (connects i (Tcp address) h c).rows.objects ≡ c.rows.objects ++ session_row i c ∷ []
  dial_objects =
      let child : ℕ = next_object c in
      let mine : EndId = end_of (next_pair c) true in
      let made : Control = draws i child (makes (session_row i c) (with_hold i (Joined (Tcp address) (next_pair c) (Some child)) c)) in
      (greets true (h.kind mine) mine (open_pair mine (Plug (Some (end_of (next_pair c) false))) (put i (Own (id child)) made))).leaves.objects
