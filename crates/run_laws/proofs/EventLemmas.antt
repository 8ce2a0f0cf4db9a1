-- What an event does to which objects are over: none ends, or one that lived.
use Rattle.std.specs.Prelude.{◌≡◌, ◌&&◌, ℕ, Bool, true, false, not, [], ◌∷◌, ◌++◌, Option, Some, None, if◌then◌else◌, length, find, filter, refl}
use Rattle.std.proofs.Common.{arith, sym, ap, ◌∙◌}
use Rattle.zq_base.specs.declared.endpoint.Endpoint.TheVariants.{Inproc, Tcp}
use Rattle.zq_base.specs.declared.ids.ObjId.{ObjId}
use Rattle.zq_base.specs.declared.ids.PairId.{PairId}
use Rattle.zq_base.specs.declared.ids.EndId.{EndId}
use Rattle.zq_base.specs.declared.ids.Settled.{Settled}
use Rattle.spec_control.specs.declared.end.EndEvent.TheVariants.{TermCame, DelimiterSeen, AckCame}
use Rattle.spec_control.specs.declared.stage.Stage.TheVariants.{Finished}
use Rattle.spec_control.specs.declared.letter.Word.{Word}
use Rattle.spec_control.specs.declared.letter.Word.TheVariants.{Own, Plug, TermReq, Term, TermAck, PipeBind, PipeTerm, PipeTermAck, Stop, Reap}
use Rattle.spec_control.specs.declared.request.Req.{Req}
use Rattle.spec_control.specs.declared.request.Req.TheVariants.{Socket as MakeSocket, AskTerm, Bind, Connect, Unbind, Disconnect, Close, Accepted, Shaken, AskEnd, AskOver, OutputOver}
use Rattle.spec_control.specs.declared.request.Reply.{Reply}
use Rattle.spec_control.specs.declared.request.Reply.TheVariants.{Done, Object, Pair as PairMade, Both, Wait, Asked as WasAsked, Before, Refused}
use Rattle.spec_control.specs.Stage.{was_asked, has_ended, is_ending}
use Rattle.spec_control.specs.Hold.{Bound, Joined, is_bind_to, is_connect_to}
use Rattle.spec_control.specs.EndpointBook.{is_fulfilled, without_first}
use Rattle.spec_control.specs.Register.{fulfilled_by, waiting_now}
use Rattle.spec_control.specs.PairPhase.{BindCame}
use Rattle.spec_control.specs.Row.{LinkEvent, OwnComes, PlugComes, TermComes, AsksOver, RequestComes, ReapComes, AckComes, RootAsked, StopComes}
use Rattle.spec_control.specs.Rows.{obj}
use Rattle.spec_control.specs.Control.{Control, id, end_of, with_value, next_object, next_pair, put, makes, draws, open_pair, owner_of, link, ends_of, tell_children, stop_sockets, happens, ask_all, attach}
use Rattle.spec_control.specs.After.{Answers, with_hold, named, binding_by, socket_row, listener_row, session_row, accepted_row, pair_or_none, owner_or_root, without_names, term_reason, term_delay, settle, processed, uses_reason, requested, answered}
use Rattle.control_laws.proofs.ListLemmas.{never}
use Rattle.spec_control.specs.declared.stage.Stage.{Stage}
use Rattle.spec_control.specs.declared.stage.Stage.TheVariants.{Alive, Told, Ending, Cleared}
use Rattle.spec_control.specs.declared.letter.Letter.{Letter}
use Rattle.spec_control.specs.declared.entry.Did.{Did}
use Rattle.spec_control.specs.declared.entry.Did.TheVariants.{Asked as DidAsk, Delivered, Delimited}
use Rattle.spec_control.specs.Stage.{is_alive, is_finished}
use Rattle.spec_control.specs.After.{answers_in, without_front, after}
use Rattle.spec_control.specs.Reply.{reply_of, root_asked}
use Rattle.spec_control.specs.ControlRun.{MayAsk, MayDeliver, Fits}
use Rattle.control_laws.specs.Coming.{MayCome}
use Rattle.run_laws.specs.EndOrder.{actor_of, asker_of}
use Rattle.run_laws.proofs.KeepLemmas.{Keeps, EndsOne, Out, keeps, ends, of_same, itself, keeps_more, out_more, link_keeps, makes_keeps, try_end_out, tell_where_keeps, tell_children_keeps, stop_sockets_keeps, happens_keeps, ask_keeps, ask_all_keeps, greeted, fulfil_all_keeps, strikes_keeps, connects_to_keeps, uses_reason_keeps}

plain_link : {e : LinkEvent} → (e ≡ AckComes → ⊥) → (i : ℕ) (c : Control) → Keeps c (link e i c)
plain_link {e} no_ack i c = link_keeps e i c (λ same. absurd (no_ack same))

own_no_ack : OwnComes ≡ AckComes → ⊥
own_no_ack e = Prim.grind arith

plug_no_ack : PlugComes ≡ AckComes → ⊥
plug_no_ack e = Prim.grind arith

term_no_ack : TermComes ≡ AckComes → ⊥
term_no_ack e = Prim.grind arith

over_no_ack : AsksOver ≡ AckComes → ⊥
over_no_ack e = Prim.grind arith

request_no_ack : RequestComes ≡ AckComes → ⊥
request_no_ack e = Prim.grind arith

reap_no_ack : ReapComes ≡ AckComes → ⊥
reap_no_ack e = Prim.grind arith

root_no_ack : RootAsked ≡ AckComes → ⊥
root_no_ack e = Prim.grind arith

stop_no_ack : StopComes ≡ AckComes → ⊥
stop_no_ack e = Prim.grind arith

settle_keeps : (e : EndId) (counts : Option Settled) (c : Control) → Keeps c (settle e counts c)
settle_keeps e None c = itself c
settle_keeps e (Some counts) c = of_same c _ refl refl

ended_of_finished : (s : Stage) → is_finished s ≡ true → has_ended s ≡ true
ended_of_finished Alive h = absurd (never h)
ended_of_finished Told h = absurd (never h)
ended_of_finished Ending h = absurd (never h)
ended_of_finished Finished h = refl
ended_of_finished Cleared h = refl

left_of : (a b : Bool) → (a && b) ≡ true → a ≡ true
left_of true b h = refl
left_of false b h = absurd (never h)

processed_out : (at : ℕ) (word : Word) (h : Answers) (c : Control) → MayCome c at word → Out at c (processed at word h c)
processed_out at (Own child) h c may = keeps (keeps_more (plain_link own_no_ack child.0 c) (tell_where_keeps (was_asked (obj c.rows at).stage) child.0 (link OwnComes child.0 c)))
processed_out at (Plug None) h c may = keeps (plain_link plug_no_ack at c)
processed_out at (Plug (Some e)) h c may =
    keeps (keeps_more (plain_link plug_no_ack at c) (greeted (h.kind e) e (link PlugComes at c) (attach BindCame e (link PlugComes at c)) refl refl))
processed_out at (TermReq child) h c may =
    keeps (keeps_more (plain_link request_no_ack child.0 c) (tell_where_keeps (not (was_asked (obj c.rows at).stage)) child.0 (link RequestComes child.0 c)))
processed_out at Term h c may =
    let told = link TermComes at c in
    let asked = without_names at told in
    let ends_asked = ask_all (term_reason (obj c.rows at).kind) (term_delay (obj c.rows at)) (ends_of at asked) asked in
    out_more (keeps_more (plain_link term_no_ack at c) (keeps_more (of_same told asked refl refl)
    (keeps_more (ask_all_keeps (term_reason (obj c.rows at).kind) (term_delay (obj c.rows at)) (ends_of at asked) asked) (tell_children_keeps (length ends_asked.rows.objects) at ends_asked))))
    (try_end_out at h.left (tell_children (length ends_asked.rows.objects) at ends_asked))
processed_out at (TermAck child) h c may =
    out_more (link_keeps AckComes child.0 c (λ e. ended_of_finished (obj c.rows child.0).stage (left_of (is_finished (obj c.rows child.0).stage) _ may.comes))) (try_end_out at h.left (link AckComes child.0 c))
processed_out at (PipeBind e peer) h c may = keeps (greeted (h.kind e) e c (attach BindCame e c) refl refl)
processed_out at (PipeTerm e) h c may = keeps (happens_keeps TermCame e c)
processed_out at (PipeTermAck e) h c may =
    out_more (keeps_more (happens_keeps AckCame e c) (settle_keeps e h.counts (happens AckCame e c))) (try_end_out at h.left (settle e h.counts (happens AckCame e c)))
processed_out at Stop h c may = keeps (plain_link stop_no_ack at c)
processed_out at (Reap socket) h c may =
    keeps (keeps_more (plain_link reap_no_ack socket.0 c) (of_same (link ReapComes socket.0 c) (put socket.0 Term (link ReapComes socket.0 c)) refl refl))

-- none ends in an event, or this one that lived until then
pub data EventOut (b : ℕ) (c d : Control) : Type 0 where
  none_ends : Keeps c d → EventOut b c d
  one_ends : EndsOne b c d → has_ended (obj c.rows b).stage ≡ false → EventOut b c d

with_living : (b : ℕ) (c d : Control) → Out b c d → has_ended (obj c.rows b).stage ≡ false → EventOut b c d
with_living b c d (keeps k) lives = none_ends k
with_living b c d (ends e) lives = one_ends e lives

alive_lives : (s : Stage) → not (is_alive s) ≡ false → has_ended s ≡ false
alive_lives Alive h = refl
alive_lives Told h = absurd (never (sym h))
alive_lives Ending h = absurd (never (sym h))
alive_lives Finished h = absurd (never (sym h))
alive_lives Cleared h = absurd (never (sym h))

ending_lives : (s : Stage) → is_ending s ≡ true → has_ended s ≡ false
ending_lives Alive h = absurd (never h)
ending_lives Told h = absurd (never h)
ending_lives Ending h = refl
ending_lives Finished h = absurd (never h)
ending_lives Cleared h = absurd (never h)

-- a request that may end an object: the root's asking, and that a session's output is over
abbrev pub may_end_one : Req → Bool
may_end_one (MakeSocket kind options) = false
may_end_one AskTerm = true
may_end_one (Bind o at) = false
may_end_one (Connect o at) = false
may_end_one (Unbind o at) = false
may_end_one (Disconnect o at) = false
may_end_one (Close o) = false
may_end_one (Accepted o) = false
may_end_one (Shaken o peer) = false
may_end_one (AskEnd e why) = false
may_end_one (AskOver o) = false
may_end_one (OutputOver o) = true

-- none ends in any other that is not refused
pub quiet_keeps : (req : Req) (h : Answers) (c : Control) → may_end_one req ≡ false → Keeps c (requested req h c)
quiet_keeps (MakeSocket kind options) h c quiet = keeps_more (makes_keeps (socket_row kind options c) c refl) (of_same (makes (socket_row kind options c) c) _ refl refl)
quiet_keeps AskTerm h c quiet = absurd (never (sym quiet))
quiet_keeps (Bind o (Inproc name)) h c quiet =
    let binding = binding_by o.0 c in
    let held = with_hold o.0 (Bound (Inproc name) None) (named o.0 (Inproc name) binding c) in
    let now = record held { names = waiting_now (filter (λ w. not (is_fulfilled (Inproc name) binding w)) held.names.waiting) held.names } in
    keeps_more (of_same c now refl refl) (fulfil_all_keeps o.0 (Inproc name) (fulfilled_by (Inproc name) binding c.names) h now)
quiet_keeps (Bind o (Tcp address)) h c quiet =
    let d = with_hold o.0 (Bound (Tcp address) (Some (next_object c))) (named o.0 (Tcp address) (binding_by o.0 c) c) in
    let made = makes (listener_row o.0 c) d in
    keeps_more (of_same c d refl refl) (keeps_more (makes_keeps (listener_row o.0 c) d refl) (of_same made _ refl refl))
quiet_keeps (Connect o (Inproc name)) h c quiet = connects_to_keeps o.0 (Inproc name) (c.names.held (Inproc name)) h c
quiet_keeps (Connect o (Tcp address)) h c quiet =
    let child = next_object c in
    let mine = end_of (next_pair c) true in
    let d = with_hold o.0 (Joined (Tcp address) (next_pair c) (Some child)) c in
    let made = makes (session_row o.0 c) d in
    let drawn = draws o.0 child made in
    keeps_more (of_same c d refl refl) (keeps_more (makes_keeps (session_row o.0 c) d refl)
    (greeted (h.kind mine) mine made (open_pair mine (Plug (Some (end_of (next_pair c) false))) (put o.0 (Own (id child)) drawn)) refl refl))
quiet_keeps (Unbind o at) h c quiet =
    let d = record c { holds = with_value o.0 (without_first (is_bind_to at) (c.holds o.0)) c.holds } in
    keeps_more (of_same c d refl refl) (strikes_keeps o.0 at (find (is_bind_to at) (c.holds o.0)) d)
quiet_keeps (Disconnect o at) h c quiet =
    let d = record c { holds = with_value o.0 (without_first (is_connect_to at) (c.holds o.0)) c.holds } in
    keeps_more (of_same c d refl refl) (strikes_keeps o.0 at (find (is_connect_to at) (c.holds o.0)) d)
quiet_keeps (Close o) h c quiet =
    let d = record c { closed = c.closed ++ o ∷ [] } in
    keeps_more (of_same c d refl refl) (keeps_more (plain_link over_no_ack o.0 d) (of_same (link AsksOver o.0 d) (put 0 (Reap o) (link AsksOver o.0 d)) refl refl))
quiet_keeps (Accepted o) h c quiet =
    let made = makes (accepted_row o.0 c) c in
    keeps_more (makes_keeps (accepted_row o.0 c) c refl) (of_same made _ refl refl)
quiet_keeps (Shaken o peer) h c quiet =
    let mine = end_of (pair_or_none (obj c.rows o.0).pair) true in
    greeted (h.kind mine) mine c (open_pair mine (PipeBind (end_of mine.pair.0 false) peer.identity) c) refl refl
quiet_keeps (AskEnd e why) h c quiet = keeps_more (uses_reason_keeps why (owner_of c e) c) (ask_keeps why false e (uses_reason why (owner_of c e) c))
quiet_keeps (AskOver o) h c quiet =
    keeps_more (plain_link over_no_ack o.0 c) (of_same (link AsksOver o.0 c) (put (owner_or_root (obj c.rows o.0).owner) (TermReq o) (link AsksOver o.0 c)) refl refl)
quiet_keeps (OutputOver o) h c quiet = absurd (never (sym quiet))

-- the one that a request may end lives
pub request_lives : (req : Req) (c : Control) → MayAsk c req → (req ≡ AskTerm → root_asked c ≡ false) → may_end_one req ≡ true → has_ended (obj c.rows (asker_of req)).stage ≡ false
request_lives AskTerm c may unasked one = alive_lives (obj c.rows 0).stage (unasked refl)
request_lives (OutputOver o) c may unasked one = ending_lives (obj c.rows o.0).stage (left_of (is_ending (obj c.rows o.0).stage) _ may.may)
request_lives (MakeSocket kind options) c may unasked one = absurd (never one)
request_lives (Bind o at) c may unasked one = absurd (never one)
request_lives (Connect o at) c may unasked one = absurd (never one)
request_lives (Unbind o at) c may unasked one = absurd (never one)
request_lives (Disconnect o at) c may unasked one = absurd (never one)
request_lives (Close o) c may unasked one = absurd (never one)
request_lives (Accepted o) c may unasked one = absurd (never one)
request_lives (Shaken o peer) c may unasked one = absurd (never one)
request_lives (AskEnd e why) c may unasked one = absurd (never one)
request_lives (AskOver o) c may unasked one = absurd (never one)

-- a request that is not refused and was not made before
requested_event : (req : Req) (h : Answers) (c : Control) → MayAsk c req → (req ≡ AskTerm → root_asked c ≡ false) → EventOut (asker_of req) c (requested req h c)
requested_event AskTerm h c may unasked =
    with_living 0 c _ (out_more (keeps_more (plain_link root_no_ack 0 c) (stop_sockets_keeps (length c.rows.objects) (link RootAsked 0 c)))
    (try_end_out 0 h.left (stop_sockets (length c.rows.objects) (link RootAsked 0 c)))) (request_lives AskTerm c may unasked refl)
requested_event (OutputOver o) h c may unasked = with_living o.0 c _ (try_end_out o.0 h.left c) (request_lives (OutputOver o) c may unasked refl)
requested_event (MakeSocket kind options) h c may unasked = none_ends (quiet_keeps (MakeSocket kind options) h c refl)
requested_event (Bind o at) h c may unasked = none_ends (quiet_keeps (Bind o at) h c refl)
requested_event (Connect o at) h c may unasked = none_ends (quiet_keeps (Connect o at) h c refl)
requested_event (Unbind o at) h c may unasked = none_ends (quiet_keeps (Unbind o at) h c refl)
requested_event (Disconnect o at) h c may unasked = none_ends (quiet_keeps (Disconnect o at) h c refl)
requested_event (Close o) h c may unasked = none_ends (quiet_keeps (Close o) h c refl)
requested_event (Accepted o) h c may unasked = none_ends (quiet_keeps (Accepted o) h c refl)
requested_event (Shaken o peer) h c may unasked = none_ends (quiet_keeps (Shaken o peer) h c refl)
requested_event (AskEnd e why) h c may unasked = none_ends (quiet_keeps (AskEnd e why) h c refl)
requested_event (AskOver o) h c may unasked = none_ends (quiet_keeps (AskOver o) h c refl)

done_before : Done ≡ Before → ⊥
done_before e = Prim.grind arith

object_before : {o : ObjId} → Object o ≡ Before → ⊥
object_before e = Prim.grind arith

pair_before : {p : PairId} → PairMade p ≡ Before → ⊥
pair_before e = Prim.grind arith

both_before : {o : ObjId} {p : PairId} → Both o p ≡ Before → ⊥
both_before e = Prim.grind arith

wait_before : Wait ≡ Before → ⊥
wait_before e = Prim.grind arith

asked_before : WasAsked ≡ Before → ⊥
asked_before e = Prim.grind arith

-- where the answer is not that it was asked before, the root that is asked was not
pub unasked_by : (req : Req) (reply : Reply) (c : Control) → reply ≡ reply_of c req → (reply ≡ Before → ⊥) → req ≡ AskTerm → root_asked c ≡ false
unasked_by req reply c e other same = by (root_asked c) refl (e ∙ ap (reply_of c) same)
  where
    by : (b : Bool) → root_asked c ≡ b → reply ≡ reply_of c AskTerm → root_asked c ≡ false
    by false h f = h
    by true h f = absurd (other (f ∙ ap (λ (b : Bool). if b then Before else WasAsked) h))

-- an answer names no refusal, and of the root's asking not that it was asked before
answered_event : (req : Req) (reply : Reply) (h : Answers) (c : Control) → MayAsk c req → reply ≡ reply_of c req → EventOut (asker_of req) c (answered req reply h c)
answered_event req Done h c may e = requested_event req h c may (unasked_by req Done c e (λ f. done_before f))
answered_event req (Object o) h c may e = requested_event req h c may (unasked_by req (Object o) c e (λ f. object_before f))
answered_event req (PairMade p) h c may e = requested_event req h c may (unasked_by req (PairMade p) c e (λ f. pair_before f))
answered_event req (Both o p) h c may e = requested_event req h c may (unasked_by req (Both o p) c e (λ f. both_before f))
answered_event req Wait h c may e = requested_event req h c may (unasked_by req Wait c e (λ f. wait_before f))
answered_event req WasAsked h c may e = requested_event req h c may (unasked_by req WasAsked c e (λ f. asked_before f))
answered_event req Before h c may e = none_ends (itself c)
answered_event req (Refused refusal) h c may e = none_ends (itself c)

-- a command keeps what it wants when it is taken out
same_may : (c : Control) (slot at : ℕ) (word : Word) → MayCome c at word → MayCome (without_front slot c) at word
same_may c slot at (Own child) m = record { comes = m.comes; owner = m.owner }
same_may c slot at (Plug None) m = m
same_may c slot at (Plug (Some e)) m = (m.0, record { comes = m.1.comes; owner = m.1.owner })
same_may c slot at (TermReq child) m = record { comes = m.comes; owner = m.owner }
same_may c slot at Term m = m
same_may c slot at (TermAck child) m = record { comes = m.comes; owner = m.owner }
same_may c slot at (PipeBind e peer) m = record { comes = m.comes; owner = m.owner }
same_may c slot at (PipeTerm e) m = record { comes = m.comes; owner = m.owner }
same_may c slot at (PipeTermAck e) m = record { comes = m.comes; owner = m.owner }
same_may c slot at Stop m = m
same_may c slot at (Reap socket) m = record { comes = m.comes; owner = m.owner }

-- what is so of a letter that is taken out: what it wants may happen, and its object lives
pub record MayBeTaken (c : Control) (letter : Letter) : Type 0 where
  pub comes : MayCome c letter.to.0 letter.word
  pub lives : has_ended (obj c.rows letter.to.0).stage ≡ false

-- none ends in an event that fits, or its object that lived
pub event_out : {N S : Type 0} (c : Control) (did : Did N S) → Fits c did → ((slot : ℕ) (letter : Letter) → MayDeliver c slot letter → MayBeTaken c letter) → EventOut (actor_of did) c (after did c)
event_out c (DidAsk req reply h) fits taken = answered_event req reply (answers_in h) c fits.may.0 fits.may.1
event_out c (Delivered slot letter h) fits taken =
    let t = taken slot.0 letter fits.may in
    with_living letter.to.0 c _
    (out_more (of_same c (without_front slot.0 c) refl refl) (processed_out letter.to.0 letter.word (answers_in h) (without_front slot.0 c) (same_may c slot.0 letter.to.0 letter.word t.comes))) t.lives
event_out c (Delimited e h) fits taken = none_ends (happens_keeps DelimiterSeen e c)
