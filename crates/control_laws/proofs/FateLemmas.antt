-- Messages are left in a pipe only where its reading end was asked.
use Rattle.std.specs.Prelude.{◌≡◌, ◌<◌, ◌&&◌, ℕ, zero, suc, Bool, true, false, not, List, [], ◌∷◌, Option, Some, None, if◌then◌else◌, All, IsSome, length, find, filter, refl}
use Rattle.std.proofs.Common.{arith, sym, ap, ◌∙◌, subst}
use Rattle.std.proofs.lemmas.Bool.{eq-eqb}
use Rattle.zq_base.specs.declared.endpoint.Endpoint.{Endpoint}
use Rattle.zq_base.specs.declared.endpoint.Endpoint.TheVariants.{Inproc, Tcp}
use Rattle.zq_base.specs.declared.ids.EndId.{EndId}
use Rattle.zq_base.specs.declared.ids.Settled.{Settled}
use Rattle.zq_base.specs.declared.attached.Attached.{Attached}
use Rattle.zq_base.specs.declared.attached.Attached.TheVariants.{Yes, BadId as IsBadId, Second as IsSecond}
use Rattle.spec_control.specs.declared.book.Binding.{Binding}
use Rattle.spec_control.specs.declared.book.Waiting.{Waiting}
use Rattle.spec_control.specs.declared.end.EndEvent.{EndEvent}
use Rattle.spec_control.specs.declared.end.EndEvent.TheVariants.{Asked, TermCame, DelimiterSeen, AckCame}
use Rattle.spec_control.specs.declared.end.EndCommands.{EndCommands}
use Rattle.spec_control.specs.declared.end.EndCommands.TheVariants.{Nothing, TermAndSeal, Ack, Settle, SettleAndAck}
use Rattle.spec_control.specs.declared.end.Reason.{Reason}
use Rattle.spec_control.specs.declared.end.Reason.TheVariants.{Closed, BadId, Second, Linger, Link}
use Rattle.spec_control.specs.declared.letter.Word.{Word}
use Rattle.spec_control.specs.declared.letter.Word.TheVariants.{Own, Plug, TermReq, Term, TermAck, PipeBind, PipeTerm, PipeTermAck, Stop, Reap}
use Rattle.spec_control.specs.declared.request.Req.{Req}
use Rattle.spec_control.specs.declared.request.Req.TheVariants.{Socket as MakeSocket, AskTerm, Bind, Connect, Unbind, Disconnect, Close, Accepted, Shaken, AskEnd, AskOver, OutputOver}
use Rattle.spec_control.specs.declared.request.Reply.{Reply}
use Rattle.spec_control.specs.declared.request.Reply.TheVariants.{Done, Object, Pair as PairMade, Both, Wait, Asked as WasAsked, Before, Refused}
use Rattle.spec_control.specs.declared.entry.Did.{Did}
use Rattle.spec_control.specs.declared.entry.Did.TheVariants.{Asked as DidAsk, Delivered, Delimited}
use Rattle.spec_control.specs.declared.entry.Item.{Item}
use Rattle.spec_control.specs.declared.entry.Item.TheVariants.{Event, Seen}
use Rattle.spec_control.specs.Stage.{was_asked}
use Rattle.spec_control.specs.Hold.{Hold, Bound, Waits, Joined, is_bind_to, is_connect_to, fulfil}
use Rattle.spec_control.specs.EndpointBook.{is_fulfilled, without_first}
use Rattle.spec_control.specs.Register.{fulfilled_by, waiting_now, without_holder}
use Rattle.spec_control.specs.Place.{Place, Unmade, Away, At, is_here, is_away}
use Rattle.spec_control.specs.PairPhase.{BindCame}
use Rattle.spec_control.specs.Row.{RootAsked, OwnComes, PlugComes, IsTold, TermComes, RequestComes, AckComes, StopPut, link_may}
use Rattle.spec_control.specs.Rows.{obj, is_owner, may_end}
use Rattle.spec_control.specs.Control.{Control, begun, is_end, same_side, id, end_of, with_value, next_object, next_pair, put, makes, draws, open_pair, place_of, owner_of, link, ends_of, tell_where, tell_children, stop_sockets, tell_other, commands_in, reason_in, happens, ask, ask_all, attach, greet, tell_owner, try_end}
use Rattle.spec_control.specs.After.{Answers, answers_in, with_hold, named, binding_by, session_row, pair_or_none, without_names, term_reason, term_delay, settle, processed, without_front, joins, fulfil_all, connects_to, tell_struck, strike_end, strikes, uses_reason, requested, answered, after}
use Rattle.spec_control.specs.ControlRun.{IsSettled, Settles, Fits, after_all, IsControlRun}
use Rattle.control_laws.proofs.ListLemmas.{never}
use Rattle.control_laws.proofs.JoinLemmas.{all_more}
use Rattle.control_laws.specs.Fate.{IsAccounted, RestOnlyWhereAsked}

-- nothing is settled between the two
abbrev pub Same : Control → Control → Type 0
Same c d = d.settlements ≡ c.settlements

one_or_other : (x : Bool) (c d e : Control) → Same c d → Same c e → Same c (if x then d else e)
one_or_other true c d e h k = h
one_or_other false c d e h k = k

tell_where_same : (wanted : Bool) (child : ℕ) (c : Control) → Same c (tell_where wanted child c)
tell_where_same wanted child c = one_or_other (wanted && link_may IsTold (obj c.rows child)) c _ c refl refl

tell_children_same : (n owner : ℕ) (c : Control) → Same c (tell_children n owner c)
tell_children_same zero owner c = refl
tell_children_same (suc n) owner c = let before = tell_children n owner c in tell_where_same (is_owner owner (obj before.rows n).owner && (obj before.rows n).noted) n before ∙ tell_children_same n owner c

stop_sockets_same : (n : ℕ) (c : Control) → Same c (stop_sockets n c)
stop_sockets_same zero c = refl
stop_sockets_same (suc n) c = let before = stop_sockets n c in one_or_other (link_may StopPut (obj before.rows n)) before _ before refl refl ∙ stop_sockets_same n c

tell_other_same : (cmds : EndCommands) (e : EndId) (c : Control) → Same c (tell_other cmds e c) × ((tell_other cmds e c).reasons ≡ c.reasons)
tell_other_same Nothing e c = (refl, refl)
tell_other_same TermAndSeal e c = (refl, refl)
tell_other_same Ack e c = (refl, refl)
tell_other_same Settle e c = (refl, refl)
tell_other_same SettleAndAck e c = (refl, refl)

pub happens_same : (event : EndEvent) (e : EndId) (c : Control) → Same c (happens event e c)
happens_same event e c = (tell_other_same (commands_in event (place_of c e)) e _).0

ask_same : (why : Reason) (delay : Bool) (e : EndId) (c : Control) → Same c (ask why delay e c)
ask_same why delay e c = one_or_other (is_here (place_of c e)) c _ c (happens_same (Asked why delay) e c) refl

ask_all_same : (why : Reason) (delay : Bool) (es : List EndId) (c : Control) → Same c (ask_all why delay es c)
ask_all_same why delay [] c = refl
ask_all_same why delay (e ∷ es) c = ask_all_same why delay es (ask why delay e c) ∙ ask_same why delay e c

greet_same : (kind : Attached) (e : EndId) (c : Control) → Same c (greet kind e c)
greet_same Yes e c = one_or_other (was_asked (obj c.rows (owner_of c e)).stage) c _ _ (ask_same Closed false e c) (one_or_other (c.struck e) c _ c (ask_same Closed false e c) refl)
greet_same IsBadId e c = ask_same BadId false e c
greet_same IsSecond e c = ask_same Second false e c

tell_owner_same : (owner : Option ℕ) (i : ℕ) (c : Control) → Same c (tell_owner owner i c)
tell_owner_same None i c = refl
tell_owner_same (Some owner) i c = refl

pub try_end_same : (i : ℕ) (left : Bool) (c : Control) → Same c (try_end i left c)
try_end_same i left c = one_or_other (may_end c.rows i) c _ _ (one_or_other left c _ _ refl (tell_owner_same (obj c.rows i).owner i _)) refl

joins_same : (connecting bound : ℕ) (a_first : Bool) (h : Answers) (c : Control) → Same c (joins connecting bound a_first h c)
joins_same connecting bound a_first h c =
    let first = end_of (next_pair c) a_first in
    let last = end_of (next_pair c) (not a_first) in
    let drawn = draws connecting bound c in
    greet_same (h.kind first) first (open_pair first (PipeBind last (obj c.rows (owner_of drawn first)).options.id) drawn)

fulfil_all_same : (i : ℕ) (at : Endpoint) (ws : List Waiting) (h : Answers) (c : Control) → Same c (fulfil_all i at ws h c)
fulfil_all_same i at [] h c = refl
fulfil_all_same i at (w ∷ ws) h c =
    let joined = joins w.waiter.0 i false h c in
    fulfil_all_same i at ws h (record joined { holds = with_value w.waiter.0 (fulfil at (next_pair c) (joined.holds w.waiter.0)) joined.holds }) ∙ joins_same w.waiter.0 i false h c

tell_struck_same : (i : ℕ) (child : Option ℕ) (c : Control) → Same c (tell_struck i child c)
tell_struck_same i None c = refl
tell_struck_same i (Some child) c = tell_where_same (is_owner i (obj c.rows child).owner) child c

strike_end_same : (i : ℕ) (e : EndId) (c : Control) → Same c (strike_end i e c)
strike_end_same i e c = one_or_other (is_away (place_of c e)) c _ _ refl (one_or_other _ c _ c (ask_same Closed false e c) refl)

strikes_same : (i : ℕ) (to : Endpoint) (hold : Option Hold) (c : Control) → Same c (strikes i to hold c)
strikes_same i to None c = refl
strikes_same i to (Some (Bound at listener)) c = tell_struck_same i listener (record c { names = without_holder to c.names })
strikes_same i to (Some (Waits at)) c = refl
strikes_same i to (Some (Joined at k session)) c = tell_struck_same i session (strike_end i (end_of k true) c) ∙ strike_end_same i (end_of k true) c

connects_to_same : (i : ℕ) (at : Endpoint) (b : Option Binding) (h : Answers) (c : Control) → Same c (connects_to i at b h c)
connects_to_same i at None h c = refl
connects_to_same i at (Some binding) h c = joins_same i binding.holder.0 true h (with_hold i (Joined at (next_pair c) None) c)

uses_reason_same : (why : Reason) (i : ℕ) (c : Control) → Same c (uses_reason why i c)
uses_reason_same Closed i c = refl
uses_reason_same BadId i c = refl
uses_reason_same Second i c = refl
uses_reason_same Linger i c = refl
uses_reason_same Link i c = refl

requested_same : (req : Req) (h : Answers) (c : Control) → Same c (requested req h c)
requested_same (MakeSocket kind options) h c = refl
requested_same AskTerm h c =
    try_end_same 0 h.left (stop_sockets (length c.rows.objects) (link RootAsked 0 c)) ∙ stop_sockets_same (length c.rows.objects) (link RootAsked 0 c)
requested_same (Bind o (Inproc name)) h c =
    let binding = binding_by o.0 c in
    let held = with_hold o.0 (Bound (Inproc name) None) (named o.0 (Inproc name) binding c) in
    fulfil_all_same o.0 (Inproc name) (fulfilled_by (Inproc name) binding c.names) h
    (record held { names = waiting_now (filter (λ w. not (is_fulfilled (Inproc name) binding w)) held.names.waiting) held.names })
requested_same (Bind o (Tcp address)) h c = refl
requested_same (Connect o (Inproc name)) h c = connects_to_same o.0 (Inproc name) (c.names.held (Inproc name)) h c
requested_same (Connect o (Tcp address)) h c =
    let child = next_object c in
    let mine = end_of (next_pair c) true in
    let made = draws o.0 child (makes (session_row o.0 c) (with_hold o.0 (Joined (Tcp address) (next_pair c) (Some child)) c)) in
    greet_same (h.kind mine) mine (open_pair mine (Plug (Some (end_of (next_pair c) false))) (put o.0 (Own (id child)) made))
requested_same (Unbind o at) h c = strikes_same o.0 at (find (is_bind_to at) (c.holds o.0)) (record c { holds = with_value o.0 (without_first (is_bind_to at) (c.holds o.0)) c.holds })
requested_same (Disconnect o at) h c = strikes_same o.0 at (find (is_connect_to at) (c.holds o.0)) (record c { holds = with_value o.0 (without_first (is_connect_to at) (c.holds o.0)) c.holds })
requested_same (Close o) h c = refl
requested_same (Accepted o) h c = refl
requested_same (Shaken o peer) h c =
    let mine = end_of (pair_or_none (obj c.rows o.0).pair) true in
    greet_same (h.kind mine) mine (open_pair mine (PipeBind (end_of mine.pair.0 false) peer.identity) c)
requested_same (AskEnd e why) h c = ask_same why false e (uses_reason why (owner_of c e) c) ∙ uses_reason_same why (owner_of c e) c
requested_same (AskOver o) h c = refl
requested_same (OutputOver o) h c = try_end_same o.0 h.left c

pub answered_same : (req : Req) (reply : Reply) (h : Answers) (c : Control) → Same c (answered req reply h c)
answered_same req Done h c = requested_same req h c
answered_same req (Object o) h c = requested_same req h c
answered_same req (PairMade p) h c = requested_same req h c
answered_same req (Both o p) h c = requested_same req h c
answered_same req Wait h c = requested_same req h c
answered_same req WasAsked h c = requested_same req h c
answered_same req Before h c = refl
answered_same req (Refused refusal) h c = refl

-- the settlements behind a command that is processed
abbrev Accounted : Control → Type 0
Accounted c = All IsAccounted c.settlements

still : (c d : Control) → Same c d → Accounted c → Accounted d
still c d same all = subst (All IsAccounted) (sym same) all

end_self : (e : EndId) → is_end e e ≡ true
end_self e = ap (λ (b : Bool). b && same_side e.a e.a) (eq-eqb e.pair.0 e.pair.0 refl) ∙ by e.a
  where
    by : (a : Bool) → same_side a a ≡ true
    by true = refl
    by false = refl

reason_stays : (place : Place) (reason : Option Reason) → reason_in AckCame place reason ≡ reason
reason_stays Unmade reason = refl
reason_stays Away reason = refl
reason_stays (At state) reason = refl

-- an acknowledgement leaves the reason as it was
reason_is : (e : EndId) (c : Control) → (happens AckCame e c).reasons e ≡ c.reasons e
reason_is e c =
    ap (λ (f : EndId → Option Reason). f e) (tell_other_same (commands_in AckCame (place_of c e)) e _).1
    ∙ ap (λ (b : Bool). if b then reason_in AckCame (place_of c e) (c.reasons e) else c.reasons e) (end_self e) ∙ reason_stays (place_of c e) (c.reasons e)

accounted : (e : EndId) (counts : Settled) (reason : Option Reason) → IsSettled reason counts → IsAccounted (record { end = e; counts = counts; reason = reason })
accounted e counts reason s = record { adds_up = s.adds_up; asked = by reason s.read_out }
  where
    by : (r : Option Reason) → (r ≡ None → counts.rest ≡ 0) → 0 < counts.rest → IsSome r
    by None none above = let zero_rest = none refl in absurd (omega (arith, zero_rest, above))
    by (Some why) none above = refl

-- a command that settles no pipe
abbrev pub settles_none : Word → Bool
settles_none (Own child) = true
settles_none (Plug end) = true
settles_none (TermReq child) = true
settles_none Term = true
settles_none (TermAck child) = true
settles_none (PipeBind e peer) = true
settles_none (PipeTerm e) = true
settles_none (PipeTermAck e) = false
settles_none Stop = true
settles_none (Reap socket) = true

pub processed_same : (at : ℕ) (word : Word) (h : Answers) (c : Control) → settles_none word ≡ true → Same c (processed at word h c)
processed_same at (Own child) h c none = tell_where_same (was_asked (obj c.rows at).stage) child.0 (link OwnComes child.0 c)
processed_same at (Plug None) h c none = refl
processed_same at (Plug (Some e)) h c none = greet_same (h.kind e) e (attach BindCame e (link PlugComes at c))
processed_same at (TermReq child) h c none = tell_where_same (not (was_asked (obj c.rows at).stage)) child.0 (link RequestComes child.0 c)
processed_same at Term h c none =
    let asked = without_names at (link TermComes at c) in
    let ends_asked = ask_all (term_reason (obj c.rows at).kind) (term_delay (obj c.rows at)) (ends_of at asked) asked in
    try_end_same at h.left (tell_children (length ends_asked.rows.objects) at ends_asked) ∙ tell_children_same (length ends_asked.rows.objects) at ends_asked
    ∙ ask_all_same (term_reason (obj c.rows at).kind) (term_delay (obj c.rows at)) (ends_of at asked) asked
processed_same at (TermAck child) h c none = try_end_same at h.left (link AckComes child.0 c)
processed_same at (PipeBind e peer) h c none = greet_same (h.kind e) e (attach BindCame e c)
processed_same at (PipeTerm e) h c none = happens_same TermCame e c
processed_same at (PipeTermAck e) h c none = absurd (never none)
processed_same at Stop h c none = refl
processed_same at (Reap socket) h c none = refl

processed_accounted : (at : ℕ) (word : Word) (h : Answers) (c : Control) → Settles c word h.counts → Accounted c → Accounted (processed at word h c)
processed_accounted at (PipeTermAck e) h c s all = by h.counts s
  where
    by : (counts : Option Settled) → Settles c (PipeTermAck e) counts → Accounted (try_end at h.left (settle e counts (happens AckCame e c)))
    by None s = absurd s
    by (Some counts) s =
        let heard = happens AckCame e c in
        still (settle e (Some counts) heard) (try_end at h.left (settle e (Some counts) heard)) (try_end_same at h.left (settle e (Some counts) heard))
        (all_more IsAccounted heard.settlements (record { end = e; counts = counts; reason = heard.reasons e }) (still c heard (happens_same AckCame e c) all)
        (accounted e counts (heard.reasons e) (subst (λ (r : Option Reason). IsSettled r counts) (sym (reason_is e c)) s)))
processed_accounted at (Own child) h c s all = still c (processed at (Own child) h c) (processed_same at (Own child) h c refl) all
processed_accounted at (Plug end) h c s all = still c (processed at (Plug end) h c) (processed_same at (Plug end) h c refl) all
processed_accounted at (TermReq child) h c s all = still c (processed at (TermReq child) h c) (processed_same at (TermReq child) h c refl) all
processed_accounted at Term h c s all = still c (processed at Term h c) (processed_same at Term h c refl) all
processed_accounted at (TermAck child) h c s all = still c (processed at (TermAck child) h c) (processed_same at (TermAck child) h c refl) all
processed_accounted at (PipeBind e peer) h c s all = still c (processed at (PipeBind e peer) h c) (processed_same at (PipeBind e peer) h c refl) all
processed_accounted at (PipeTerm e) h c s all = still c (processed at (PipeTerm e) h c) (processed_same at (PipeTerm e) h c refl) all
processed_accounted at Stop h c s all = still c (processed at Stop h c) (processed_same at Stop h c refl) all
processed_accounted at (Reap socket) h c s all = still c (processed at (Reap socket) h c) (processed_same at (Reap socket) h c refl) all

pub same_settles : (c : Control) (slot : ℕ) (word : Word) (counts : Option Settled) → Settles c word counts → Settles (without_front slot c) word counts
same_settles c slot (PipeTermAck e) (Some counts) s = s
same_settles c slot (PipeTermAck e) None s = s
same_settles c slot (Own child) counts s = s
same_settles c slot (Plug end) counts s = s
same_settles c slot (TermReq child) counts s = s
same_settles c slot Term counts s = s
same_settles c slot (TermAck child) counts s = s
same_settles c slot (PipeBind e peer) counts s = s
same_settles c slot (PipeTerm e) counts s = s
same_settles c slot Stop counts s = s
same_settles c slot (Reap socket) counts s = s

after_accounted : {N S : Type 0} (c : Control) (did : Did N S) → Fits c did → Accounted c → Accounted (after did c)
after_accounted c (DidAsk req reply h) fits all = still c (answered req reply (answers_in h) c) (answered_same req reply (answers_in h) c) all
after_accounted c (Delivered slot letter h) fits all = processed_accounted letter.to.0 letter.word (answers_in h) (without_front slot.0 c) (same_settles c slot.0 letter.word h.settled fits.answered.settled) all
after_accounted c (Delimited e h) fits all = still c (happens DelimiterSeen e c) (happens_same DelimiterSeen e c) all

run_accounted : {N S : Type 0} (items : List (Item N S)) (c : Control) → IsControlRun c items → Accounted c → Accounted (after_all items c)
run_accounted [] c run all = all
run_accounted (Event entry ∷ items) c run all = run_accounted items (after entry.did c) run.1 (after_accounted c entry.did run.0 all)
run_accounted (Seen sight ∷ items) c run all = run_accounted items c run.1 all

pub rest_only_where_asked : (N S : Type 0) → RestOnlyWhereAsked N S
rest_only_where_asked N S workers items run = run_accounted items (begun workers) run (λ k d within. absurd (below within))
  where
    below : {k : ℕ} → k < 0 → ⊥
    below g = omega arith
