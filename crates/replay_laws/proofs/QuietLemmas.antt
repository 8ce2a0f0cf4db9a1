-- Without sessions no object has output left.
use Rattle.std.specs.Prelude.{◌≡◌, ◌==◌, ◌&&◌, ℕ, zero, suc, Bool, true, false, not, List, [], ◌∷◌, Option, Some, None, filter, find, if◌then◌else◌, length, refl}
use Rattle.std.proofs.Common.{sym, ap, ◌∙◌}
use Rattle.zq_base.specs.declared.ids.Settled.{Settled}
use Rattle.zq_base.specs.declared.ids.EndId.{EndId}
use Rattle.zq_base.specs.declared.endpoint.Endpoint.{Endpoint}
use Rattle.zq_base.specs.declared.endpoint.Endpoint.TheVariants.{Inproc, Tcp}
use Rattle.zq_base.specs.declared.attached.Attached.{Attached}
use Rattle.zq_base.specs.declared.attached.Attached.TheVariants.{Yes, BadId as IsBadId, Second as IsSecond}
use Rattle.spec_control.specs.declared.book.Binding.{Binding}
use Rattle.spec_control.specs.declared.book.Waiting.{Waiting}
use Rattle.spec_control.specs.declared.end.EndEvent.{EndEvent}
use Rattle.spec_control.specs.declared.end.EndEvent.TheVariants.{Asked as AskedEnd, TermCame, DelimiterSeen, AckCame}
use Rattle.spec_control.specs.declared.end.EndCommands.{EndCommands}
use Rattle.spec_control.specs.declared.end.EndCommands.TheVariants.{Nothing, TermAndSeal, Ack, Settle, SettleAndAck}
use Rattle.spec_control.specs.declared.end.Reason.{Reason}
use Rattle.spec_control.specs.declared.end.Reason.TheVariants.{Closed, BadId, Second, Linger, Link}
use Rattle.spec_control.specs.declared.letter.Word.{Word}
use Rattle.spec_control.specs.declared.letter.Word.TheVariants.{Own, Plug, TermReq, Term, TermAck, PipeBind, PipeTerm, PipeTermAck, Stop, Reap}
use Rattle.spec_control.specs.declared.request.Req.{Req}
use Rattle.spec_control.specs.declared.request.Req.TheVariants.{Socket as MakeSocket, AskTerm, Bind, Connect, Unbind, Disconnect, Close, Accepted, Shaken, AskEnd, AskOver, OutputOver}
use Rattle.spec_control.specs.declared.request.Reply.{Reply}
use Rattle.spec_control.specs.declared.request.Reply.TheVariants.{Done, Object, Pair, Both, Wait, Asked as WasAsked, Before, Refused}
use Rattle.spec_control.specs.declared.entry.Answered.{Answered}
use Rattle.spec_control.specs.declared.entry.Did.{Did}
use Rattle.spec_control.specs.declared.entry.Did.TheVariants.{Asked, Delivered, Delimited}
use Rattle.spec_control.specs.Stage.{was_asked}
use Rattle.spec_control.specs.Hold.{Hold, Bound, Waits, Joined, fulfil, is_bind_to, is_connect_to}
use Rattle.spec_control.specs.EndpointBook.{is_fulfilled, without_first}
use Rattle.spec_control.specs.Register.{fulfilled_by, waiting_now, without_holder}
use Rattle.spec_control.specs.Place.{is_here, is_away}
use Rattle.spec_control.specs.PairPhase.{BindCame, Happens}
use Rattle.spec_control.specs.Row.{TermComes, OwnComes, RequestComes, AckComes, PlugComes, RootAsked, IsTold, StopPut, link_may, is_session}
use Rattle.spec_control.specs.Rows.{obj, is_owner, may_end}
use Rattle.spec_control.specs.Control.{Control, with_value, with_end, id, end_of, next_object, next_pair, put, makes, draws, attach, open_pair, place_of, owner_of, ends_of, link, moved, tell_where, tell_children, stop_sockets, tell_other, commands_in, reason_in, happens, ask, ask_all, greet, tell_owner, finish, try_end}
use Rattle.spec_control.specs.After.{Answers, answers_in, with_hold, named, binding_by, joins, fulfil_all, binds, connects_to, connects, session_row, tell_struck, strike_end, strikes, strikes_first, pair_or_none, uses_reason, requested, answered, settle, term_reason, term_delay, without_names, without_front, processed, after}
use Rattle.spec_control.specs.ControlRun.{Fits}
use Rattle.control_laws.proofs.ListLemmas.{never}

either : (b : Bool) (x y : Control) (o : ℕ → Bool) → x.output_left ≡ o → y.output_left ≡ o → (if b then x else y).output_left ≡ o
either true x y o p q = p
either false x y o p q = q

told_where : (wanted : Bool) (child : ℕ) (c : Control) → (tell_where wanted child c).output_left ≡ c.output_left
told_where wanted child c = either (wanted && link_may IsTold (obj c.rows child)) _ _ _ refl refl

told_children : (n owner : ℕ) (c : Control) → (tell_children n owner c).output_left ≡ c.output_left
told_children zero owner c = refl
told_children (suc n) owner c =
    let before : Control = tell_children n owner c in
    told_where (is_owner owner (obj before.rows n).owner && (obj before.rows n).noted) n before ∙ told_children n owner c

stopped : (n : ℕ) (c : Control) → (stop_sockets n c).output_left ≡ c.output_left
stopped zero c = refl
stopped (suc n) c = either (link_may StopPut (obj (stop_sockets n c).rows n)) _ _ _ refl refl ∙ stopped n c

told_other : (commands : EndCommands) (e : EndId) (c : Control) → (tell_other commands e c).output_left ≡ c.output_left
told_other Nothing e c = refl
told_other TermAndSeal e c = refl
told_other Ack e c = refl
told_other Settle e c = refl
told_other SettleAndAck e c = refl

happened : (event : EndEvent) (e : EndId) (c : Control) → (happens event e c).output_left ≡ c.output_left
happened event e c =
    told_other (commands_in event (place_of c e)) e (record (moved (Happens event) e c) { reasons = with_end e (reason_in event (place_of c e) (c.reasons e)) c.reasons })

asked_one : (reason : Reason) (delay : Bool) (e : EndId) (c : Control) → (ask reason delay e c).output_left ≡ c.output_left
asked_one reason delay e c = either (is_here (place_of c e)) _ _ _ (happened (AskedEnd reason delay) e c) refl

asked_all : (reason : Reason) (delay : Bool) (es : List EndId) (c : Control) → (ask_all reason delay es c).output_left ≡ c.output_left
asked_all reason delay [] c = refl
asked_all reason delay (e ∷ es) c = asked_all reason delay es (ask reason delay e c) ∙ asked_one reason delay e c

greeted : (kind : Attached) (e : EndId) (c : Control) → (greet kind e c).output_left ≡ c.output_left
greeted Yes e c = either (was_asked (obj c.rows (owner_of c e)).stage) _ _ _ (asked_one Closed false e c) (either (c.struck e) _ _ _ (asked_one Closed false e c) refl)
greeted IsBadId e c = asked_one BadId false e c
greeted IsSecond e c = asked_one Second false e c

told_owner : (owner : Option ℕ) (i : ℕ) (c : Control) → (tell_owner owner i c).output_left ≡ c.output_left
told_owner None i c = refl
told_owner (Some owner) i c = refl

joined : (h : Answers) (x y : ℕ) (a : Bool) (c : Control) → (joins x y a h c).output_left ≡ c.output_left
joined h x y a c =
    let first : EndId = end_of (next_pair c) a in
    let drawn : Control = draws x y c in
    greeted (h.kind first) first (open_pair first (PipeBind (end_of (next_pair c) (not a)) (obj c.rows (owner_of drawn first)).options.id) drawn)

fulfilled : (h : Answers) (i : ℕ) (at : Endpoint) (ws : List Waiting) (c : Control) → (fulfil_all i at ws h c).output_left ≡ c.output_left
fulfilled h i at [] c = refl
fulfilled h i at (w ∷ ws) c =
    let d : Control = joins w.waiter.0 i false h c in
    fulfilled h i at ws (record d { holds = with_value w.waiter.0 (fulfil at (next_pair c) (d.holds w.waiter.0)) d.holds }) ∙ joined h w.waiter.0 i false c

bound : (h : Answers) (i : ℕ) (at : Endpoint) (c : Control) → (binds i at h c).output_left ≡ c.output_left
bound h i (Inproc name) c =
    let at : Endpoint = Inproc name in
    let held : Control = with_hold i (Bound at None) (named i at (binding_by i c) c) in
    fulfilled h i at (fulfilled_by at (binding_by i c) c.names) (record held { names = waiting_now (filter (λ w. not (is_fulfilled at (binding_by i c) w)) held.names.waiting) held.names })
bound h i (Tcp address) c = refl

connected_to : (h : Answers) (i : ℕ) (at : Endpoint) (b : Option Binding) (c : Control) → (connects_to i at b h c).output_left ≡ c.output_left
connected_to h i at None c = refl
connected_to h i at (Some b) c = joined h i b.holder.0 true (with_hold i (Joined at (next_pair c) None) c)

connected : (h : Answers) (i : ℕ) (at : Endpoint) (c : Control) → (connects i at h c).output_left ≡ c.output_left
connected h i (Inproc name) c = connected_to h i (Inproc name) (c.names.held (Inproc name)) c
connected h i (Tcp address) c =
    let at : Endpoint = Tcp address in
    let child : ℕ = next_object c in
    let mine : EndId = end_of (next_pair c) true in
    let made : Control = draws i child (makes (session_row i c) (with_hold i (Joined at (next_pair c) (Some child)) c)) in
    greeted (h.kind mine) mine (open_pair mine (Plug (Some (end_of (next_pair c) false))) (put i (Own (id child)) made))

told_struck : (i : ℕ) (child : Option ℕ) (c : Control) → (tell_struck i child c).output_left ≡ c.output_left
told_struck i None c = refl
told_struck i (Some child) c = told_where (is_owner i (obj c.rows child).owner) child c

struck_end : (i : ℕ) (e : EndId) (c : Control) → (strike_end i e c).output_left ≡ c.output_left
struck_end i e c = either (is_away (place_of c e)) _ _ _ refl (either (owner_of c e == i) _ _ _ (asked_one Closed false e c) refl)

struck_hold : (i : ℕ) (to : Endpoint) (hold : Option Hold) (c : Control) → (strikes i to hold c).output_left ≡ c.output_left
struck_hold i to None c = refl
struck_hold i to (Some (Bound at listener)) c = told_struck i listener (record c { names = without_holder to c.names })
struck_hold i to (Some (Waits at)) c = refl
struck_hold i to (Some (Joined at k session)) c = told_struck i session (strike_end i (end_of k true) c) ∙ struck_end i (end_of k true) c

used_reason : (reason : Reason) (i : ℕ) (c : Control) → (uses_reason reason i c).output_left ≡ c.output_left
used_reason Closed i c = refl
used_reason BadId i c = refl
used_reason Second i c = refl
used_reason Linger i c = refl
used_reason Link i c = refl

-- ---- no object has output left
abbrev pub IsQuiet : Control → Type 0
IsQuiet c = (i : ℕ) → c.output_left i ≡ false

quiet_as : (c d : Control) → d.output_left ≡ c.output_left → IsQuiet c → IsQuiet d
quiet_as c d e quiet i = ap (λ (f : ℕ → Bool). f i) e ∙ quiet i

tried_quiet : (i : ℕ) (left : Bool) (c : Control) → left ≡ false → IsQuiet c → IsQuiet (try_end i left c)
tried_quiet i left c none quiet j =
    ap (λ (f : ℕ → Bool). f j) (either (may_end c.rows i) _ _ (with_value i left c.output_left) (either left _ _ (with_value i left c.output_left) refl (finished (record c { output_left = with_value i left c.output_left }))) refl)
    ∙ by (j == i)
  where
    finished : (d : Control) → (finish i d).output_left ≡ d.output_left
    finished d = told_owner (obj d.rows i).owner i _

    by : (b : Bool) → (if b then left else c.output_left j) ≡ false
    by true = none
    by false = quiet j

settled_quiet : (e : EndId) (counts : Option Settled) (c : Control) → (settle e counts c).output_left ≡ c.output_left
settled_quiet e None c = refl
settled_quiet e (Some counts) c = refl

requested_quiet : (req : Req) (h : Answers) (c : Control) → h.left ≡ false → IsQuiet c → IsQuiet (requested req h c)
requested_quiet (MakeSocket kind options) h c none quiet = quiet
requested_quiet AskTerm h c none quiet =
    let told : Control = stop_sockets (length c.rows.objects) (link RootAsked 0 c) in
    tried_quiet 0 h.left told none (quiet_as c told (stopped (length c.rows.objects) (link RootAsked 0 c)) quiet)
requested_quiet (Bind o at) h c none quiet = quiet_as c (binds o.0 at h c) (bound h o.0 at c) quiet
requested_quiet (Connect o at) h c none quiet = quiet_as c (connects o.0 at h c) (connected h o.0 at c) quiet
requested_quiet (Unbind o at) h c none quiet =
    quiet_as c (strikes_first o.0 at (is_bind_to at) c) (struck_hold o.0 at (find (is_bind_to at) (c.holds o.0)) (record c { holds = with_value o.0 (without_first (is_bind_to at) (c.holds o.0)) c.holds })) quiet
requested_quiet (Disconnect o at) h c none quiet =
    quiet_as c (strikes_first o.0 at (is_connect_to at) c) (struck_hold o.0 at (find (is_connect_to at) (c.holds o.0)) (record c { holds = with_value o.0 (without_first (is_connect_to at) (c.holds o.0)) c.holds })) quiet
requested_quiet (Close o) h c none quiet = quiet
requested_quiet (Accepted o) h c none quiet = quiet
requested_quiet (Shaken o peer) h c none quiet =
    let mine : EndId = end_of (pair_or_none (obj c.rows o.0).pair) true in
    let opened : Control = open_pair mine (PipeBind (end_of mine.pair.0 false) peer.identity) c in
    quiet_as c (greet (h.kind mine) mine opened) (greeted (h.kind mine) mine opened) quiet
requested_quiet (AskEnd e reason) h c none quiet =
    let used : Control = uses_reason reason (owner_of c e) c in
    quiet_as c (ask reason false e used) (asked_one reason false e used ∙ used_reason reason (owner_of c e) c) quiet
requested_quiet (AskOver o) h c none quiet = quiet
requested_quiet (OutputOver o) h c none quiet = tried_quiet o.0 h.left c none quiet

answered_quiet : (req : Req) (reply : Reply) (h : Answers) (c : Control) → h.left ≡ false → IsQuiet c → IsQuiet (answered req reply h c)
answered_quiet req Done h c none quiet = requested_quiet req h c none quiet
answered_quiet req (Object o) h c none quiet = requested_quiet req h c none quiet
answered_quiet req (Pair p) h c none quiet = requested_quiet req h c none quiet
answered_quiet req (Both o p) h c none quiet = requested_quiet req h c none quiet
answered_quiet req Wait h c none quiet = requested_quiet req h c none quiet
answered_quiet req WasAsked h c none quiet = requested_quiet req h c none quiet
answered_quiet req Before h c none quiet = quiet
answered_quiet req (Refused refusal) h c none quiet = quiet

processed_quiet : (at : ℕ) (word : Word) (h : Answers) (c : Control) → h.left ≡ false → IsQuiet c → IsQuiet (processed at word h c)
processed_quiet at (Own child) h c none quiet = quiet_as c (processed at (Own child) h c) (told_where (was_asked (obj c.rows at).stage) child.0 (link OwnComes child.0 c)) quiet
processed_quiet at (Plug None) h c none quiet = quiet
processed_quiet at (Plug (Some e)) h c none quiet = quiet_as c (processed at (Plug (Some e)) h c) (greeted (h.kind e) e (attach BindCame e (link PlugComes at c))) quiet
processed_quiet at (TermReq child) h c none quiet = quiet_as c (processed at (TermReq child) h c) (told_where (not (was_asked (obj c.rows at).stage)) child.0 (link RequestComes child.0 c)) quiet
processed_quiet at Term h c none quiet =
    let asked : Control = without_names at (link TermComes at c) in
    let why = term_reason (obj c.rows at).kind in
    let delay = term_delay (obj c.rows at) in
    let ends_asked : Control = ask_all why delay (ends_of at asked) asked in
    let told : Control = tell_children (length ends_asked.rows.objects) at ends_asked in
    tried_quiet at h.left told none (quiet_as c told (told_children (length ends_asked.rows.objects) at ends_asked ∙ asked_all why delay (ends_of at asked) asked) quiet)
processed_quiet at (TermAck child) h c none quiet = tried_quiet at h.left (link AckComes child.0 c) none quiet
processed_quiet at (PipeBind e peer) h c none quiet = quiet_as c (processed at (PipeBind e peer) h c) (greeted (h.kind e) e (attach BindCame e c)) quiet
processed_quiet at (PipeTerm e) h c none quiet = quiet_as c (happens TermCame e c) (happened TermCame e c) quiet
processed_quiet at (PipeTermAck e) h c none quiet =
    let over : Control = settle e h.counts (happens AckCame e c) in
    tried_quiet at h.left over none (quiet_as c over (settled_quiet e h.counts (happens AckCame e c) ∙ happened AckCame e c) quiet)
processed_quiet at Stop h c none quiet = quiet
processed_quiet at (Reap socket) h c none quiet = quiet

module _ {N S : Type 0} where
  none_left : (c : Control) (slot : ℕ) (g : Answered N S) (session : Bool) → (g.output_left ≡ true → session ≡ true) → session ≡ false → g.output_left ≡ false
  none_left c slot g session leaves none = by g.output_left refl
    where
      by : (b : Bool) → g.output_left ≡ b → b ≡ false
      by true e = absurd (never (sym (sym (leaves e) ∙ none)))
      by false e = refl

  -- where no object is a session, an event leaves none with output left
  pub did_quiet : (c : Control) (did : Did N S) → Fits c did → ((i : ℕ) → is_session (obj c.rows i).kind ≡ false) → IsQuiet c → IsQuiet (after did c)
  did_quiet c (Asked req reply h) fits none quiet = answered_quiet req reply (answers_in h) c fits.answered.output quiet
  did_quiet c (Delivered slot letter h) fits none quiet =
      processed_quiet letter.to.0 letter.word (answers_in h) (without_front slot.0 c) (none_left c slot.0 h (is_session (obj c.rows letter.to.0).kind) (λ left. (fits.answered.output left).0) (none letter.to.0)) quiet
  did_quiet c (Delimited e h) fits none quiet = quiet_as c (happens DelimiterSeen e c) (happened DelimiterSeen e c) quiet
