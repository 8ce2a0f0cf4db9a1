-- Which connects wait behind an event: no more than before, but for those that it lets wait.
use Rattle.std.specs.Prelude.{◌≡◌, ◌≤◌, ◌+◌, ◌==◌, ◌&&◌, ℕ, zero, suc, Bool, true, false, cond, not, List, [], ◌∷◌, Option, Some, None, filter, find, if◌then◌else◌, length, option_to_list, refl}
use Rattle.std.proofs.Common.{arith, sym, ap, ◌∙◌, length-append}
use Rattle.zq_base.specs.declared.attached.Attached.{Attached}
use Rattle.zq_base.specs.declared.attached.Attached.TheVariants.{Yes, BadId as IsBadId, Second as IsSecond}
use Rattle.zq_base.specs.declared.endpoint.Endpoint.{Endpoint}
use Rattle.zq_base.specs.declared.endpoint.Endpoint.TheVariants.{Inproc}
use Rattle.zq_base.specs.declared.options.Peer.{Peer}
use Rattle.zq_base.specs.declared.ids.EndId.{EndId}
use Rattle.zq_base.specs.declared.ids.Settled.{Settled}
use Rattle.spec_control.specs.declared.book.Binding.{Binding}
use Rattle.spec_control.specs.declared.book.Waiting.{Waiting}
use Rattle.spec_control.specs.declared.end.EndCommands.{EndCommands}
use Rattle.spec_control.specs.declared.end.EndCommands.TheVariants.{Nothing, TermAndSeal, Ack, Settle, SettleAndAck}
use Rattle.spec_control.specs.declared.end.EndEvent.{EndEvent}
use Rattle.spec_control.specs.declared.end.EndEvent.TheVariants.{Asked as EndAsked, TermCame, AckCame}
use Rattle.spec_control.specs.declared.end.Reason.{Reason}
use Rattle.spec_control.specs.declared.end.Reason.TheVariants.{Closed, BadId, Second, Linger, Link}
use Rattle.spec_control.specs.declared.letter.Word.{Word}
use Rattle.spec_control.specs.declared.letter.Word.TheVariants.{Own, Plug, TermReq, Term, TermAck, PipeBind, PipeTerm, PipeTermAck, Stop, Reap}
use Rattle.spec_control.specs.declared.request.Req.{Req}
use Rattle.spec_control.specs.declared.request.Req.TheVariants.{Socket as MakeSocket, AskTerm, Bind, Connect, Unbind, Disconnect, Close, Accepted, Shaken, AskEnd, AskOver, OutputOver}
use Rattle.spec_control.specs.EndpointBook.{is_fulfilled, is_connect_of, is_waiter, without_first}
use Rattle.spec_control.specs.Hold.{Hold, Bound, Waits, Joined, is_bind_to, is_connect_to, fulfil}
use Rattle.spec_control.specs.PairPhase.{BindCame}
use Rattle.spec_control.specs.Place.{is_away, is_here}
use Rattle.spec_control.specs.Register.{Register, fulfilled_by, waiting_now, without_holder}
use Rattle.spec_control.specs.Row.{IsTold, RootAsked, StopPut, TermComes, AckComes, OwnComes, PlugComes, RequestComes, link_may}
use Rattle.spec_control.specs.Rows.{obj, is_owner, may_end}
use Rattle.spec_control.specs.Control.{Control, id, end_of, with_value, with_end, next_pair, put, link, tell_where, tell_children, stop_sockets, tell_other, commands_in, place_of, owner_of, happens, ask, ask_all, attach, open_pair, greet, ends_of, tell_owner, finish, try_end}
use Rattle.spec_control.specs.After.{Answers, kind_of, pair_or_none, settle, term_reason, term_delay, without_names, processed, with_hold, named, joins, fulfil_all, binding_by, binds, connects_to, tell_struck, strike_end, strikes, strikes_first, shakes, uses_reason, requested}
use Rattle.spec_control.specs.Stage.{was_asked}
use Rattle.replay_laws.specs.Local.{is_local}
use Rattle.control_laws.proofs.ListLemmas.{never}

-- ---- what leaves the names as they are

tell_where_names : (wanted : Bool) (child : ℕ) (c : Control) → (tell_where wanted child c).names ≡ c.names
tell_where_names wanted child c = by (wanted && link_may IsTold (obj c.rows child))
  where
    by : (b : Bool) → (if b then put child Term (link IsTold child c) else c).names ≡ c.names
    by true = refl
    by false = refl

tell_children_names : (n owner : ℕ) (c : Control) → (tell_children n owner c).names ≡ c.names
tell_children_names zero owner c = refl
tell_children_names (suc n) owner c = let before = tell_children n owner c in tell_where_names (is_owner owner (obj before.rows n).owner && (obj before.rows n).noted) n before ∙ tell_children_names n owner c

stop_sockets_names : (n : ℕ) (c : Control) → (stop_sockets n c).names ≡ c.names
stop_sockets_names zero c = refl
stop_sockets_names (suc n) c = by (stop_sockets n c) (link_may StopPut (obj (stop_sockets n c).rows n)) ∙ stop_sockets_names n c
  where
    by : (d : Control) (b : Bool) → (if b then put n Stop (link StopPut n d) else d).names ≡ d.names
    by d true = refl
    by d false = refl

tell_other_names : (commands : EndCommands) (e : EndId) (c : Control) → (tell_other commands e c).names ≡ c.names
tell_other_names Nothing e c = refl
tell_other_names TermAndSeal e c = refl
tell_other_names Ack e c = refl
tell_other_names Settle e c = refl
tell_other_names SettleAndAck e c = refl

pub happens_names : (event : EndEvent) (e : EndId) (c : Control) → (happens event e c).names ≡ c.names
happens_names event e c = tell_other_names (commands_in event (place_of c e)) e _

ask_names : (why : Reason) (delay : Bool) (e : EndId) (c : Control) → (ask why delay e c).names ≡ c.names
ask_names why delay e c = by (is_here (place_of c e))
  where
    by : (b : Bool) → (if b then happens (EndAsked why delay) e c else c).names ≡ c.names
    by true = happens_names (EndAsked why delay) e c
    by false = refl

ask_all_names : (why : Reason) (delay : Bool) (es : List EndId) (c : Control) → (ask_all why delay es c).names ≡ c.names
ask_all_names why delay [] c = refl
ask_all_names why delay (e ∷ es) c = ask_all_names why delay es (ask why delay e c) ∙ ask_names why delay e c

greet_names : (kind : Attached) (e : EndId) (c : Control) → (greet kind e c).names ≡ c.names
greet_names Yes e c = by (was_asked (obj c.rows (owner_of c e)).stage) (c.struck e)
  where
    by : (a b : Bool) → (if a then ask Closed false e c else (if b then ask Closed false e c else c)).names ≡ c.names
    by true b = ask_names Closed false e c
    by false true = ask_names Closed false e c
    by false false = refl
greet_names IsBadId e c = ask_names BadId false e c
greet_names IsSecond e c = ask_names Second false e c

tell_owner_names : (owner : Option ℕ) (i : ℕ) (c : Control) → (tell_owner owner i c).names ≡ c.names
tell_owner_names None i c = refl
tell_owner_names (Some owner) i c = refl

try_end_names : (i : ℕ) (out : Bool) (c : Control) → (try_end i out c).names ≡ c.names
try_end_names i out c = by (may_end c.rows i) out
  where
    now : Control
    now = record c { output_left = with_value i out c.output_left }

    by : (a b : Bool) → (if a then (if b then now else finish i now) else now).names ≡ c.names
    by true true = refl
    by true false = tell_owner_names (obj now.rows i).owner i _
    by false b = refl

settle_names : (e : EndId) (counts : Option Settled) (c : Control) → (settle e counts c).names ≡ c.names
settle_names e None c = refl
settle_names e (Some counts) c = refl

joins_names : (x y : ℕ) (a : Bool) (h : Answers) (c : Control) → (joins x y a h c).names ≡ c.names
joins_names x y a h c = greet_names (h.kind (end_of (next_pair c) a)) (end_of (next_pair c) a) _

fulfil_all_names : (i : ℕ) (at : Endpoint) (ws : List Waiting) (h : Answers) (c : Control) → (fulfil_all i at ws h c).names ≡ c.names
fulfil_all_names i at [] h c = refl
fulfil_all_names i at (w ∷ ws) h c =
    let joined = joins w.waiter.0 i false h c in
    fulfil_all_names i at ws h (record joined { holds = with_value w.waiter.0 (fulfil at (next_pair c) (joined.holds w.waiter.0)) joined.holds }) ∙ joins_names w.waiter.0 i false h c

tell_struck_names : (i : ℕ) (child : Option ℕ) (c : Control) → (tell_struck i child c).names ≡ c.names
tell_struck_names i None c = refl
tell_struck_names i (Some child) c = tell_where_names (is_owner i (obj c.rows child).owner) child c

strike_end_names : (i : ℕ) (e : EndId) (c : Control) → (strike_end i e c).names ≡ c.names
strike_end_names i e c = by (is_away (place_of c e)) (owner_of c e == i)
  where
    by : (a b : Bool) → (if a then record c { struck = with_end e true c.struck } else (if b then ask Closed false e c else c)).names ≡ c.names
    by true b = refl
    by false true = ask_names Closed false e c
    by false false = refl

shakes_names : (i : ℕ) (peer : Peer) (h : Answers) (c : Control) → (shakes i peer h c).names ≡ c.names
shakes_names i peer h c =
    let mine = end_of (pair_or_none (obj c.rows i).pair) true in
    greet_names (h.kind mine) mine (open_pair mine (PipeBind (end_of mine.pair.0 false) peer.identity) c)

-- ---- how many connects wait

abbrev pub waits : Control → ℕ
waits c = length c.names.waiting

abbrev pub waiting_count : Register → ℕ
waiting_count r = length r.waiting

fewer : {X : Type 0} (test : X → Bool) (xs : List X) → length (filter test xs) ≤ length xs
fewer test [] = omega arith
fewer test (x ∷ xs) = by (test x) (fewer test xs)
  where
    by : (b : Bool) → length (filter test xs) ≤ length xs → length (cond b (x ∷ filter test xs) (filter test xs)) ≤ length (x ∷ xs)
    by true le = omega (arith, le)
    by false le = omega (arith, le)

-- those that pass and those that do not
all_there : {X : Type 0} (test : X → Bool) (xs : List X) → length (filter test xs) + length (filter (λ x. not (test x)) xs) ≡ length xs
all_there test [] = omega arith
all_there test (x ∷ xs) = by (test x) (all_there test xs)
  where
    by : (b : Bool) → length (filter test xs) + length (filter (λ x. not (test x)) xs) ≡ length xs
        → length (cond b (x ∷ filter test xs) (filter test xs)) + length (cond (not b) (x ∷ filter (λ x. not (test x)) xs) (filter (λ x. not (test x)) xs)) ≡ length (x ∷ xs)
    by true e = omega (arith, e)
    by false e = omega (arith, e)

without_few : {X : Type 0} (test : X → Bool) (xs : List X) → length (without_first test xs) ≤ length xs
without_few test [] = omega arith
without_few test (x ∷ xs) = by (test x) (without_few test xs)
  where
    by : (b : Bool) → length (without_first test xs) ≤ length xs → length (if b then xs else x ∷ without_first test xs) ≤ length (x ∷ xs)
    by true le = omega arith
    by false le = omega (arith, le)

-- ---- behind a command

pub word_waits : (at : ℕ) (word : Word) (h : Answers) (c : Control) → waits (processed at word h c) ≤ waits c
word_waits at (Own child) h c = let same = ap waiting_count (tell_where_names (was_asked (obj c.rows at).stage) child.0 (link OwnComes child.0 c)) in omega (arith, same)
word_waits at (Plug None) h c = omega arith
word_waits at (Plug (Some e)) h c = let same = ap waiting_count (greet_names (h.kind e) e (attach BindCame e (link PlugComes at c))) in omega (arith, same)
word_waits at (TermReq child) h c = let same = ap waiting_count (tell_where_names (not (was_asked (obj c.rows at).stage)) child.0 (link RequestComes child.0 c)) in omega (arith, same)
word_waits at Term h c =
    let asked = without_names at (link TermComes at c) in
    let ends_asked = ask_all (term_reason (obj c.rows at).kind) (term_delay (obj c.rows at)) (ends_of at asked) asked in
    let told = tell_children (length ends_asked.rows.objects) at ends_asked in
    let same = ap waiting_count (try_end_names at h.left told ∙ (tell_children_names (length ends_asked.rows.objects) at ends_asked ∙ ask_all_names (term_reason (obj c.rows at).kind) (term_delay (obj c.rows at)) (ends_of at asked) asked)) in
    let few = fewer (λ w. not (is_waiter (id at) w)) c.names.waiting in omega (arith, same, few)
word_waits at (TermAck child) h c = let same = ap waiting_count (try_end_names at h.left (link AckComes child.0 c)) in omega (arith, same)
word_waits at (PipeBind e peer) h c = let same = ap waiting_count (greet_names (h.kind e) e (attach BindCame e c)) in omega (arith, same)
word_waits at (PipeTerm e) h c = let same = ap waiting_count (happens_names TermCame e c) in omega (arith, same)
word_waits at (PipeTermAck e) h c =
    let met = happens AckCame e c in
    let same = ap waiting_count (try_end_names at h.left (settle e h.counts met) ∙ (settle_names e h.counts met ∙ happens_names AckCame e c)) in omega (arith, same)
word_waits at Stop h c = omega arith
word_waits at (Reap socket) h c = omega arith

-- ---- behind a request

strikes_wait : (i : ℕ) (to : Endpoint) (hold : Option Hold) (c : Control) → waits (strikes i to hold c) ≤ waits c
strikes_wait i to None c = omega arith
strikes_wait i to (Some (Bound at listener)) c = let same = ap waiting_count (tell_struck_names i listener (record c { names = without_holder to c.names })) in omega (arith, same)
strikes_wait i to (Some (Waits at)) c = without_few (is_connect_of (id i) to) c.names.waiting
strikes_wait i to (Some (Joined at k session)) c =
    let same = ap waiting_count (tell_struck_names i session (strike_end i (end_of k true) c) ∙ strike_end_names i (end_of k true) c) in omega (arith, same)

strikes_first_wait : (i : ℕ) (to : Endpoint) (test : Hold → Bool) (c : Control) → waits (strikes_first i to test c) ≤ waits c
strikes_first_wait i to test c = strikes_wait i to (find test (c.holds i)) (record c { holds = with_value i (without_first test (c.holds i)) c.holds })

-- a bind takes those that it fulfils from those that wait
pub bind_waits : (i : ℕ) (name : List ℕ) (h : Answers) (c : Control) → waits (binds i (Inproc name) h c) + length (fulfilled_by (Inproc name) (binding_by i c) c.names) ≡ waits c
bind_waits i name h c =
    let at : Endpoint = Inproc name in
    let binding = binding_by i c in
    let held = with_hold i (Bound at None) (named i at binding c) in
    let same = ap waiting_count (fulfil_all_names i at (fulfilled_by at binding c.names) h (record held { names = waiting_now (filter (λ w. not (is_fulfilled at binding w)) held.names.waiting) held.names })) in
    let all = all_there (is_fulfilled at binding) c.names.waiting in omega (arith, same, all)

-- a connect waits where nobody holds the name
pub connect_waits : (i : ℕ) (at : Endpoint) (held : Option Binding) (h : Answers) (c : Control) → waits (connects_to i at held h c) + length (option_to_list held) ≡ waits c + 1
connect_waits i at None h c =
    let more = length-append c.names.waiting (record { at = at; waiter = id i; kind = kind_of (obj c.rows i).kind } ∷ []) in omega (arith, more)
connect_waits i at (Some binding) h c = let same = ap waiting_count (joins_names i binding.holder.0 true h (with_hold i (Joined at (next_pair c) None) c)) in omega (arith, same)

-- a request that binds, and one that connects
abbrev pub is_bind : Req → Bool
is_bind (MakeSocket kind options) = false
is_bind AskTerm = false
is_bind (Bind o at) = true
is_bind (Connect o at) = false
is_bind (Unbind o at) = false
is_bind (Disconnect o at) = false
is_bind (Close o) = false
is_bind (Accepted o) = false
is_bind (Shaken o peer) = false
is_bind (AskEnd e reason) = false
is_bind (AskOver o) = false
is_bind (OutputOver o) = false

abbrev pub is_connect : Req → Bool
is_connect (MakeSocket kind options) = false
is_connect AskTerm = false
is_connect (Bind o at) = false
is_connect (Connect o at) = true
is_connect (Unbind o at) = false
is_connect (Disconnect o at) = false
is_connect (Close o) = false
is_connect (Accepted o) = false
is_connect (Shaken o peer) = false
is_connect (AskEnd e reason) = false
is_connect (AskOver o) = false
is_connect (OutputOver o) = false

-- any other request without tcp
pub request_waits : (req : Req) (h : Answers) (c : Control) → is_local req ≡ true → is_bind req ≡ false → is_connect req ≡ false → waits (requested req h c) ≤ waits c
request_waits (MakeSocket kind options) h c is b k = omega arith
request_waits AskTerm h c is b k =
    let asked = link RootAsked 0 c in
    let same = ap waiting_count (try_end_names 0 h.left (stop_sockets (length c.rows.objects) asked) ∙ stop_sockets_names (length c.rows.objects) asked) in omega (arith, same)
request_waits (Bind o at) h c is b k = absurd (never (sym b))
request_waits (Connect o at) h c is b k = absurd (never (sym k))
request_waits (Unbind o at) h c is b k = strikes_first_wait o.0 at (is_bind_to at) c
request_waits (Disconnect o at) h c is b k = strikes_first_wait o.0 at (is_connect_to at) c
request_waits (Close o) h c is b k = omega arith
request_waits (Accepted o) h c is b k = absurd (never is)
request_waits (Shaken o peer) h c is b k = let same = ap waiting_count (shakes_names o.0 peer h c) in omega (arith, same)
request_waits (AskEnd e reason) h c is b k = by reason
  where
    by : (why : Reason) → waits (ask why false e (uses_reason why (owner_of c e) c)) ≤ waits c
    by Closed = let same = ap waiting_count (ask_names Closed false e c) in omega (arith, same)
    by BadId = let same = ap waiting_count (ask_names BadId false e c) in omega (arith, same)
    by Second = let same = ap waiting_count (ask_names Second false e c) in omega (arith, same)
    by Linger = let same = ap waiting_count (ask_names Linger false e (uses_reason Linger (owner_of c e) c)) in omega (arith, same)
    by Link = let same = ap waiting_count (ask_names Link false e (uses_reason Link (owner_of c e) c)) in omega (arith, same)
request_waits (AskOver o) h c is b k = omega arith
request_waits (OutputOver o) h c is b k = let same = ap waiting_count (try_end_names o.0 h.left c) in omega (arith, same)
