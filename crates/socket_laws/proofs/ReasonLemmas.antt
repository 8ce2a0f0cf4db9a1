-- The reason of an end that is gone stays over an event.
use Rattle.std.specs.Prelude.{◌≡◌, ◌<◌, ◌+◌, ◌==◌, ◌&&◌, ℕ, zero, suc, Bool, true, false, not, List, [], ◌∷◌, Option, Some, None, if◌then◌else◌, find, filter, length, refl}
use Rattle.std.proofs.Common.{arith, sym, ap, ◌∙◌, length-append, length-set, true≢false}
use Rattle.zq_base.specs.declared.attached.Attached.{Attached}
use Rattle.zq_base.specs.declared.attached.Attached.TheVariants.{Yes, BadId as IsBadId, Second as IsSecond}
use Rattle.zq_base.specs.declared.endpoint.Endpoint.{Endpoint}
use Rattle.zq_base.specs.declared.endpoint.Endpoint.TheVariants.{Inproc, Tcp}
use Rattle.zq_base.specs.declared.ids.EndId.{EndId}
use Rattle.zq_base.specs.declared.ids.Settled.{Settled}
use Rattle.spec_control.specs.declared.book.Binding.{Binding}
use Rattle.spec_control.specs.declared.book.Waiting.{Waiting}
use Rattle.spec_control.specs.declared.end.EndState.TheVariants.{Gone}
use Rattle.spec_control.specs.declared.end.EndEvent.{EndEvent}
use Rattle.spec_control.specs.declared.end.EndEvent.TheVariants.{Asked, TermCame, DelimiterSeen, AckCame}
use Rattle.spec_control.specs.declared.end.EndCommands.{EndCommands}
use Rattle.spec_control.specs.declared.end.EndCommands.TheVariants.{Nothing, TermAndSeal, Ack, Settle, SettleAndAck}
use Rattle.spec_control.specs.declared.end.Reason.{Reason}
use Rattle.spec_control.specs.declared.end.Reason.TheVariants.{Closed, BadId, Second, Linger, Link}
use Rattle.spec_control.specs.declared.letter.Word.{Word}
use Rattle.spec_control.specs.declared.letter.Word.TheVariants.{Own, Plug, TermReq, Term, TermAck, PipeBind, PipeTerm, PipeTermAck, Stop, Reap}
use Rattle.spec_control.specs.declared.request.Req.{Req}
use Rattle.spec_control.specs.declared.request.Req.TheVariants.{Socket as MakeSocket, AskTerm, Bind, Connect, Unbind, Disconnect, Close, Accepted, Shaken, AskEnd, AskOver, OutputOver}
use Rattle.spec_control.specs.declared.request.Reply.{Reply}
use Rattle.spec_control.specs.declared.request.Reply.TheVariants.{Done, Object, Pair as PairMade, Both, Wait, Asked as WasAsked, Before, Refused}
use Rattle.spec_control.specs.Stage.{was_asked}
use Rattle.spec_control.specs.Hold.{Hold, Bound, Waits, Joined, is_bind_to, is_connect_to, fulfil}
use Rattle.spec_control.specs.EndpointBook.{is_fulfilled, without_first}
use Rattle.spec_control.specs.Register.{fulfilled_by, waiting_now, without_holder}
use Rattle.spec_control.specs.Place.{Place, Unmade, At, is_here, is_away}
use Rattle.spec_control.specs.PairPhase.{BindCame}
use Rattle.spec_control.specs.Row.{RootAsked, OwnComes, PlugComes, IsTold, TermComes, RequestComes, AckComes, StopPut, link_may}
use Rattle.spec_control.specs.Rows.{PairRow, no_pair, obj, is_owner, may_end, end_place}
use Rattle.spec_control.specs.Control.{Control, is_end, id, end_of, with_end, with_value, next_object, next_pair, put, makes, draws, open_pair, place_of, owner_of, link, ends_of, tell_where, tell_children, stop_sockets, tell_other, commands_in, reason_in, happens, ask, ask_all, attach, greet, tell_owner, try_end}
use Rattle.spec_control.specs.After.{Answers, with_hold, named, binding_by, session_row, pair_or_none, without_names, term_reason, term_delay, settle, processed, joins, fulfil_all, connects_to, tell_struck, strike_end, strikes, uses_reason, requested, answered}
use Rattle.control_laws.proofs.ListLemmas.{placed}
use Rattle.control_laws.proofs.AskLemmas.{same_end}
use Rattle.control_laws.proofs.HearLemmas.{EndMoved, end_moved}

-- ---- the reasons of all ends are as they were
abbrev Same : Control → Control → Type 0
Same c d = d.reasons ≡ c.reasons

one_or_other : (x : Bool) (c d e : Control) → Same c d → Same c e → Same c (if x then d else e)
one_or_other true c d e h k = h
one_or_other false c d e h k = k

tell_where_same : (wanted : Bool) (child : ℕ) (c : Control) → Same c (tell_where wanted child c)
tell_where_same wanted child c = one_or_other (wanted && link_may IsTold (obj c.rows child)) c _ c refl refl

tell_children_same : (n owner : ℕ) (c : Control) → Same c (tell_children n owner c)
tell_children_same zero owner c = refl
tell_children_same (suc n) owner c = let before = tell_children n owner c in tell_where_same (is_owner owner (obj before.rows n).owner && (obj before.rows n).noted) n before ∙ tell_children_same n owner c

stop_sockets_same : (n : ℕ) (c : Control) → Same c (stop_sockets n c)
stop_sockets_same zero c = refl
stop_sockets_same (suc n) c = let before = stop_sockets n c in one_or_other (link_may StopPut (obj before.rows n)) before _ before refl refl ∙ stop_sockets_same n c

tell_owner_same : (owner : Option ℕ) (i : ℕ) (c : Control) → Same c (tell_owner owner i c)
tell_owner_same None i c = refl
tell_owner_same (Some owner) i c = refl

pub try_end_same : (i : ℕ) (left : Bool) (c : Control) → Same c (try_end i left c)
try_end_same i left c = one_or_other (may_end c.rows i) c _ _ (one_or_other left c _ _ refl (tell_owner_same (obj c.rows i).owner i _)) refl

tell_struck_same : (i : ℕ) (child : Option ℕ) (c : Control) → Same c (tell_struck i child c)
tell_struck_same i None c = refl
tell_struck_same i (Some child) c = tell_where_same (is_owner i (obj c.rows child).owner) child c

pub settle_same : (e : EndId) (counts : Option Settled) (c : Control) → Same c (settle e counts c)
settle_same e None c = refl
settle_same e (Some counts) c = refl

uses_reason_same : (why : Reason) (i : ℕ) (c : Control) → Same c (uses_reason why i c)
uses_reason_same Closed i c = refl
uses_reason_same BadId i c = refl
uses_reason_same Second i c = refl
uses_reason_same Linger i c = refl
uses_reason_same Link i c = refl

-- ---- how many pairs there are
told_rows : (cmds : EndCommands) (e : EndId) (c : Control) → ((tell_other cmds e c).rows ≡ c.rows) × ((tell_other cmds e c).reasons ≡ c.reasons)
told_rows Nothing e c = (refl, refl)
told_rows TermAndSeal e c = (refl, refl)
told_rows Ack e c = (refl, refl)
told_rows Settle e c = (refl, refl)
told_rows SettleAndAck e c = (refl, refl)

happens_many : (event : EndEvent) (e : EndId) (c : Control) → next_pair (happens event e c) ≡ next_pair c
happens_many event e c = ap (λ r. length r.pairs) (told_rows (commands_in event (place_of c e)) e _).0 ∙ length-set c.rows.pairs e.pair.0 _

many_of : (x : Bool) (n : ℕ) (c d : Control) → next_pair c ≡ n → next_pair d ≡ n → next_pair (if x then c else d) ≡ n
many_of true n c d h k = h
many_of false n c d h k = k

ask_many : (why : Reason) (delay : Bool) (e : EndId) (c : Control) → next_pair (ask why delay e c) ≡ next_pair c
ask_many why delay e c = many_of (is_here (place_of c e)) (next_pair c) _ c (happens_many (Asked why delay) e c) refl

greet_many : (kind : Attached) (e : EndId) (c : Control) → next_pair (greet kind e c) ≡ next_pair c
greet_many Yes e c = many_of (was_asked (obj c.rows (owner_of c e)).stage) (next_pair c) _ _ (ask_many Closed false e c) (many_of (c.struck e) (next_pair c) _ c (ask_many Closed false e c) refl)
greet_many IsBadId e c = ask_many BadId false e c
greet_many IsSecond e c = ask_many Second false e c

joins_many : (connecting bound : ℕ) (a_first : Bool) (h : Answers) (c : Control) → next_pair (joins connecting bound a_first h c) ≡ next_pair c + 1
joins_many connecting bound a_first h c =
    let first = end_of (next_pair c) a_first in
    let drawn = draws connecting bound c in
    greet_many (h.kind first) first (open_pair first (PipeBind (end_of (next_pair c) (not a_first)) (obj c.rows (owner_of drawn first)).options.id) drawn)
    ∙ length-set drawn.rows.pairs (next_pair c) _ ∙ length-append c.rows.pairs _

-- ---- one end
gone_keeps : (event : EndEvent) (r : Option Reason) → reason_in event (At Gone) r ≡ r
gone_keeps (Asked why delay) None = refl
gone_keeps (Asked why delay) (Some first) = refl
gone_keeps TermCame r = refl
gone_keeps DelimiterSeen r = refl
gone_keeps AckCame r = refl

not_here : (a : Bool) → not (is_here (end_place no_pair a)) ≡ true
not_here true = refl
not_here false = refl

here_there : (c : Control) (e : EndId) → is_here (place_of c e) ≡ true → e.pair.0 < next_pair c
here_there c e h = placed (λ (p : PairRow). not (is_here (end_place p e.a))) c.rows.pairs no_pair e.pair.0 (not_here e.a) (ap not h)

both : (a b : Bool) → (a && b) ≡ true → a ≡ true
both true b h = refl
both false b h = absurd (true≢false (sym h))

other_number : (d e : EndId) → d.pair.0 < e.pair.0 → is_end d e ≡ false
other_number d e lt = by (is_end d e) refl
  where
    by : (b : Bool) → is_end d e ≡ b → b ≡ false
    by false h = refl
    by true h = let same = ap (λ (x : EndId). x.pair.0) (same_end d e h) in absurd (omega (arith, same, lt))

other_place : (c : Control) (d e : EndId) → (place_of c e ≡ place_of c d → ⊥) → is_end d e ≡ false
other_place c d e apart = by (is_end d e) refl
  where
    by : (b : Bool) → is_end d e ≡ b → b ≡ false
    by false h = refl
    by true h = absurd (apart (ap (place_of c) (sym (same_end d e h))))

module _ (d : EndId) where
  happens_else : (event : EndEvent) (e : EndId) (c : Control) → is_end d e ≡ false → (happens event e c).reasons d ≡ c.reasons d
  happens_else event e c other =
      ap (λ (f : EndId → Option Reason). f d) (told_rows (commands_in event (place_of c e)) e _).1
      ∙ ap (λ (b : Bool). if b then reason_in event (place_of c e) (c.reasons e) else c.reasons d) other

  pub happens_gone : (event : EndEvent) (e : EndId) (c : Control) → place_of c d ≡ At Gone → (happens event e c).reasons d ≡ c.reasons d
  happens_gone event e c gone = by (is_end d e) refl
    where
      now : (happens event e c).reasons d ≡ (if is_end d e then reason_in event (place_of c e) (c.reasons e) else c.reasons d)
      now = ap (λ (f : EndId → Option Reason). f d) (told_rows (commands_in event (place_of c e)) e _).1

      by : (b : Bool) → is_end d e ≡ b → (happens event e c).reasons d ≡ c.reasons d
      by false other = happens_else event e c other
      by true same =
          now ∙ ap (λ (b : Bool). if b then reason_in event (place_of c e) (c.reasons e) else c.reasons d) same
          ∙ ap (λ (x : EndId). reason_in event (place_of c x) (c.reasons x)) (sym (same_end d e same))
          ∙ ap (λ (p : Place). reason_in event p (c.reasons d)) gone ∙ gone_keeps event (c.reasons d)

  either : (x : Bool) (r : Option Reason) (c e : Control) → c.reasons d ≡ r → e.reasons d ≡ r → (if x then c else e).reasons d ≡ r
  either true r c e h k = h
  either false r c e h k = k

  ask_else : (why : Reason) (delay : Bool) (e : EndId) (c : Control) → is_end d e ≡ false → (ask why delay e c).reasons d ≡ c.reasons d
  ask_else why delay e c other = either (is_here (place_of c e)) (c.reasons d) _ c (happens_else (Asked why delay) e c other) refl

  greet_else : (kind : Attached) (e : EndId) (c : Control) → is_end d e ≡ false → (greet kind e c).reasons d ≡ c.reasons d
  greet_else Yes e c other = either (was_asked (obj c.rows (owner_of c e)).stage) (c.reasons d) _ _ (ask_else Closed false e c other) (either (c.struck e) (c.reasons d) _ c (ask_else Closed false e c other) refl)
  greet_else IsBadId e c other = ask_else BadId false e c other
  greet_else IsSecond e c other = ask_else Second false e c other

  ask_gone : (why : Reason) (delay : Bool) (e : EndId) (c : Control) → place_of c d ≡ At Gone → (ask why delay e c).reasons d ≡ c.reasons d
  ask_gone why delay e c gone = either (is_here (place_of c e)) (c.reasons d) _ c (happens_gone (Asked why delay) e c gone) refl

  -- an ask leaves it gone, too
  ask_place : (why : Reason) (delay : Bool) (e : EndId) (c : Control) → place_of c d ≡ At Gone → place_of (ask why delay e c) d ≡ At Gone
  ask_place why delay e c gone = by (is_here (place_of c e)) refl
    where
      there : is_here (place_of c e) ≡ true → EndMoved (Asked why delay) e c (happens (Asked why delay) e c)
      there here = end_moved c (Asked why delay) e (here_there c e here)

      apart : is_here (place_of c e) ≡ true → d ≡ e → ⊥
      apart here same = true≢false (sym here ∙ ap (λ (x : EndId). is_here (place_of c x)) (sym same) ∙ ap is_here gone)

      by : (b : Bool) → is_here (place_of c e) ≡ b → place_of (if b then happens (Asked why delay) e c else c) d ≡ At Gone
      by true here = (there here).elsewhere d.pair.0 d.a (apart here) ∙ gone
      by false away = gone

  ask_all_gone : (why : Reason) (delay : Bool) (es : List EndId) (c : Control) → place_of c d ≡ At Gone → (ask_all why delay es c).reasons d ≡ c.reasons d
  ask_all_gone why delay [] c gone = refl
  ask_all_gone why delay (e ∷ es) c gone = ask_all_gone why delay es (ask why delay e c) (ask_place why delay e c gone) ∙ ask_gone why delay e c gone

  joins_else : (connecting bound : ℕ) (a_first : Bool) (h : Answers) (c : Control) → d.pair.0 < next_pair c → (joins connecting bound a_first h c).reasons d ≡ c.reasons d
  joins_else connecting bound a_first h c lt =
      let first = end_of (next_pair c) a_first in
      let drawn = draws connecting bound c in
      greet_else (h.kind first) first (open_pair first (PipeBind (end_of (next_pair c) (not a_first)) (obj c.rows (owner_of drawn first)).options.id) drawn) (other_number d first lt)

  fulfil_all_else : (i : ℕ) (at : Endpoint) (ws : List Waiting) (h : Answers) (c : Control) → d.pair.0 < next_pair c → (fulfil_all i at ws h c).reasons d ≡ c.reasons d
  fulfil_all_else i at [] h c lt = refl
  fulfil_all_else i at (w ∷ ws) h c lt =
      let joined = joins w.waiter.0 i false h c in
      let more = joins_many w.waiter.0 i false h c in
      fulfil_all_else i at ws h (record joined { holds = with_value w.waiter.0 (fulfil at (next_pair c) (joined.holds w.waiter.0)) joined.holds }) (omega (arith, more, lt))
      ∙ joins_else w.waiter.0 i false h c lt

  connects_to_else : (i : ℕ) (at : Endpoint) (b : Option Binding) (h : Answers) (c : Control) → d.pair.0 < next_pair c → (connects_to i at b h c).reasons d ≡ c.reasons d
  connects_to_else i at None h c lt = refl
  connects_to_else i at (Some binding) h c lt = joins_else i binding.holder.0 true h (with_hold i (Joined at (next_pair c) None) c) lt

  strike_end_gone : (i : ℕ) (e : EndId) (c : Control) → place_of c d ≡ At Gone → (strike_end i e c).reasons d ≡ c.reasons d
  strike_end_gone i e c gone = either (is_away (place_of c e)) (c.reasons d) (record c { struck = with_end e true c.struck }) _ refl (either (owner_of c e == i) (c.reasons d) (ask Closed false e c) c (ask_gone Closed false e c gone) refl)

  at_end : {now was : EndId → Option Reason} → now ≡ was → now d ≡ was d
  at_end same = ap (λ (f : EndId → Option Reason). f d) same

  strikes_gone : (i : ℕ) (to : Endpoint) (hold : Option Hold) (c : Control) → place_of c d ≡ At Gone → (strikes i to hold c).reasons d ≡ c.reasons d
  strikes_gone i to None c gone = refl
  strikes_gone i to (Some (Bound at listener)) c gone = at_end (tell_struck_same i listener (record c { names = without_holder to c.names }))
  strikes_gone i to (Some (Waits at)) c gone = refl
  strikes_gone i to (Some (Joined at k session)) c gone = at_end (tell_struck_same i session (strike_end i (end_of k true) c)) ∙ strike_end_gone i (end_of k true) c gone

  -- ---- a request
  requested_gone : (req : Req) (h : Answers) (c : Control) → d.pair.0 < next_pair c → place_of c d ≡ At Gone
      → ((o : _) (peer : _) → req ≡ Shaken o peer → place_of c (end_of (pair_or_none (obj c.rows o.0).pair) true) ≡ Unmade) → (requested req h c).reasons d ≡ c.reasons d
  requested_gone (MakeSocket kind options) h c lt gone unmade = refl
  requested_gone AskTerm h c lt gone unmade =
      at_end (try_end_same 0 h.left (stop_sockets (length c.rows.objects) (link RootAsked 0 c)) ∙ stop_sockets_same (length c.rows.objects) (link RootAsked 0 c))
  requested_gone (Bind o (Inproc name)) h c lt gone unmade =
      let binding = binding_by o.0 c in
      let held = with_hold o.0 (Bound (Inproc name) None) (named o.0 (Inproc name) binding c) in
      fulfil_all_else o.0 (Inproc name) (fulfilled_by (Inproc name) binding c.names) h
      (record held { names = waiting_now (filter (λ w. not (is_fulfilled (Inproc name) binding w)) held.names.waiting) held.names }) lt
  requested_gone (Bind o (Tcp address)) h c lt gone unmade = refl
  requested_gone (Connect o (Inproc name)) h c lt gone unmade = connects_to_else o.0 (Inproc name) (c.names.held (Inproc name)) h c lt
  requested_gone (Connect o (Tcp address)) h c lt gone unmade =
      let child = next_object c in
      let mine = end_of (next_pair c) true in
      let made = draws o.0 child (makes (session_row o.0 c) (with_hold o.0 (Joined (Tcp address) (next_pair c) (Some child)) c)) in
      greet_else (h.kind mine) mine (open_pair mine (Plug (Some (end_of (next_pair c) false))) (put o.0 (Own (id child)) made)) (other_number d mine lt)
  requested_gone (Unbind o at) h c lt gone unmade = strikes_gone o.0 at (find (is_bind_to at) (c.holds o.0)) (record c { holds = with_value o.0 (without_first (is_bind_to at) (c.holds o.0)) c.holds }) gone
  requested_gone (Disconnect o at) h c lt gone unmade = strikes_gone o.0 at (find (is_connect_to at) (c.holds o.0)) (record c { holds = with_value o.0 (without_first (is_connect_to at) (c.holds o.0)) c.holds }) gone
  requested_gone (Close o) h c lt gone unmade = refl
  requested_gone (Accepted o) h c lt gone unmade = refl
  requested_gone (Shaken o peer) h c lt gone unmade =
      let mine = end_of (pair_or_none (obj c.rows o.0).pair) true in
      greet_else (h.kind mine) mine (open_pair mine (PipeBind (end_of mine.pair.0 false) peer.identity) c)
      (other_place c d mine (λ same. unmade_gone (sym (unmade o peer refl) ∙ same ∙ gone)))
    where
      unmade_gone : Unmade ≡ At Gone → ⊥
      unmade_gone f = grind arith
  requested_gone (AskEnd e why) h c lt gone unmade = ask_gone why false e (uses_reason why (owner_of c e) c) (place_uses why (owner_of c e) c gone) ∙ at_end (uses_reason_same why (owner_of c e) c)
    where
      place_uses : (why : Reason) (i : ℕ) (c : Control) → place_of c d ≡ At Gone → place_of (uses_reason why i c) d ≡ At Gone
      place_uses Closed i c h = h
      place_uses BadId i c h = h
      place_uses Second i c h = h
      place_uses Linger i c h = h
      place_uses Link i c h = h
  requested_gone (AskOver o) h c lt gone unmade = refl
  requested_gone (OutputOver o) h c lt gone unmade = at_end (try_end_same o.0 h.left c)

  pub answered_gone : (req : Req) (reply : Reply) (h : Answers) (c : Control) → d.pair.0 < next_pair c → place_of c d ≡ At Gone
      → ((o : _) (peer : _) → req ≡ Shaken o peer → place_of c (end_of (pair_or_none (obj c.rows o.0).pair) true) ≡ Unmade) → (answered req reply h c).reasons d ≡ c.reasons d
  answered_gone req Done h c lt gone unmade = requested_gone req h c lt gone unmade
  answered_gone req (Object o) h c lt gone unmade = requested_gone req h c lt gone unmade
  answered_gone req (PairMade p) h c lt gone unmade = requested_gone req h c lt gone unmade
  answered_gone req (Both o p) h c lt gone unmade = requested_gone req h c lt gone unmade
  answered_gone req Wait h c lt gone unmade = requested_gone req h c lt gone unmade
  answered_gone req WasAsked h c lt gone unmade = requested_gone req h c lt gone unmade
  answered_gone req Before h c lt gone unmade = refl
  answered_gone req (Refused refusal) h c lt gone unmade = refl

  -- ---- a command
  pub processed_gone : (at : ℕ) (word : Word) (h : Answers) (c : Control) → place_of c d ≡ At Gone
      → ((e : EndId) (peer : List ℕ) → word ≡ PipeBind e peer → is_end d e ≡ false) → ((e : EndId) → word ≡ Plug (Some e) → is_end d e ≡ false) → (processed at word h c).reasons d ≡ c.reasons d
  processed_gone at (Own child) h c gone binds plugs = at_end (tell_where_same (was_asked (obj c.rows at).stage) child.0 (link OwnComes child.0 c))
  processed_gone at (Plug None) h c gone binds plugs = refl
  processed_gone at (Plug (Some e)) h c gone binds plugs = greet_else (h.kind e) e (attach BindCame e (link PlugComes at c)) (plugs e refl)
  processed_gone at (TermReq child) h c gone binds plugs = at_end (tell_where_same (not (was_asked (obj c.rows at).stage)) child.0 (link RequestComes child.0 c))
  processed_gone at Term h c gone binds plugs =
      let asked = without_names at (link TermComes at c) in
      let ends_asked = ask_all (term_reason (obj c.rows at).kind) (term_delay (obj c.rows at)) (ends_of at asked) asked in
      at_end (try_end_same at h.left (tell_children (length ends_asked.rows.objects) at ends_asked) ∙ tell_children_same (length ends_asked.rows.objects) at ends_asked)
      ∙ ask_all_gone (term_reason (obj c.rows at).kind) (term_delay (obj c.rows at)) (ends_of at asked) asked gone
  processed_gone at (TermAck child) h c gone binds plugs = at_end (try_end_same at h.left (link AckComes child.0 c))
  processed_gone at (PipeBind e peer) h c gone binds plugs = greet_else (h.kind e) e (attach BindCame e c) (binds e peer refl)
  processed_gone at (PipeTerm e) h c gone binds plugs = happens_gone TermCame e c gone
  processed_gone at (PipeTermAck e) h c gone binds plugs =
      let heard = happens AckCame e c in
      at_end (try_end_same at h.left (settle e h.counts heard) ∙ settle_same e h.counts heard) ∙ happens_gone AckCame e c gone
  processed_gone at Stop h c gone binds plugs = refl
  processed_gone at (Reap socket) h c gone binds plugs = refl
