-- The closed sockets that are kept for the reaper, behind an event.
use Rattle.std.specs.Prelude.{◌≡◌, ◌≤◌, ◌<◌, ◌+◌, ◌-◌, ◌≢◌, ◌==◌, ◌&&◌, ◌++◌, ◌∷◌, [], ℕ, Bool, true, false, List, All, cond, count_by, filter, map, not, slice_index_or, refl}
use Rattle.std.specs.List.{list_any}
use Rattle.std.proofs.Common.{arith, sym, ap, ◌∙◌, subst}
use Rattle.std.proofs.lemmas.Bool.{eq-eqb}
use Rattle.std.proofs.lemmas.List.Sums.{sum_by-set, sum_by_push}
use Rattle.std.proofs.lemmas.List.Elements.{All-append, All-cons, All-nil, All-weaker, filter-append}
use Rattle.std.proofs.Math.ListN.{get_or-append}
use Rattle.zq_base.specs.declared.ids.EndId.{EndId}
use Rattle.zq_base.specs.declared.ids.ObjId.{ObjId}
use Rattle.zq_base.specs.declared.ids.SlotId.{SlotId}
use Rattle.zq_base.specs.declared.kind.Kind.{Kind}
use Rattle.zq_base.specs.declared.options.Options.{Options}
use Rattle.spec_control.specs.declared.entry.Answered.{Answered}
use Rattle.spec_control.specs.declared.entry.Did.{Did}
use Rattle.spec_control.specs.declared.entry.Did.TheVariants.{Asked, Delivered, Delimited}
use Rattle.spec_control.specs.declared.letter.Letter.{Letter}
use Rattle.spec_control.specs.declared.request.Req.{Req}
use Rattle.spec_control.specs.declared.request.Req.TheVariants.{Close, Socket as MakeSocket, AskOver}
use Rattle.spec_control.specs.declared.request.Reply.{Reply}
use Rattle.spec_control.specs.declared.request.Reply.TheVariants.{Done, Object, Pair, Both, Wait, Asked as WasAsked, Before, Refused}
use Rattle.spec_control.specs.Stage.{has_ended, is_unused}
use Rattle.spec_control.specs.Row.{AsksOver, Row, is_socket, link_after, nobody}
use Rattle.spec_control.specs.Rows.{obj}
use Rattle.spec_control.specs.Control.{Control, begun, next_object}
use Rattle.spec_control.specs.After.{after, answers_in, requested, socket_row}
use Rattle.spec_control.specs.ControlRun.{Fits, IsControlRun, IsOpenSocket, MayAskOver}
use Rattle.control_laws.proofs.ListLemmas.{never, placed}
use Rattle.control_laws.specs.Kept.{Kept}
use Rattle.control_laws.specs.OwnMoves.{own_moves}
use Rattle.control_laws.proofs.SoundLemmas.{socket_there}
use Rattle.desk.specs.Holding.{Holding}
use Rattle.desk.specs.Desk.{HasWhatTheySay}
use Rattle.ctl_state.specs.Listed.{Listed, with_last, with_room, without_room}
use Rattle.ctl_plane.specs.Past.{IsPast, Past, as_item, control_of, with_event}
use Rattle.control_laws.proofs.BetweenLemmas.{asks_over}
use Rattle.control_laws.specs.Closed.{is_unclosed, lives, unclosed}
use Rattle.control_laws.proofs.ReapLemmas.{closed_one, event_lives, event_unclosed, lives_on, some_unclosed}
use Rattle.control_laws.proofs.HeldRowLemmas.{event_keeps, makes_object}
use Rattle.control_laws.proofs.HeldEventLemmas.{closes, word_closes}
use Rattle.control_laws.proofs.HeldClosedLemmas.{asked_none}
use Rattle.control_laws.proofs.SlotLemmas.{close_of, closed_in, event_closed}
use Rattle.plain_desk.specs.declared.mark.Mark.{Mark}
use Rattle.plain_desk.specs.Lent.{AreSockets, IsLent, IsOfSocket, Lent, made_at_most, moments_of}
use Rattle.plain_desk.specs.Reaping.{IsOfClosed, IsReaping, served_by}
use Rattle.plain_desk.proofs.DeliverLemmas.{word_none}
use Rattle.plain_desk.proofs.FitLemmas.{last_fits}
use Rattle.plain_desk.proofs.LentLemmas.{control_next, kept_of}
use Rattle.plain_desk.proofs.MakeLemmas.{either_done, socket_made, MakesRow}

-- a control plane at its making
pub reaps_begin : (workers : ℕ) (kept : Listed ObjId) → kept.items ≡ [] → IsReaping (begun workers) kept
reaps_begin workers kept none = record {
  same = ap (filter (lives (begun workers))) none;
  sockets = subst (AreSockets (begun workers)) (sym none) (All-nil _);
  closed_sockets = All-nil _;
  room = omega arith;
}

-- an event happened, which led there
pub record Happens {N S : Type 0} (c d : Control) (did : Did N S) : Type 0 where
  pub kept : Kept c
  pub fits : Fits c did
  pub now : d ≡ after did c

pub happened : {G N S : Type 0} (ms : List Mark) (old new : Past G N S) (wakers : ℕ) (did : Did N S) → IsLent ms old wakers → new.workers ≡ old.workers → new.events ≡ old.events ++ did ∷ [] → IsPast new → Happens (control_of old) (control_of new) did
happened {G} {N} {S} ms old new wakers did lent workers events run = record {
  kept = kept_of ms old wakers lent;
  fits =
      last_fits old.events did (begun old.workers)
      (subst (λ (w : ℕ). IsControlRun (begun w) (map as_item (old.events ++ did ∷ []))) workers (subst (λ (es : List (Did N S)). IsControlRun (begun new.workers) (map as_item es)) events run));
  now =
      ap (λ (w : ℕ). control_of (let p : Past G N S = record { workers = w; events = new.events; given = new.given } in p)) workers
      ∙ ap (λ (es : List (Did N S)). control_of (let p : Past G N S = record { workers = old.workers; events = es; given = new.given } in p)) events
      ∙ control_next old did;
}

-- sockets are there
pub sockets_there : (c : Control) (os : List ObjId) → AreSockets c os → All (λ o. o.0 < next_object c) os
sockets_there c os all = All-weaker (λ (o : ObjId). is_socket (obj c.rows o.0).kind ≡ true) (λ (o : ObjId). o.0 < next_object c) (λ o is. socket_there c.rows o.0 is) os all

-- and stay sockets
sockets_stay : {N S : Type 0} (c : Control) (did : Did N S) → Kept c → Fits c did → (os : List ObjId) → AreSockets c os → AreSockets (after did c) os
sockets_stay c did kept fits os all = All-weaker (λ (o : ObjId). is_socket (obj c.rows o.0).kind ≡ true) (λ (o : ObjId). is_socket (obj (after did c).rows o.0).kind ≡ true)
    (λ o is. ap is_socket (event_keeps c did kept fits o.0 (socket_there c.rows o.0 is)).kind ∙ is) os all

module _ {N S : Type 0} (c d : Control) (did : Did N S) (happens : Happens c d did) (kept : Listed ObjId) (reaps : IsReaping c kept) where
  -- no socket is made and none is closed
  reaps_same : list_any makes_object (own_moves c did) ≡ false → unclosed (after did c) ≡ unclosed c → closed_in did c.closed ≡ c.closed → IsReaping d kept
  reaps_same none many closes =
      let fits = happens.fits in
      let closed = event_closed c did none ∙ closes in
      let room = reaps.room in
      subst (λ (x : Control). IsReaping x kept) (sym happens.now) (record {
        same =
            lives_on c (after did c) (event_lives c did happens.kept fits) kept.items c.closed (sockets_there c kept.items reaps.sockets) (sockets_there c c.closed reaps.closed_sockets) reaps.same
            ∙ ap (filter (lives (after did c))) (sym closed);
        sockets = sockets_stay c did happens.kept fits kept.items reaps.sockets;
        closed_sockets = subst (AreSockets (after did c)) (sym closed) (sockets_stay c did happens.kept fits c.closed reaps.closed_sockets);
        room = omega (arith, many, room);
      })

  pub reaps_on : list_any makes_object (own_moves c did) ≡ false → ((i : ℕ) → list_any (asks_over i) (own_moves c did) ≡ false) → closed_in did c.closed ≡ c.closed → IsReaping d kept
  reaps_on none free closes = reaps_same none (event_unclosed c did happens.kept happens.fits none free) closes

-- an open socket is there, and counted
unclosed_is : (c : Control) (i : ℕ) → IsOpenSocket (obj c.rows i) → is_unclosed (obj c.rows i) ≡ true
unclosed_is c i open_so = ap (λ (b : Bool). b && is_unused (obj c.rows i).request) open_so.socket ∙ ap is_unused open_so.open_still

-- there is room for a socket that is closed
pub reaps_room : (c : Control) (kept : Listed ObjId) (i : ℕ) → IsReaping c kept → IsOpenSocket (obj c.rows i) → 0 < kept.spare
reaps_room c kept i reaps open_so =
    let some = some_unclosed c i (socket_there c.rows i open_so.socket) (unclosed_is c i open_so) in
    let room = reaps.room in
    omega (arith, some, room)

-- it stands last then
pub reaps_close : {N S : Type 0} (c d : Control) (o : ObjId) (h : Answered N S) → Happens c d (Asked (Close o) Done h) → (kept : Listed ObjId) → IsReaping c kept → IsOpenSocket (obj c.rows o.0) → IsReaping d (with_last o kept)
reaps_close {N} {S} c d o h happens kept reaps open_so =
    let fits = happens.fits in
    let there = socket_there c.rows o.0 open_so.socket in
    let fewer = closed_one c (after did c) o.0 refl there (unclosed_is c o.0 open_so) in
    let room = reaps.room in
    subst (λ (x : Control). IsReaping x (with_last o kept)) (sym happens.now) (record {
      same =
          filter-append (lives (after did c)) kept.items (o ∷ [])
          ∙ ap (λ (os : List ObjId). os ++ filter (lives (after did c)) (o ∷ [])) (lives_on c (after did c) (event_lives c did happens.kept fits) kept.items c.closed (sockets_there c kept.items reaps.sockets) (sockets_there c c.closed reaps.closed_sockets) reaps.same)
          ∙ sym (filter-append (lives (after did c)) c.closed (o ∷ []));
      sockets = one_more kept.items reaps.sockets;
      closed_sockets = one_more c.closed reaps.closed_sockets;
      room = omega (arith, fewer, room);
    })
  where
    did : Did N S
    did = Asked (Close o) Done h

    one_more : (os : List ObjId) → AreSockets c os → AreSockets (after (Asked (Close o) Done h) c) (os ++ o ∷ [])
    one_more os all =
        sockets_stay c did happens.kept happens.fits (os ++ o ∷ [])
        (All-append (λ (x : ObjId). is_socket (obj c.rows x.0).kind ≡ true) os (o ∷ []) all (All-cons (λ (x : ObjId). is_socket (obj c.rows x.0).kind ≡ true) o [] open_so.socket (All-nil _)))

-- with the same sockets, and no less room
pub same_room : (c : Control) (kept : Listed ObjId) → IsReaping c kept → (now : Listed ObjId) → now.items ≡ kept.items → kept.spare ≤ now.spare → IsReaping c now
same_room c kept reaps now items spare = record {
  same = ap (filter (lives c)) items ∙ reaps.same;
  sockets = subst (AreSockets c) (sym items) reaps.sockets;
  closed_sockets = reaps.closed_sockets;
  room = (let room = reaps.room in omega (arith, room, spare));
}

-- ---- an object that is made
-- how many more sockets may be closed
abbrev pub closes_more : Row → ℕ
closes_more row = cond (is_unclosed row) 1 0

module _ (c : Control) (kept : Listed ObjId) (reaps : IsReaping c kept) (row : Row) (d : Control) (made : MakesRow row c d) where
  pub pushed_reaps : (now : Listed ObjId) → now.items ≡ kept.items → kept.spare + closes_more row ≤ now.spare → IsReaping d now
  pushed_reaps now items spare = record {
    same =
        ap (filter (lives d)) items
        ∙ lives_on c d (λ o there is. ap (λ (r : Row). not (has_ended r.stage)) (sym (old o there)) ∙ is) kept.items c.closed (sockets_there c kept.items reaps.sockets) (sockets_there c c.closed reaps.closed_sockets) reaps.same
        ∙ ap (filter (lives d)) (sym made.closed);
    sockets = subst (AreSockets d) (sym items) (wider kept.items reaps.sockets);
    closed_sockets = subst (AreSockets d) (sym made.closed) (wider c.closed reaps.closed_sockets);
    room = (let room = reaps.room in omega (arith, more, room, spare));
  }
    where
      old : (o : ObjId) → o.0 < next_object c → obj d.rows o.0 ≡ obj c.rows o.0
      old o there = ap (λ (os : List Row). slice_index_or os o.0 nobody) made.rows ∙ get_or-append c.rows.objects (row ∷ []) nobody o.0 there

      wider : (os : List ObjId) → AreSockets c os → AreSockets d os
      wider os all = All-weaker (λ (o : ObjId). is_socket (obj c.rows o.0).kind ≡ true) (λ (o : ObjId). is_socket (obj d.rows o.0).kind ≡ true)
          (λ o is. ap (λ (r : Row). is_socket r.kind) (old o (socket_there c.rows o.0 is)) ∙ is) os all

      more : unclosed d ≡ unclosed c + closes_more row
      more = ap (count_by is_unclosed) made.rows ∙ sum_by_push (λ (o : Row). cond (is_unclosed o) 1 0) c.rows.objects row

-- ---- as the desk has them
module _ {G N S : Type 0} (ms : List Mark) (old new : Past G N S) (wakers : ℕ) (lent : IsLent ms old wakers) (kept : Listed ObjId) (reaps : IsReaping (control_of old) kept) (run : IsPast new) where
  module _ (req : Req) (reply : Reply) (h : Answered N S) (step : new ≡ with_event (Asked req reply h) old) where
    asked_happens : Happens (control_of old) (control_of new) (Asked req reply h)
    asked_happens = happened ms old new wakers (Asked req reply h) lent (ap (λ (p : Past G N S). p.workers) step) (ap (λ (p : Past G N S). p.events) step) run

    closes_none : (r : Reply) → close_of req (control_of old).closed ≡ (control_of old).closed → closed_in (Asked req r h) (control_of old).closed ≡ (control_of old).closed
    closes_none Done e = e
    closes_none (Object o) e = e
    closes_none (Pair p) e = e
    closes_none (Both o p) e = e
    closes_none Wait e = e
    closes_none WasAsked e = e
    closes_none Before e = refl
    closes_none (Refused refusal) e = refl

    -- a request that makes no object and closes no socket
    pub reaps_asked : list_any makes_object (own_moves (control_of old) (Asked req reply h)) ≡ false → ((i : ℕ) → closes i req ≡ false) → close_of req (control_of old).closed ≡ (control_of old).closed → IsReaping (control_of new) kept
    reaps_asked none free same =
        reaps_on (control_of old) (control_of new) (Asked req reply h) asked_happens kept reaps none (λ i. asked_none i (control_of old) req reply (free i)) (closes_none reply same)

  -- a listener or a session asks to end
  pub reaps_over : (o : ObjId) (h : Answered N S) → new ≡ with_event (Asked (AskOver o) Done h) old → MayAskOver (obj (control_of old).rows o.0) → IsReaping (control_of new) kept
  reaps_over o h step may =
      let c = control_of old in
      let taken = may.taken_in in
      let there : o.0 < next_object c = placed (λ (r : Row). has_ended r.stage) c.rows.objects nobody o.0 refl taken.lives in
      let sums = sum_by-set (λ (r : Row). cond (is_unclosed r) 1 0) c.rows.objects o.0 (link_after AsksOver (obj c.rows o.0)) nobody there in
      let was = ap {B = ℕ} (λ (b : Bool). cond (b && is_unused (obj c.rows o.0).request) 1 0) may.no_socket in
      let now = ap {B = ℕ} (λ (b : Bool). cond (b && false) 1 0) may.no_socket in
      reaps_same c (control_of new) (Asked (AskOver o) Done h) (asked_happens (AskOver o) Done h step) kept reaps refl (omega (arith, sums, was, now)) refl

  -- a command, and a delimiter
  pub reaps_heard : (slot : SlotId) (letter : Letter) (h : Answered N S) → new.workers ≡ old.workers → new.events ≡ old.events ++ Delivered slot letter h ∷ [] → IsReaping (control_of new) kept
  reaps_heard slot letter h workers events =
      reaps_on (control_of old) (control_of new) (Delivered slot letter h) (happened ms old new wakers (Delivered slot letter h) lent workers events run) kept reaps (word_none letter.to.0 letter.word) (λ i. word_closes i letter.to.0 letter.word) refl

  pub reaps_met : (e : EndId) (h : Answered N S) → new ≡ with_event (Delimited e h) old → IsReaping (control_of new) kept
  reaps_met e h step =
      reaps_on (control_of old) (control_of new) (Delimited e h) (happened ms old new wakers (Delimited e h) lent (ap (λ (p : Past G N S). p.workers) step) (ap (λ (p : Past G N S). p.events) step) run) kept reaps refl (λ i. refl) refl

  -- a socket that is closed
  pub reaps_closed : (o : ObjId) (h : Answered N S) → new.workers ≡ old.workers → new.events ≡ old.events ++ Asked (Close o) Done h ∷ [] → IsOpenSocket (obj (control_of old).rows o.0) → IsReaping (control_of new) (with_last o kept)
  reaps_closed o h workers events open_so =
      reaps_close (control_of old) (control_of new) o h (happened ms old new wakers (Asked (Close o) Done h) lent workers events run) kept reaps open_so

-- an object that is made, or not
module _ {G N S : Type 0} (old new : Past G N S) (kept now : Listed ObjId) (reaps : IsReaping (control_of old) kept) (req : Req) (reply : Reply) (h : Answered N S) (step : new ≡ with_event (Asked req reply h) old)
    (row : Row) (made : MakesRow row (control_of old) (requested req (answers_in h) (control_of old))) where
  pub reaps_one : now.items ≡ kept.items → kept.spare ≤ now.spare → (1 ≤ made_at_most reply → kept.spare + closes_more row ≤ now.spare) → IsReaping (control_of new) now
  reaps_one items stays spare =
      subst (λ (x : Control). IsReaping x now) (sym (ap (λ (p : Past G N S). control_of p) step ∙ control_next old (Asked req reply h)))
      (either_done req h (control_of old) (λ (x : Control). IsReaping x now) reply
      (λ done. pushed_reaps (control_of old) kept reaps row (requested req (answers_in h) (control_of old)) made now items (spare done))
      (same_room (control_of old) kept reaps now items stays))

-- a socket, for whose close there is room more
module _ {G N S : Type 0} (old new : Past G N S) (kept now : Listed ObjId) (reaps : IsReaping (control_of old) kept) (kind : Kind) (options : Options) (reply : Reply) (h : Answered N S) (step : new ≡ with_event (Asked (MakeSocket kind options) reply h) old) where
  at_most_one : made_at_most reply ≤ 1
  at_most_one = by reply
    where
      by : (r : Reply) → made_at_most r ≤ 1
      by Done = omega arith
      by (Object o) = omega arith
      by (Pair p) = omega arith
      by (Both o p) = omega arith
      by Wait = omega arith
      by WasAsked = omega arith
      by Before = omega arith
      by (Refused refusal) = omega arith

  pub reaps_making : now ≡ without_room (1 - made_at_most reply) (with_room 1 kept) → IsReaping (control_of new) now
  reaps_making room =
      let one = at_most_one in
      let spare : now.spare ≡ kept.spare + 1 - (1 - made_at_most reply) = ap (λ (l : Listed ObjId). l.spare) room in
      reaps_one old new kept now reaps (MakeSocket kind options) reply h step (socket_row kind options (control_of old)) (socket_made (answers_in h) (control_of old) kind options)
      (ap (λ (l : Listed ObjId). l.items) room) (omega (arith, one, spare)) (λ some. omega (arith, one, some, spare))

-- ---- the mailbox of a closed socket
pub not_root : (slot : ℕ) → (slot == 0) ≡ false → slot ≢ 0
not_root slot other same = never (sym other ∙ eq-eqb slot 0 same)

pub its_mailbox : {G N S : Type 0} (slot : ℕ) (d : Lent G N S) (whose : IsOfClosed slot d) (h : Holding N) → HasWhatTheySay d.caller (moments_of d) h → ((m i : ℕ) → served_by d m i ≡ true → h.holds i ≡ true) → IsOfSocket slot d h
its_mailbox slot d whose h has lent =
    let holds = lent slot whose.socket whose.serves in
    record { its = record { object = whose.socket; has = holds; here = whose.left (has.objects whose.socket holds) }; socket = whose.kind }

-- ---- room that is kept for a socket that is not made yet
pub room_more : (kept now : Listed ObjId) → now ≡ with_room 1 kept → 1 ≤ now.spare
room_more kept now is = let spare : now.spare ≡ kept.spare + 1 = ap (λ (l : Listed ObjId). l.spare) is in omega (arith, spare)

-- and that is given up where memory wants
pub reaps_back : {G N S : Type 0} (ms : List Mark) (wakers : ℕ) (old new : Past G N S) (kept more now : Listed ObjId) → IsLent ms old wakers → IsReaping (control_of old) kept → new ≡ old → more ≡ with_room 1 kept → now ≡ without_room 1 more → IsLent ms new wakers × IsReaping (control_of new) now
reaps_back {G} {N} {S} ms wakers old new kept more now lent reaps stays larger less =
    let spare : now.spare ≡ kept.spare + 1 - 1 = ap (λ (l : Listed ObjId). l.spare) (less ∙ ap (λ (l : Listed ObjId). without_room 1 l) larger) in (
      subst (λ (p : Past G N S). IsLent ms p wakers) (sym stays) lent,
      subst (λ (p : Past G N S). IsReaping (control_of p) now) (sym stays)
          (same_room (control_of old) kept reaps now (ap (λ (l : Listed ObjId). l.items) (less ∙ ap (λ (l : Listed ObjId). without_room 1 l) larger)) (omega (arith, spare))),
    )
