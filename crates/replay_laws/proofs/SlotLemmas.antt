-- Each object has a mailbox of its kind's, and a socket one of its own.
use Rattle.std.specs.Prelude.{◌≡◌, ◌<◌, ◌≤◌, ◌+◌, ℕ, zero, suc, Bool, true, false, cond, List, [], ◌∷◌, ◌++◌, All, filter, flat_map, map, slice_index_or, slice_set, refl}
use Rattle.std.proofs.Common.{arith, sym, ap, ◌∙◌, subst, append-nil, append_assoc}
use Rattle.std.proofs.Math.ListN.{get_or-map}
use Rattle.std.proofs.Math.Nat.{mod-lt}
use Rattle.std.proofs.lemmas.List.{map-append}
use Rattle.std.proofs.lemmas.List.Elements.{All-nil, All-cons, All-append, All-weaker}
use Rattle.zq_base.specs.declared.endpoint.Endpoint.TheVariants.{Inproc, Tcp}
use Rattle.zq_base.specs.declared.ids.ObjId.{ObjId}
use Rattle.spec_control.specs.declared.book.Binding.{Binding}
use Rattle.spec_control.specs.declared.book.Waiting.{Waiting}
use Rattle.std.specs.Prelude.{Option, Some, None}
use Rattle.spec_control.specs.declared.end.Reason.TheVariants.{Closed, BadId, Second, Linger, Link}
use Rattle.spec_control.specs.declared.letter.Letter.{Letter}
use Rattle.spec_control.specs.declared.letter.Word.{Word}
use Rattle.spec_control.specs.declared.letter.Word.TheVariants.{Own, Plug, TermReq, Term, TermAck, PipeBind, PipeTerm, PipeTermAck, Stop, Reap}
use Rattle.spec_control.specs.declared.object.ObjKind.{ObjKind}
use Rattle.spec_control.specs.declared.object.ObjKind.TheVariants.{Root, Socket, Listener, Session}
use Rattle.spec_control.specs.declared.request.Req.{Req}
use Rattle.spec_control.specs.declared.request.Req.TheVariants.{Socket as MakeSocket, AskTerm, Bind, Connect, Unbind, Disconnect, Close, Accepted, Shaken, AskEnd, AskOver, OutputOver}
use Rattle.spec_control.specs.declared.request.Reply.{Reply}
use Rattle.spec_control.specs.declared.request.Reply.TheVariants.{Done, Object, Pair as PairMade, Both, Wait, Asked as WasAsked, Before, Refused}
use Rattle.spec_control.specs.declared.entry.Did.{Did}
use Rattle.spec_control.specs.declared.entry.Did.TheVariants.{Asked as DidAsk, Delivered, Delimited}
use Rattle.spec_control.specs.declared.entry.Item.{Item}
use Rattle.spec_control.specs.declared.entry.Item.TheVariants.{Event, Seen}
use Rattle.spec_control.specs.Register.{fulfilled_by}
use Rattle.spec_control.specs.Row.{Row, LinkEvent, nobody, is_socket, is_listener, link_after}
use Rattle.spec_control.specs.Rows.{Rows, obj}
use Rattle.spec_control.specs.Control.{Control, begun, next_object, next_pair}
use Rattle.spec_control.specs.After.{answers_in, answered, requested, binding_by, socket_row, listener_row, session_row, accepted_row, worker_slot, without_front, after}
use Rattle.spec_control.specs.ControlRun.{Fits, MayAsk, unless_refused, after_all, IsControlRun}
use Rattle.control_laws.proofs.ListLemmas.{never, Pushed, pushed, is_old, is_new}
use Rattle.control_laws.proofs.StepLemmas.{same_kind, same_slot}
use Rattle.control_laws.specs.Kept.{Kept}
use Rattle.control_laws.proofs.RootLemmas.{begun_kept}
use Rattle.control_laws.proofs.RunLemmas.{after_kept}
use Rattle.control_laws.specs.Move.{Move, LinkMoves, EndMoves, ObjectEnds, ObjectMade, PairDrawn, LetterPut, is_named, Leads}
use Rattle.control_laws.specs.OwnMoves.{own_moves, word_moves, request_moves, fulfil_moves, connect_moves, having_taken}
use Rattle.control_laws.proofs.WeighLemmas.{taken_rows}
use Rattle.control_laws.proofs.EventGoLemmas.{event_goes}
use Rattle.replay_laws.specs.Mailboxes.{MayHaveBox, HaveBoxes, SocketsHaveTheirBoxes}
use Rattle.replay_laws.proofs.FrameLemmas.{boxes_made, closings, Requested, requested_framed, processed_framed, delimited_framed}

-- what an object is, and its mailbox
pub record Mark : Type 0 where
  pub kind : ObjKind
  pub slot : ℕ

abbrev pub mark : Row → Mark
mark o = record { kind = o.kind; slot = o.slot }

abbrev pub marks : List Row → List Mark
marks rows = map mark rows

abbrev pub mark_in : List Mark → ℕ → Mark
mark_in ms i = slice_index_or ms i (mark nobody)

pub mark_of : (s : Rows) (i : ℕ) → mark_in (marks s.objects) i ≡ mark (obj s i)
mark_of s i = get_or-map mark s.objects i nobody

-- the rows that moves make
abbrev pub made_at : Move → List Row
made_at (LinkMoves i event) = []
made_at (EndMoves e event) = []
made_at (ObjectEnds i) = []
made_at (ObjectMade row) = row ∷ []
made_at (PairDrawn a b) = []
made_at (LetterPut to word) = []

abbrev pub made : List Move → List Row
made ms = flat_map made_at ms

set_marks : (xs : List Row) (i : ℕ) (y : Row) → mark y ≡ mark (slice_index_or xs i nobody) → marks (slice_set xs i y) ≡ marks xs
set_marks [] i y e = refl
set_marks (x ∷ xs) zero y e = ap (λ (m : Mark). m ∷ marks xs) e
set_marks (x ∷ xs) (suc i) y e = ap (λ (l : List Mark). mark x ∷ l) (set_marks xs i y e)

link_mark : (event : LinkEvent) (o : Row) → mark (link_after event o) ≡ mark o
link_mark event o = λ i. record { kind = same_kind event o i; slot = same_slot event o i }

leads_marks : (ms : List Move) (s : Rows) (boxes : ℕ → List Letter) (d : Control) → Leads ms s boxes d → marks d.rows.objects ≡ marks s.objects ++ marks (made ms)
leads_marks [] s boxes d h = ap (λ (r : Rows). marks r.objects) h.0 ∙ sym (append-nil (marks s.objects))
leads_marks (LinkMoves i event ∷ ms) s boxes d h =
    leads_marks ms _ _ d h.1 ∙ ap (λ l. l ++ marks (made ms)) (set_marks s.objects i (link_after event (obj s i)) (link_mark event (obj s i)))
leads_marks (EndMoves e event ∷ ms) s boxes d h = leads_marks ms _ _ d h.1
leads_marks (ObjectEnds i ∷ ms) s boxes d h = leads_marks ms _ _ d h.1 ∙ ap (λ l. l ++ marks (made ms)) (set_marks s.objects i _ refl)
leads_marks (ObjectMade row ∷ ms) s boxes d h =
    leads_marks ms _ _ d h.1 ∙ ap (λ l. l ++ marks (made ms)) (map-append mark s.objects (row ∷ [])) ∙ append_assoc (marks s.objects) (mark row ∷ []) (marks (made ms))
leads_marks (PairDrawn a b ∷ ms) s boxes d h = leads_marks ms _ _ d h.1
leads_marks (LetterPut to word ∷ ms) s boxes d h = leads_marks ms _ _ d h.1

free_made : (m : Move) → is_named m ≡ false → made_at m ≡ []
free_made (LinkMoves i event) h = refl
free_made (EndMoves e event) h = refl
free_made (ObjectEnds i) h = refl
free_made (ObjectMade row) h = absurd (never (sym h))
free_made (PairDrawn a b) h = refl
free_made (LetterPut to word) h = refl

made_own : (ms : List Move) → made (filter is_named ms) ≡ made ms
made_own [] = refl
made_own (m ∷ ms) = by (is_named m) refl (made_own ms)
  where
    by : (x : Bool) → is_named m ≡ x → made (filter is_named ms) ≡ made ms → made (cond x (m ∷ filter is_named ms) (filter is_named ms)) ≡ made_at m ++ made ms
    by true e rest = ap (λ (l : List Row). made_at m ++ l) rest
    by false e rest = rest ∙ ap (λ (l : List Row). l ++ made ms) (sym (free_made m e))

pub marks_after : {N S : Type 0} (c : Control) (did : Did N S) → Kept c → Fits c did → marks (after did c).rows.objects ≡ marks c.rows.objects ++ marks (made (own_moves c did))
marks_after c did kept fits =
    let g = event_goes c did kept fits in
    leads_marks g.moves (having_taken did c).rows (having_taken did c).boxes (after did c) g.leads
    ∙ ap (λ (s : Rows). marks s.objects ++ marks (made g.moves)) (taken_rows did c)
    ∙ ap (λ l. marks c.rows.objects ++ marks l) (sym (made_own g.moves) ∙ ap made g.own_are)

-- ---- which rows they are
pub fulfils_none : (c : Control) (i k : ℕ) (ws : List Waiting) → made (fulfil_moves c i k ws) ≡ []
fulfils_none c i k [] = refl
fulfils_none c i k (w ∷ ws) = fulfils_none c i (k + 1) ws

pub connects_none : (c : Control) (i : ℕ) (held : Option Binding) → made (connect_moves c i held) ≡ []
connects_none c i None = refl
connects_none c i (Some binding) = refl

-- the boxes of rows that are made: none, a socket's next, or one of a worker's, with the next for nobody
data MakesBox (c : Control) (req : Req) : Type 0 where
  makes_none : made (request_moves c req) ≡ [] → boxes_made req ≡ 0 → MakesBox c req
  makes_socket : (row : Row) → made (request_moves c req) ≡ row ∷ [] → boxes_made req ≡ 1 → is_socket row.kind ≡ true → row.slot ≡ c.slots → MakesBox c req
  makes_other : (row : Row) → made (request_moves c req) ≡ row ∷ [] → boxes_made req ≡ 1 → is_socket row.kind ≡ false → MayHaveBox c.workers c.slots row.kind row.slot → MakesBox c req

-- each object has a mailbox of its kind's, where the marks are these
pub record Boxes (workers slots : ℕ) (ms : List Mark) : Type 0 where
  pub each : (i : ℕ) → MayHaveBox workers slots (mark_in ms i).kind (mark_in ms i).slot
  pub own : (i j : ℕ) → is_socket (mark_in ms i).kind ≡ true → (mark_in ms i).slot ≡ (mark_in ms j).slot → i ≡ j
  pub above : workers < slots

boxes_of : (c : Control) → Type 0
boxes_of c = Boxes c.workers c.slots (marks c.rows.objects)

worker_box : (c : Control) (n : ℕ) → 0 < c.workers → (0 < worker_slot c n) × (worker_slot c n ≤ c.workers)
worker_box c n some = (omega arith, let l = mod-lt n some in omega (arith, l))

listener_box : (w n s : ℕ) (kind : ObjKind) → is_listener kind ≡ true → MayHaveBox w n kind s → (0 < s) × (s ≤ w)
listener_box w n s Root is h = absurd (never is)
listener_box w n s (Socket kind) is h = absurd (never is)
listener_box w n s Listener is h = h
listener_box w n s Session is h = absurd (never is)

makes_box : (c : Control) (req : Req) → 0 < c.workers → ((i : ℕ) → MayHaveBox c.workers c.slots (obj c.rows i).kind (obj c.rows i).slot) → MayAsk c req → MakesBox c req
makes_box c (MakeSocket kind options) some each may = makes_socket (socket_row kind options c) refl refl refl refl
makes_box c AskTerm some each may = makes_none refl refl
makes_box c (Bind o (Inproc name)) some each may = makes_none (fulfils_none c o.0 (next_pair c) (fulfilled_by (Inproc name) (binding_by o.0 c) c.names)) refl
makes_box c (Bind o (Tcp address)) some each may = makes_other (listener_row o.0 c) refl refl refl (worker_box c (next_object c) some)
makes_box c (Connect o (Inproc name)) some each may = makes_none (connects_none c o.0 (c.names.held (Inproc name))) refl
makes_box c (Connect o (Tcp address)) some each may = makes_other (session_row o.0 c) refl refl refl (worker_box c (next_object c) some)
makes_box c (Unbind o at) some each may = makes_none refl refl
makes_box c (Disconnect o at) some each may = makes_none refl refl
makes_box c (Close o) some each may = makes_none refl refl
makes_box c (Accepted o) some each may = makes_other (accepted_row o.0 c) refl refl refl (listener_box c.workers c.slots (obj c.rows o.0).slot (obj c.rows o.0).kind may.0 (each o.0))
makes_box c (Shaken o peer) some each may = makes_none refl refl
makes_box c (AskEnd e Closed) some each may = makes_none refl refl
makes_box c (AskEnd e BadId) some each may = makes_none refl refl
makes_box c (AskEnd e Second) some each may = makes_none refl refl
makes_box c (AskEnd e Linger) some each may = makes_none refl refl
makes_box c (AskEnd e Link) some each may = makes_none refl refl
makes_box c (AskOver o) some each may = makes_none refl refl
makes_box c (OutputOver o) some each may = makes_none refl refl

-- ---- a mark more
box_lower : (w n m : ℕ) (kind : ObjKind) (s : ℕ) → n ≤ m → MayHaveBox w n kind s → MayHaveBox w m kind s
box_lower w n m Root s le h = h
box_lower w n m (Socket kind) s le h = (h.0, let b = h.1 in omega (arith, b, le))
box_lower w n m Listener s le h = h
box_lower w n m Session s le h = h

pub socket_box : (w n s : ℕ) (kind : ObjKind) → is_socket kind ≡ true → MayHaveBox w n kind s → (w < s) × (s < n)
socket_box w n s Root is h = absurd (never is)
socket_box w n s (Socket kind) is h = h
socket_box w n s Listener is h = absurd (never is)
socket_box w n s Session is h = absurd (never is)

other_box : (w n s : ℕ) (kind : ObjKind) → is_socket kind ≡ false → MayHaveBox w n kind s → s ≤ w
other_box w n s Root is h = omega (arith, h)
other_box w n s (Socket kind) is h = absurd (never (sym is))
other_box w n s Listener is h = h.1
other_box w n s Session is h = h.1

below : (w n s : ℕ) (kind : ObjKind) → w < n → MayHaveBox w n kind s → s < n
below w n s Root above h = omega (arith, h, above)
below w n s (Socket kind) above h = h.1
below w n s Listener above h = let b = h.1 in omega (arith, b, above)
below w n s Session above h = let b = h.1 in omega (arith, b, above)

a_socket_more : (w n : ℕ) (ms : List Mark) (m : Mark) → Boxes w n ms → is_socket m.kind ≡ true → m.slot ≡ n → Boxes w (n + 1) (ms ++ m ∷ [])
a_socket_more w n ms m b is at = record { each = λ i. each i (pushed ms m (mark nobody) i); own = λ i j. own i j (pushed ms m (mark nobody) i) (pushed ms m (mark nobody) j); above = let a = b.above in omega (arith, a) }
  where
    fits : (kind : ObjKind) → is_socket kind ≡ true → (w < n) → MayHaveBox w (n + 1) kind n
    fits Root e lt = absurd (never e)
    fits (Socket kind) e lt = (lt, omega arith)
    fits Listener e lt = absurd (never e)
    fits Session e lt = absurd (never e)

    each : (i : ℕ) → Pushed ms m (mark nobody) i → MayHaveBox w (n + 1) (mark_in (ms ++ m ∷ []) i).kind (mark_in (ms ++ m ∷ []) i).slot
    each i (is_old e) = subst (λ (x : Mark). MayHaveBox w (n + 1) x.kind x.slot) (sym e) (box_lower w n (n + 1) (mark_in ms i).kind (mark_in ms i).slot (omega arith) (b.each i))
    each i (is_new here e was) = subst (λ (x : Mark). MayHaveBox w (n + 1) x.kind x.slot) (sym e) (subst (MayHaveBox w (n + 1) m.kind) (sym at) (fits m.kind is b.above))

    own : (i j : ℕ) → Pushed ms m (mark nobody) i → Pushed ms m (mark nobody) j → is_socket (mark_in (ms ++ m ∷ []) i).kind ≡ true → (mark_in (ms ++ m ∷ []) i).slot ≡ (mark_in (ms ++ m ∷ []) j).slot → i ≡ j
    own i j (is_old e) (is_old f) s same = b.own i j (ap (λ (x : Mark). is_socket x.kind) (sym e) ∙ s) (ap (λ (x : Mark). x.slot) (sym e) ∙ same ∙ ap (λ (x : Mark). x.slot) f)
    own i j (is_old e) (is_new here f was) s same =
        let lt = (socket_box w n (mark_in ms i).slot (mark_in ms i).kind (ap (λ (x : Mark). is_socket x.kind) (sym e) ∙ s) (b.each i)).1 in
        let is_n : (mark_in ms i).slot ≡ n = ap (λ (x : Mark). x.slot) (sym e) ∙ same ∙ ap (λ (x : Mark). x.slot) f ∙ at in
        absurd (omega (arith, lt, is_n))
    own i j (is_new here e was) (is_old f) s same =
        let lt = below w n (mark_in ms j).slot (mark_in ms j).kind b.above (b.each j) in
        let is_n : (mark_in ms j).slot ≡ n = ap (λ (x : Mark). x.slot) (sym f) ∙ sym same ∙ ap (λ (x : Mark). x.slot) e ∙ at in
        absurd (omega (arith, lt, is_n))
    own i j (is_new here e was) (is_new there f gone) s same = here ∙ sym there

another_more : (w n : ℕ) (ms : List Mark) (m : Mark) → Boxes w n ms → is_socket m.kind ≡ false → MayHaveBox w n m.kind m.slot → Boxes w (n + 1) (ms ++ m ∷ [])
another_more w n ms m b is fits = record { each = λ i. each i (pushed ms m (mark nobody) i); own = λ i j. own i j (pushed ms m (mark nobody) i) (pushed ms m (mark nobody) j); above = let a = b.above in omega (arith, a) }
  where
    each : (i : ℕ) → Pushed ms m (mark nobody) i → MayHaveBox w (n + 1) (mark_in (ms ++ m ∷ []) i).kind (mark_in (ms ++ m ∷ []) i).slot
    each i (is_old e) = subst (λ (x : Mark). MayHaveBox w (n + 1) x.kind x.slot) (sym e) (box_lower w n (n + 1) (mark_in ms i).kind (mark_in ms i).slot (omega arith) (b.each i))
    each i (is_new here e was) = subst (λ (x : Mark). MayHaveBox w (n + 1) x.kind x.slot) (sym e) (box_lower w n (n + 1) m.kind m.slot (omega arith) fits)

    own : (i j : ℕ) → Pushed ms m (mark nobody) i → Pushed ms m (mark nobody) j → is_socket (mark_in (ms ++ m ∷ []) i).kind ≡ true → (mark_in (ms ++ m ∷ []) i).slot ≡ (mark_in (ms ++ m ∷ []) j).slot → i ≡ j
    own i j (is_old e) (is_old f) s same = b.own i j (ap (λ (x : Mark). is_socket x.kind) (sym e) ∙ s) (ap (λ (x : Mark). x.slot) (sym e) ∙ same ∙ ap (λ (x : Mark). x.slot) f)
    own i j (is_old e) (is_new here f was) s same =
        let lt = (socket_box w n (mark_in ms i).slot (mark_in ms i).kind (ap (λ (x : Mark). is_socket x.kind) (sym e) ∙ s) (b.each i)).0 in
        let le = other_box w n m.slot m.kind is fits in
        let at : (mark_in ms i).slot ≡ m.slot = ap (λ (x : Mark). x.slot) (sym e) ∙ same ∙ ap (λ (x : Mark). x.slot) f in
        absurd (omega (arith, lt, le, at))
    own i j (is_new here e was) q s same = absurd (never (sym (sym s ∙ ap (λ (x : Mark). is_socket x.kind) e ∙ is)))

-- ---- each event
pub record Good (w n : ℕ) (closed : List ObjId) (ms : List Mark) : Type 0 where
  pub boxes : Boxes w n ms
  pub sockets : All (λ o. is_socket (mark_in ms o.0).kind ≡ true) closed
  pub some : 0 < w

abbrev pub IsGood : Control → Type 0
IsGood c = Good c.workers c.slots c.closed (marks c.rows.objects)

good_as : {v w m n : ℕ} {xs ys : List ObjId} {ks ms : List Mark} → v ≡ w → m ≡ n → xs ≡ ys → ks ≡ ms → Good w n ys ms → Good v m xs ks
good_as {v} {w} {m} {n} {xs} {ys} {ks} {ms} p q r s good =
    subst (λ x. Good x m xs ks) (sym p) (subst (λ x. Good w x xs ks) (sym q) (subst (λ x. Good w n x ks) (sym r) (subst (Good w n ys) (sym s) good)))

still_socket : (ms : List Mark) (m : Mark) (i : ℕ) → is_socket (mark_in ms i).kind ≡ true → is_socket (mark_in (ms ++ m ∷ []) i).kind ≡ true
still_socket ms m i is = by (pushed ms m (mark nobody) i)
  where
    by : Pushed ms m (mark nobody) i → is_socket (mark_in (ms ++ m ∷ []) i).kind ≡ true
    by (is_old e) = ap (λ (x : Mark). is_socket x.kind) e ∙ is
    by (is_new here e was) = absurd (never (sym (sym is ∙ ap (λ (x : Mark). is_socket x.kind) was)))

closed_more : (c : Control) (req : Req) → MayAsk c req → All (λ o. is_socket (mark_in (marks c.rows.objects) o.0).kind ≡ true) (closings req)
closed_more c (MakeSocket kind options) may = All-nil _
closed_more c AskTerm may = All-nil _
closed_more c (Bind o at) may = All-nil _
closed_more c (Connect o at) may = All-nil _
closed_more c (Unbind o at) may = All-nil _
closed_more c (Disconnect o at) may = All-nil _
closed_more c (Close o) may =
    let P : ObjId → Type 0 = λ (x : ObjId). is_socket (mark_in (marks c.rows.objects) x.0).kind ≡ true in
    All-cons P o [] (ap (λ (m : Mark). is_socket m.kind) (mark_of c.rows o.0) ∙ may.socket) (All-nil P)
closed_more c (Accepted o) may = All-nil _
closed_more c (Shaken o peer) may = All-nil _
closed_more c (AskEnd e reason) may = All-nil _
closed_more c (AskOver o) may = All-nil _
closed_more c (OutputOver o) may = All-nil _

-- a request that is not refused
asked_good : (c d : Control) (req : Req) → IsGood c → MayAsk c req → Requested req c d → marks d.rows.objects ≡ marks c.rows.objects ++ marks (made (request_moves c req)) → IsGood d
asked_good c d req good may did_so rows = by (makes_box c req good.some each may)
  where
    each : (i : ℕ) → MayHaveBox c.workers c.slots (obj c.rows i).kind (obj c.rows i).slot
    each i = subst (λ (m : Mark). MayHaveBox c.workers c.slots m.kind m.slot) (mark_of c.rows i) (good.boxes.each i)

    closed : All (λ o. is_socket (mark_in (marks c.rows.objects) o.0).kind ≡ true) (c.closed ++ closings req)
    closed = All-append (λ (o : ObjId). is_socket (mark_in (marks c.rows.objects) o.0).kind ≡ true) c.closed (closings req) good.sockets (closed_more c req may)

    more : (m : Mark) → All (λ o. is_socket (mark_in (marks c.rows.objects ++ m ∷ []) o.0).kind ≡ true) (c.closed ++ closings req)
    more m = All-weaker (λ (o : ObjId). is_socket (mark_in (marks c.rows.objects) o.0).kind ≡ true) (λ (o : ObjId). is_socket (mark_in (marks c.rows.objects ++ m ∷ []) o.0).kind ≡ true)
        (λ o. still_socket (marks c.rows.objects) m o.0) (c.closed ++ closings req) closed

    plus : (k : ℕ) → boxes_made req ≡ k → d.slots ≡ c.slots + k
    plus k e = did_so.slots ∙ ap (λ (x : ℕ). c.slots + x) e

    by : MakesBox c req → IsGood d
    by (makes_none none no_box) =
        good_as did_so.workers (let p = plus 0 no_box in omega (arith, p)) did_so.closed (rows ∙ ap (λ l. marks c.rows.objects ++ marks l) none ∙ append-nil (marks c.rows.objects))
        (record { boxes = good.boxes; sockets = closed; some = good.some })
    by (makes_socket row one box is at) =
        good_as did_so.workers (plus 1 box) did_so.closed (rows ∙ ap (λ l. marks c.rows.objects ++ marks l) one)
        (record { boxes = a_socket_more c.workers c.slots (marks c.rows.objects) (mark row) good.boxes is at; sockets = more (mark row); some = good.some })
    by (makes_other row one box is fits) =
        good_as did_so.workers (plus 1 box) did_so.closed (rows ∙ ap (λ l. marks c.rows.objects ++ marks l) one)
        (record { boxes = another_more c.workers c.slots (marks c.rows.objects) (mark row) good.boxes is fits; sockets = more (mark row); some = good.some })

pub word_makes_none : (at : ℕ) (word : Word) → made (word_moves at word) ≡ []
word_makes_none at (Own child) = refl
word_makes_none at (Plug None) = refl
word_makes_none at (Plug (Some e)) = refl
word_makes_none at (TermReq child) = refl
word_makes_none at Term = refl
word_makes_none at (TermAck child) = refl
word_makes_none at (PipeBind e peer) = refl
word_makes_none at (PipeTerm e) = refl
word_makes_none at (PipeTermAck e) = refl
word_makes_none at Stop = refl
word_makes_none at (Reap socket) = refl

pub good_after : {N S : Type 0} (c : Control) (did : Did N S) → Kept c → Fits c did → IsGood c → IsGood (after did c)
good_after c (DidAsk req reply h) kept fits good = by reply fits.may.0 (marks_after c (DidAsk req reply h) kept fits)
  where
    same : marks c.rows.objects ++ [] ≡ marks c.rows.objects
    same = append-nil (marks c.rows.objects)

    by : (r : Reply) → MayAsk c req → marks (answered req r (answers_in h) c).rows.objects ≡ marks c.rows.objects ++ marks (made (unless_refused r (request_moves c req))) → IsGood (answered req r (answers_in h) c)
    by Done may rows = asked_good c (requested req (answers_in h) c) req good may (requested_framed req (answers_in h) c) rows
    by (Object o) may rows = asked_good c (requested req (answers_in h) c) req good may (requested_framed req (answers_in h) c) rows
    by (PairMade p) may rows = asked_good c (requested req (answers_in h) c) req good may (requested_framed req (answers_in h) c) rows
    by (Both o p) may rows = asked_good c (requested req (answers_in h) c) req good may (requested_framed req (answers_in h) c) rows
    by Wait may rows = asked_good c (requested req (answers_in h) c) req good may (requested_framed req (answers_in h) c) rows
    by WasAsked may rows = asked_good c (requested req (answers_in h) c) req good may (requested_framed req (answers_in h) c) rows
    by Before may rows = good
    by (Refused refusal) may rows = good
good_after c (Delivered slot letter h) kept fits good =
    let f = processed_framed (without_front slot.0 c) letter.to.0 letter.word (answers_in h) in
    good_as f.workers f.slots f.closed
    (marks_after c (Delivered slot letter h) kept fits ∙ ap (λ l. marks c.rows.objects ++ marks l) (word_makes_none letter.to.0 letter.word) ∙ append-nil (marks c.rows.objects)) good
good_after c (Delimited e h) kept fits good =
    let f = delimited_framed c e in
    good_as f.workers f.slots f.closed (marks_after c (Delimited e h) kept fits ∙ append-nil (marks c.rows.objects)) good

begun_good : (workers : ℕ) → 0 < workers → IsGood (begun workers)
begun_good workers some = record {
  boxes = record { each = each; own = λ i j is same. absurd (never (sym (sym is ∙ no_socket i))); above = omega arith };
  sockets = All-nil _;
  some = some;
}
  where
    at : (i : ℕ) → mark_in (marks (begun workers).rows.objects) i ≡ mark nobody
    at zero = refl
    at (suc i) = refl

    each : (i : ℕ) → MayHaveBox workers (workers + 1) (mark_in (marks (begun workers).rows.objects) i).kind (mark_in (marks (begun workers).rows.objects) i).slot
    each i = subst (λ (m : Mark). MayHaveBox workers (workers + 1) m.kind m.slot) (sym (at i)) refl

    no_socket : (i : ℕ) → is_socket (mark_in (marks (begun workers).rows.objects) i).kind ≡ false
    no_socket i = ap (λ (m : Mark). is_socket m.kind) (at i)

module _ {N S : Type 0} where
  good_over : (items : List (Item N S)) (c : Control) → Kept c → IsGood c → IsControlRun c items → IsGood (after_all items c)
  good_over [] c kept good run = good
  good_over (Event entry ∷ items) c kept good run = good_over items (after entry.did c) (after_kept c entry.did kept run.0) (good_after c entry.did kept run.0 good) run.1
  good_over (Seen sight ∷ items) c kept good run = good_over items c kept good run.1

pub boxes_are_had : (c : Control) → IsGood c → HaveBoxes c
boxes_are_had c good = record {
  each = λ i. subst (λ (m : Mark). MayHaveBox c.workers c.slots m.kind m.slot) (mark_of c.rows i) (good.boxes.each i);
  own = λ i j is same. good.boxes.own i j (ap (λ (m : Mark). is_socket m.kind) (mark_of c.rows i) ∙ is)
      (ap (λ (m : Mark). m.slot) (mark_of c.rows i) ∙ same ∙ ap (λ (m : Mark). m.slot) (sym (mark_of c.rows j)));
  closed = All-weaker (λ (o : ObjId). is_socket (mark_in (marks c.rows.objects) o.0).kind ≡ true) (λ (o : ObjId). is_socket (obj c.rows o.0).kind ≡ true)
      (λ o is. ap (λ (m : Mark). is_socket m.kind) (sym (mark_of c.rows o.0)) ∙ is) c.closed good.sockets;
}

pub sockets_have_their_boxes : (N S : Type 0) → SocketsHaveTheirBoxes N S
sockets_have_their_boxes N S workers items some run =
    boxes_are_had (after_all items (begun workers)) (good_over items (begun workers) (begun_kept workers) (begun_good workers some) run)
