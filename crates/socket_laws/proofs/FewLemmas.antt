-- How many pairs are made in a control run, and how many ends an object has.
use Rattle.std.specs.Prelude.{◌≡◌, ◌<◌, ◌≤◌, ◌+◌, ◌*◌, ◌==◌, ◌&&◌, ◌||◌, ℕ, Bool, true, false, not, cond, List, [], ◌∷◌, Option, Some, None, All, length, map, filter, is_some, refl}
use Rattle.std.specs.List.{list_any, IsDistinct, AllByRecursion}
use Rattle.std.proofs.Common.{arith, sym, ap, ◌∙◌}
use Rattle.std.proofs.Math.Dec.{eqb}
use Rattle.std.proofs.lemmas.Bool.{eq-eqb, eqb-true}
use Rattle.std.proofs.lemmas.Bool.Decides.{Decides-ltb}
use Rattle.std.proofs.lemmas.List.{length-set, length_push, length-map}
use Rattle.std.proofs.lemmas.List.Elements.{All-head, All-tail, All-filter}
use Rattle.std.proofs.lemmas.Map.Steps.{length-le_from_distinct_below}
use Rattle.zq_base.specs.declared.ids.EndId.{EndId}
use Rattle.zq_base.specs.declared.endpoint.Endpoint.TheVariants.{Inproc, Tcp}
use Rattle.spec_control.specs.declared.book.Binding.{Binding}
use Rattle.spec_control.specs.declared.book.Waiting.{Waiting}
use Rattle.spec_control.specs.declared.end.Reason.TheVariants.{Closed, BadId, Second, Linger, Link}
use Rattle.spec_control.specs.declared.letter.Letter.{Letter}
use Rattle.spec_control.specs.declared.letter.Word.{Word}
use Rattle.spec_control.specs.declared.letter.Word.TheVariants.{Own, Plug, TermReq, Term, TermAck, PipeBind, PipeTerm, PipeTermAck, Stop, Reap}
use Rattle.spec_control.specs.declared.entry.Did.{Did}
use Rattle.spec_control.specs.declared.entry.Did.TheVariants.{Asked, Delivered, Delimited}
use Rattle.spec_control.specs.declared.entry.Item.{Item}
use Rattle.spec_control.specs.declared.entry.Item.TheVariants.{Event, Seen}
use Rattle.spec_control.specs.declared.request.Refusal.{Refusal}
use Rattle.spec_control.specs.declared.request.Refusal.TheVariants.{Term as IsTerm, InUse, BadPair, TooMany}
use Rattle.spec_control.specs.declared.request.Req.{Req}
use Rattle.spec_control.specs.declared.request.Req.TheVariants.{Socket as MakeSocket, AskTerm, Bind, Connect, Unbind, Disconnect, Close, Accepted, Shaken, AskEnd, AskOver, OutputOver}
use Rattle.spec_control.specs.declared.request.Reply.{Reply}
use Rattle.spec_control.specs.declared.request.Reply.TheVariants.{Done, Object, Pair as PairMade, Both, Wait, Asked as WasAsked, Before, Refused}
use Rattle.zq_base.specs.Kind.{fits}
use Rattle.spec_control.specs.EndpointBook.{is_object}
use Rattle.spec_control.specs.Register.{fulfilled_by}
use Rattle.spec_control.specs.Place.{Unmade}
use Rattle.spec_control.specs.Rows.{Rows, obj, pair, pair_after}
use Rattle.spec_control.specs.Control.{Control, begun, id, is_end, same_side, next_object, next_pair, owner_of, ends_of}
use Rattle.spec_control.specs.After.{after, binding_by, kind_of}
use Rattle.spec_control.specs.ControlRun.{Fits, after_all, IsControlRun, unless_refused}
use Rattle.spec_control.specs.Reply.{reply_of, unless, root_asked, connect_reply_at, has_object, has_pairs, most_made_pairs}
use Rattle.control_laws.proofs.ListLemmas.{never, right}
use Rattle.control_laws.specs.Kept.{Kept}
use Rattle.control_laws.proofs.RootLemmas.{begun_kept}
use Rattle.control_laws.proofs.RunLemmas.{is_granted, after_kept}
use Rattle.control_laws.specs.Move.{Move, LinkMoves, EndMoves, ObjectEnds, ObjectMade, PairDrawn, LetterPut, move_rows, move_boxes, is_named, Leads}
use Rattle.control_laws.specs.OwnMoves.{fulfil_moves, connect_moves, request_moves, word_moves, own_moves, having_taken}
use Rattle.control_laws.proofs.WeighLemmas.{taken_rows}
use Rattle.control_laws.proofs.EventGoLemmas.{event_goes}
use Rattle.control_laws.specs.AttachedOnce.{AreOnce}
use Rattle.control_laws.proofs.AttachedOnceLemmas.{IsOld, old_run, ends_are_attached_once}
use Rattle.socket_laws.specs.Bounds.{EndsAreFew}
use Rattle.socket_laws.proofs.EndLemmas.{none_among, once_filter}

-- ---- how many pairs moves draw
abbrev drawn_at : Move → ℕ
drawn_at (LinkMoves i event) = 0
drawn_at (EndMoves e event) = 0
drawn_at (ObjectEnds i) = 0
drawn_at (ObjectMade row) = 0
drawn_at (PairDrawn a b) = 1
drawn_at (LetterPut to word) = 0

abbrev drawn_in : List Move → ℕ
drawn_in [] = 0
drawn_in (m ∷ ms) = drawn_at m + drawn_in ms

pairs_step : (m : Move) (s : Rows) → length (move_rows m s).pairs ≡ length s.pairs + drawn_at m
pairs_step (LinkMoves i event) s = omega arith
pairs_step (EndMoves e event) s = let same = length-set s.pairs e.pair.0 (pair_after event e.a (pair s e.pair.0)) in omega (arith, same)
pairs_step (ObjectEnds i) s = omega arith
pairs_step (ObjectMade row) s = omega arith
pairs_step (PairDrawn a b) s = let more = length_push s.pairs (record { a_owner = a; b_owner = b; a = Unmade; b = Unmade }) in omega (arith, more)
pairs_step (LetterPut to word) s = omega arith

leads_pairs : (ms : List Move) (s : Rows) (boxes : ℕ → List Letter) (d : Control) → Leads ms s boxes d → next_pair d ≡ length s.pairs + drawn_in ms
leads_pairs [] s boxes d h = let same = ap (λ (r : Rows). length r.pairs) h.0 in omega (arith, same)
leads_pairs (m ∷ ms) s boxes d h =
    let one = pairs_step m s in
    let rest = leads_pairs ms (move_rows m s) (move_boxes m s boxes) d h.1 in
    omega (arith, one, rest)

free_drawn : (m : Move) → is_named m ≡ false → drawn_at m ≡ 0
free_drawn (LinkMoves i event) h = refl
free_drawn (EndMoves e event) h = refl
free_drawn (ObjectEnds i) h = refl
free_drawn (ObjectMade row) h = refl
free_drawn (PairDrawn a b) h = absurd (never (sym h))
free_drawn (LetterPut to word) h = refl

drawn_own : (ms : List Move) → drawn_in (filter is_named ms) ≡ drawn_in ms
drawn_own [] = refl
drawn_own (m ∷ ms) = by (is_named m) refl (drawn_own ms)
  where
    by : (x : Bool) → is_named m ≡ x → drawn_in (filter is_named ms) ≡ drawn_in ms → drawn_in (cond x (m ∷ filter is_named ms) (filter is_named ms)) ≡ drawn_at m + drawn_in ms
    by true h rest = ap (λ (n : ℕ). drawn_at m + n) rest
    by false h rest = (let none = free_drawn m h in omega (arith, rest, none))

drawn_fulfil : (c : Control) (i k : ℕ) (ws : List Waiting) → drawn_in (fulfil_moves c i k ws) ≡ length ws
drawn_fulfil c i k [] = refl
drawn_fulfil c i k (w ∷ ws) = let rest = drawn_fulfil c i (k + 1) ws in omega (arith, rest)

drawn_word : (to : ℕ) (word : Word) → drawn_in (word_moves to word) ≡ 0
drawn_word to (Own child) = refl
drawn_word to (Plug None) = refl
drawn_word to (Plug (Some e)) = refl
drawn_word to (TermReq child) = refl
drawn_word to Term = refl
drawn_word to (TermAck child) = refl
drawn_word to (PipeBind e peer) = refl
drawn_word to (PipeTerm e) = refl
drawn_word to (PipeTermAck e) = refl
drawn_word to Stop = refl
drawn_word to (Reap socket) = refl

-- ---- there is a number for each
past : (b : Bool) (refusal : Refusal) (r : Reply) → is_granted (unless b refusal r) ≡ true → (b ≡ false) × (is_granted r ≡ true)
past true refusal r h = absurd (never h)
past false refusal r h = (refl, h)

not_not : (b : Bool) → not b ≡ false → b ≡ true
not_not true h = refl
not_not false h = absurd (never (sym h))

module _ (c : Control) where
  room : (n : ℕ) → has_pairs n c ≡ true → next_pair c + n ≤ most_made_pairs + 1
  room n is = let less = (Decides-ltb (next_pair c + n) (most_made_pairs + 2)).0 is in omega (arith, less)

  -- the numbers of those that a request draws
  abbrev Within : List Move → Type 0
  Within ms = next_pair c + drawn_in ms ≤ most_made_pairs + 1

  none_within : (few : next_pair c ≤ most_made_pairs + 1) (ms : List Move) → drawn_in ms ≡ 0 → Within ms
  none_within few ms none = omega (arith, few, none)

  module _ (few : next_pair c ≤ most_made_pairs + 1) where
    connects_within : (i : ℕ) (held : Option Binding) → is_granted (connect_reply_at i held c) ≡ true → Within (connect_moves c i held)
    connects_within i None h = none_within few [] refl
    connects_within i (Some binding) h =
        let made = PairMade (record { 0 = next_pair c }) in
        let behind = past (is_object binding.holder (id i) || not (fits binding.kind (kind_of (obj c.rows i).kind))) BadPair (unless (not (has_pairs 1 c)) TooMany made) h in
        room 1 (not_not (has_pairs 1 c) (past (not (has_pairs 1 c)) TooMany made behind.1).0)

    has_room_for : (reply : Reply) → is_granted (unless (not (has_object c && has_pairs 1 c)) TooMany reply) ≡ true → next_pair c + 1 ≤ most_made_pairs + 1
    has_room_for reply h = room 1 (right (has_object c) (has_pairs 1 c) (not_not (has_object c && has_pairs 1 c) (past (not (has_object c && has_pairs 1 c)) TooMany reply h).0))

    request_within : (req : Req) → is_granted (reply_of c req) ≡ true → Within (request_moves c req)
    request_within (MakeSocket kind options) h = none_within few (request_moves c (MakeSocket kind options)) refl
    request_within AskTerm h = none_within few (request_moves c AskTerm) refl
    request_within (Bind o (Inproc name)) h =
        let many = length (fulfilled_by (Inproc name) (binding_by o.0 c) c.names) in
        let open_root = past (root_asked c) IsTerm (unless (is_some (c.names.held (Inproc name))) InUse (unless (not (has_pairs many c)) TooMany Done)) h in
        let unheld = past (is_some (c.names.held (Inproc name))) InUse (unless (not (has_pairs many c)) TooMany Done) open_root.1 in
        let enough = room many (not_not (has_pairs many c) (past (not (has_pairs many c)) TooMany Done unheld.1).0) in
        let drawn = drawn_fulfil c o.0 (next_pair c) (fulfilled_by (Inproc name) (binding_by o.0 c) c.names) in
        omega (arith, enough, drawn)
    request_within (Bind o (Tcp address)) h = none_within few (request_moves c (Bind o (Tcp address))) refl
    request_within (Connect o (Inproc name)) h = connects_within o.0 (c.names.held (Inproc name)) (past (root_asked c) IsTerm (connect_reply_at o.0 (c.names.held (Inproc name)) c) h).1
    request_within (Connect o (Tcp address)) h =
        let made = Both (id (next_object c)) (record { 0 = next_pair c }) in
        has_room_for made (past (root_asked c) IsTerm (unless (not (has_object c && has_pairs 1 c)) TooMany made) h).1
    request_within (Unbind o at) h = none_within few [] refl
    request_within (Disconnect o at) h = none_within few [] refl
    request_within (Close o) h = none_within few (request_moves c (Close o)) refl
    request_within (Accepted o) h = has_room_for (Both (id (next_object c)) (record { 0 = next_pair c })) h
    request_within (Shaken o peer) h = none_within few (request_moves c (Shaken o peer)) refl
    request_within (AskEnd e Closed) h = none_within few [] refl
    request_within (AskEnd e BadId) h = none_within few [] refl
    request_within (AskEnd e Second) h = none_within few [] refl
    request_within (AskEnd e Linger) h = none_within few (request_moves c (AskEnd e Linger)) refl
    request_within (AskEnd e Link) h = none_within few (request_moves c (AskEnd e Link)) refl
    request_within (AskOver o) h = none_within few (request_moves c (AskOver o)) refl
    request_within (OutputOver o) h = none_within few [] refl

    asked_within : (req : Req) (reply : Reply) → reply ≡ reply_of c req → Within (unless_refused reply (request_moves c req))
    asked_within req Done is = request_within req (ap is_granted (sym is))
    asked_within req (Object o) is = request_within req (ap is_granted (sym is))
    asked_within req (PairMade p) is = request_within req (ap is_granted (sym is))
    asked_within req (Both o p) is = request_within req (ap is_granted (sym is))
    asked_within req Wait is = request_within req (ap is_granted (sym is))
    asked_within req WasAsked is = request_within req (ap is_granted (sym is))
    asked_within req Before is = none_within few [] refl
    asked_within req (Refused refusal) is = none_within few [] refl

    own_within : {N S : Type 0} (did : Did N S) → Fits c did → Within (own_moves c did)
    own_within (Asked req reply h) fits_so = asked_within req reply fits_so.may.1
    own_within (Delivered slot letter h) fits_so = none_within few (word_moves letter.to.0 letter.word) (drawn_word letter.to.0 letter.word)
    own_within (Delimited e h) fits_so = none_within few (own_moves c (Delimited e h)) refl

module _ {N S : Type 0} where
  few_after : (c : Control) (did : Did N S) → Kept c → Fits c did → next_pair c ≤ most_made_pairs + 1 → next_pair (after did c) ≤ most_made_pairs + 1
  few_after c did kept fits_so few =
      let g = event_goes c did kept fits_so in
      let grown = leads_pairs g.moves (having_taken did c).rows (having_taken did c).boxes (after did c) g.leads in
      let same = ap (λ (r : Rows). length r.pairs) (taken_rows did c) in
      let own = sym (drawn_own g.moves) ∙ ap drawn_in g.own_are in
      let within = own_within c few did fits_so in
      omega (arith, grown, same, own, within)

  few_over : (items : List (Item N S)) (c : Control) → Kept c → IsControlRun c items → next_pair c ≤ most_made_pairs + 1 → next_pair (after_all items c) ≤ most_made_pairs + 1
  few_over [] c kept run few = few
  few_over (Event entry ∷ items) c kept run few = few_over items (after entry.did c) (after_kept c entry.did kept run.0) run.1 (few_after c entry.did kept run.0 few)
  few_over (Seen sight ∷ items) c kept run few = few_over items c kept run.1 few

-- ---- ends that stand once, of so many pairs
-- the number of an end
abbrev code : EndId → ℕ
code e = 2 * e.pair.0 + cond e.a 1 0

codes_differ : (e x : EndId) → is_end e x ≡ false → eqb (code e) (code x) ≡ false
codes_differ e x other = by (eqb (code e) (code x)) refl
  where
    apart : (a b : Bool) (m n : ℕ) → 2 * m + cond a 1 0 ≡ 2 * n + cond b 1 0 → (m ≡ n) × (same_side a b ≡ true)
    apart true true m n h = (omega (arith, h), refl)
    apart true false m n h = absurd (omega (arith, h))
    apart false true m n h = absurd (omega (arith, h))
    apart false false m n h = (omega (arith, h), refl)

    by : (b : Bool) → eqb (code e) (code x) ≡ b → b ≡ false
    by true is =
        let both = apart e.a x.a e.pair.0 x.pair.0 (eqb-true (code e) (code x) is) in
        absurd (never (sym other ∙ (ap (λ (b : Bool). b && same_side e.a x.a) (eq-eqb e.pair.0 x.pair.0 both.0) ∙ both.1)))
    by false off = refl

all_differ : (e : EndId) (es : List EndId) → All (λ x. is_end e x ≡ false) es → AllByRecursion (λ y. eqb (code e) y ≡ false) (map code es)
all_differ e [] all = tt
all_differ e (x ∷ es) all = (codes_differ e x (All-head (λ y. is_end e y ≡ false) x es all), all_differ e es (All-tail (λ y. is_end e y ≡ false) x es all))

distinct : (es : List EndId) → AreOnce es → IsDistinct eqb (map code es)
unfolding IsDistinct
distinct [] once = tt
distinct (e ∷ es) once = (all_differ e es (none_among e es once.0), distinct es once.1)

below : (n : ℕ) (es : List EndId) → All (λ e. e.pair.0 < n) es → (q : ℕ) → list_any (eqb q) (map code es) ≡ true → q < 2 * n
below n [] all q is = absurd (never is)
below n (e ∷ es) all q is = by (eqb q (code e)) refl (below n es (All-tail (λ x. x.pair.0 < n) e es all) q) is
  where
    side : (a : Bool) (m : ℕ) → m < n → q ≡ 2 * m + cond a 1 0 → q < 2 * n
    side true m within h = omega (arith, within, h)
    side false m within h = omega (arith, within, h)

    by : (b : Bool) → eqb q (code e) ≡ b → (list_any (eqb q) (map code es) ≡ true → q < 2 * n) → (b || list_any (eqb q) (map code es)) ≡ true → q < 2 * n
    by true same rest found = side e.a e.pair.0 (All-head (λ x. x.pair.0 < n) e es all) (eqb-true q (code e) same)
    by false off rest found = rest found

few_ends : (n : ℕ) (es : List EndId) → AreOnce es → All (λ e. e.pair.0 < n) es → length es ≤ 2 * n
few_ends n es once within =
    let many = length-le_from_distinct_below (map code es) (2 * n) (distinct es once) (below n es within) in
    let same = length-map es code in
    omega (arith, many, same)

pub ends_are_few : (N S : Type 0) → EndsAreFew N S
ends_are_few N S io items run o = record {
  ends = few_ends (next_pair c) (ends_of o c) (once_filter (λ e. owner_of c e == o) c.attached (ends_are_attached_once N S io items run)) (All-filter (λ e. owner_of c e == o) (λ e. e.pair.0 < next_pair c) c.attached within);
  pairs = few_over items (begun io) (begun_kept io) run (omega arith);
}
  where
    c : Control
    c = after_all items (begun io)

    all_within : (es : List EndId) → All (IsOld c) es → All (λ e. e.pair.0 < next_pair c) es
    all_within es old k x lt = (old k x lt).within

    within : All (λ e. e.pair.0 < next_pair c) c.attached
    within = all_within c.attached (old_run io items run)
