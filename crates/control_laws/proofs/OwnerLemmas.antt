-- Whose the ends are that an event attaches.
use Rattle.std.specs.Prelude.{◌≡◌, ◌<◌, ◌+◌, ℕ, zero, suc, Bool, true, false, cond, List, [], ◌∷◌, Option, Some, None, All, length, filter, refl}
use Rattle.std.proofs.Common.{arith, sym, ap, ◌∙◌, subst, inl, inr}
use Rattle.std.proofs.lemmas.Bool.{cases_lt}
use Rattle.std.proofs.lemmas.List.{get_or_past, get_or_push, length_push, length-set}
use Rattle.std.proofs.lemmas.List.Elements.{All-nil, All-cons}
use Rattle.zq_base.specs.declared.endpoint.Endpoint.TheVariants.{Inproc, Tcp}
use Rattle.zq_base.specs.declared.ids.EndId.{EndId}
use Rattle.zq_base.specs.declared.ids.ObjId.{ObjId}
use Rattle.zq_base.specs.declared.ids.SlotId.{SlotId}
use Rattle.spec_control.specs.declared.book.Binding.{Binding}
use Rattle.spec_control.specs.declared.book.Waiting.{Waiting}
use Rattle.spec_control.specs.declared.letter.Letter.{Letter}
use Rattle.spec_control.specs.declared.letter.Word.{Word}
use Rattle.spec_control.specs.declared.letter.Word.TheVariants.{Own, Plug, TermReq, Term, TermAck, PipeBind, PipeTerm, PipeTermAck, Stop, Reap}
use Rattle.spec_control.specs.declared.entry.Answered.{Answered}
use Rattle.spec_control.specs.declared.entry.Did.{Did}
use Rattle.spec_control.specs.declared.entry.Did.TheVariants.{Asked as DidAsk, Delivered, Delimited}
use Rattle.spec_control.specs.declared.end.Reason.TheVariants.{Closed, BadId, Second, Linger, Link}
use Rattle.spec_control.specs.declared.request.Req.{Req}
use Rattle.spec_control.specs.declared.request.Req.TheVariants.{Socket as MakeSocket, AskTerm, Bind, Connect, Unbind, Disconnect, Close, Accepted, Shaken, AskEnd, AskOver, OutputOver}
use Rattle.spec_control.specs.declared.request.Reply.{Reply}
use Rattle.spec_control.specs.declared.request.Reply.TheVariants.{Done, Object, Pair, Both, Wait, Asked as WasAsked, Before, Refused}
use Rattle.spec_control.specs.Register.{fulfilled_by}
use Rattle.spec_control.specs.Place.{Unmade, is_unmade}
use Rattle.spec_control.specs.PairPhase.{BindCame}
use Rattle.spec_control.specs.Rows.{Rows, PairRow, no_pair, obj, end_owner, end_place}
use Rattle.spec_control.specs.Control.{Control, end_of, next_pair, owner_of, place_of}
use Rattle.spec_control.specs.After.{after, binding_by, pair_or_none}
use Rattle.spec_control.specs.ControlRun.{Fits, MayAsk}
use Rattle.spec_control.specs.Held.{subject_of}
use Rattle.control_laws.proofs.ListLemmas.{never}
use Rattle.control_laws.proofs.RowLemmas.{pair_there}
use Rattle.control_laws.specs.Kept.{Kept}
use Rattle.control_laws.specs.Move.{Move, LinkMoves, EndMoves, ObjectEnds, ObjectMade, PairDrawn, LetterPut, move_rows, move_boxes, is_named, Leads}
use Rattle.control_laws.specs.OwnMoves.{fulfil_moves, connect_moves, request_moves, word_moves, own_moves, having_taken}
use Rattle.control_laws.specs.Coming.{ComesToEnd}
use Rattle.control_laws.proofs.EventGoLemmas.{event_goes}
use Rattle.control_laws.proofs.GuardLemmas.{may_come}
use Rattle.control_laws.proofs.WeighLemmas.{taken_rows}
use Rattle.control_laws.proofs.MoveLemmas.{owner_in, move_many, move_owner}
use Rattle.control_laws.proofs.LeadLemmas.{attached_by}

-- ---- over moves
leads_owner : (ms : List Move) (s : Rows) (boxes : ℕ → List Letter) (d : Control) → Leads ms s boxes d → (e : EndId) → e.pair.0 < length s.pairs → owner_of d e ≡ owner_in s e
leads_owner [] s boxes d h e within = ap (λ (r : Rows). owner_in r e) h.0
leads_owner (m ∷ ms) s boxes d h e within =
    let many = move_many m s in
    leads_owner ms (move_rows m s) (move_boxes m s boxes) d h.1 e (omega (arith, within, many)) ∙ move_owner m s h.0 e within

-- the owner of this side of the j-th pair that they draw
abbrev drawn_at : Bool → ℕ → List Move → Option ℕ
drawn_at x j [] = None
drawn_at x j (LinkMoves i event ∷ ms) = drawn_at x j ms
drawn_at x j (EndMoves e event ∷ ms) = drawn_at x j ms
drawn_at x j (ObjectEnds i ∷ ms) = drawn_at x j ms
drawn_at x j (ObjectMade row ∷ ms) = drawn_at x j ms
drawn_at x zero (PairDrawn a b ∷ ms) = Some (cond x a b)
drawn_at x (suc j) (PairDrawn a b ∷ ms) = drawn_at x j ms
drawn_at x j (LetterPut to word ∷ ms) = drawn_at x j ms

none_some : {y : ℕ} → None ≡ Some y → ⊥
none_some f = Prim.grind arith

some_is : {x y : ℕ} → Some x ≡ Some y → x ≡ y
some_is f = Prim.grind arith

abbrev DrawnSo : List Move → Rows → Control → Type 0
DrawnSo ms s d = (x : Bool) (j o : ℕ) → drawn_at x j ms ≡ Some o → owner_of d (end_of (length s.pairs + j) x) ≡ o

as_many : (ms : List Move) (s t : Rows) (d : Control) → length t.pairs ≡ length s.pairs → DrawnSo ms t d → DrawnSo ms s d
as_many ms s t d many so x j o is = ap (λ (n : ℕ). owner_of d (end_of (n + j) x)) (sym many) ∙ so x j o is

first_drawn : (a b : ℕ) (ms : List Move) (s : Rows) (boxes : ℕ → List Letter) (d : Control) → Leads ms (move_rows (PairDrawn a b) s) boxes d → DrawnSo ms (move_rows (PairDrawn a b) s) d →
    (x : Bool) (j o : ℕ) → drawn_at x j (PairDrawn a b ∷ ms) ≡ Some o → owner_of d (end_of (length s.pairs + j) x) ≡ o
first_drawn a b ms s boxes d h rest x zero o is =
    let row : PairRow = record { a_owner = a; b_owner = b; a = Unmade; b = Unmade } in
    let last : length s.pairs + 0 ≡ length s.pairs = omega arith in
    let more = length_push s.pairs row in
    leads_owner ms (move_rows (PairDrawn a b) s) boxes d h (end_of (length s.pairs + 0) x) (omega (arith, last, more))
    ∙ ap (λ (p : PairRow). end_owner p x) (get_or_push s.pairs row no_pair (length s.pairs + 0) (sym last)) ∙ side x ∙ some_is is
  where
    side : (y : Bool) → end_owner (record { a_owner = a; b_owner = b; a = Unmade; b = Unmade }) y ≡ cond y a b
    side true = refl
    side false = refl
first_drawn a b ms s boxes d h rest x (suc j) o is =
    let more = length_push s.pairs (record { a_owner = a; b_owner = b; a = Unmade; b = Unmade }) in
    ap (λ (n : ℕ). owner_of d (end_of n x)) (let e : length s.pairs + suc j ≡ length (move_rows (PairDrawn a b) s).pairs + j = omega (arith, more) in e) ∙ rest x j o is

leads_drawn : (ms : List Move) (s : Rows) (boxes : ℕ → List Letter) (d : Control) → Leads ms s boxes d → DrawnSo ms s d
leads_drawn [] s boxes d h = λ x j o is. absurd (none_some is)
leads_drawn (LinkMoves i event ∷ ms) s boxes d h = as_many ms s (move_rows (LinkMoves i event) s) d refl (leads_drawn ms _ _ d h.1)
leads_drawn (EndMoves e event ∷ ms) s boxes d h = as_many ms s (move_rows (EndMoves e event) s) d (length-set s.pairs e.pair.0 _) (leads_drawn ms _ _ d h.1)
leads_drawn (ObjectEnds i ∷ ms) s boxes d h = as_many ms s (move_rows (ObjectEnds i) s) d refl (leads_drawn ms _ _ d h.1)
leads_drawn (ObjectMade row ∷ ms) s boxes d h = as_many ms s (move_rows (ObjectMade row) s) d refl (leads_drawn ms _ _ d h.1)
leads_drawn (PairDrawn a b ∷ ms) s boxes d h = first_drawn a b ms s (move_boxes (PairDrawn a b) s boxes) d h.1 (leads_drawn ms _ _ d h.1)
leads_drawn (LetterPut to word ∷ ms) s boxes d h = as_many ms s s d refl (leads_drawn ms _ _ d h.1)

drawn_named : (x : Bool) (j : ℕ) (ms : List Move) → drawn_at x j (filter is_named ms) ≡ drawn_at x j ms
drawn_named x j [] = refl
drawn_named x j (LinkMoves i event ∷ ms) = by (is_named (LinkMoves i event)) (drawn_named x j ms)
  where
    by : (b : Bool) → drawn_at x j (filter is_named ms) ≡ drawn_at x j ms → drawn_at x j (cond b (LinkMoves i event ∷ filter is_named ms) (filter is_named ms)) ≡ drawn_at x j ms
    by true rest = rest
    by false rest = rest
drawn_named x j (EndMoves e event ∷ ms) = by (is_named (EndMoves e event)) (drawn_named x j ms)
  where
    by : (b : Bool) → drawn_at x j (filter is_named ms) ≡ drawn_at x j ms → drawn_at x j (cond b (EndMoves e event ∷ filter is_named ms) (filter is_named ms)) ≡ drawn_at x j ms
    by true rest = rest
    by false rest = rest
drawn_named x j (ObjectEnds i ∷ ms) = drawn_named x j ms
drawn_named x j (ObjectMade row ∷ ms) = drawn_named x j ms
drawn_named x zero (PairDrawn a b ∷ ms) = refl
drawn_named x (suc j) (PairDrawn a b ∷ ms) = drawn_named x j ms
drawn_named x j (LetterPut to word ∷ ms) = drawn_named x j ms

fulfil_drawn : (c : Control) (i k : ℕ) (ws : List Waiting) (j : ℕ) → j < length ws → drawn_at false j (fulfil_moves c i k ws) ≡ Some i
fulfil_drawn c i k [] j lt = absurd (omega (arith, lt))
fulfil_drawn c i k (w ∷ ws) zero lt = refl
fulfil_drawn c i k (w ∷ ws) (suc j) lt = fulfil_drawn c i (k + 1) ws j (omega (arith, lt))

-- ---- of an event
module _ {N S : Type 0} (c : Control) (did : Did N S) (kept : Kept c) (fits : Fits c did) where
  stays : (e : EndId) → e.pair.0 < next_pair c → owner_of (after did c) e ≡ owner_of c e
  stays e within =
      let g = event_goes c did kept fits in
      let rows = taken_rows did c in
      leads_owner g.moves (having_taken did c).rows (having_taken did c).boxes (after did c) g.leads e (subst (λ (r : Rows). e.pair.0 < length r.pairs) (sym rows) within) ∙ ap (λ (r : Rows). owner_in r e) rows

  draws : (x : Bool) (j o : ℕ) → drawn_at x j (own_moves c did) ≡ Some o → owner_of (after did c) (end_of (next_pair c + j) x) ≡ o
  draws x j o is =
      let g = event_goes c did kept fits in
      ap (λ (r : Rows). owner_of (after did c) (end_of (length r.pairs + j) x)) (sym (taken_rows did c))
      ∙ leads_drawn g.moves (having_taken did c).rows (having_taken did c).boxes (after did c) g.leads x j o (sym (drawn_named x j g.moves) ∙ ap (drawn_at x j) g.own_are ∙ is)

  abbrev Mine : EndId → Type 0
  Mine e = subject_of did ≡ Some (owner_of (after did c) e)

  one : (e : EndId) → Mine e → All Mine (e ∷ [])
  one e mine = All-cons Mine e [] mine (All-nil Mine)

  bound_all : (i n : ℕ) (ws : List Waiting) → subject_of did ≡ Some i → ((j : ℕ) → j < length ws → owner_of (after did c) (end_of (n + j) false) ≡ i) → All Mine (attached_by (fulfil_moves c i n ws))
  bound_all i n [] is all = All-nil Mine
  bound_all i n (w ∷ ws) is all =
      All-cons Mine (end_of n false) _ (is ∙ ap (λ (k : ℕ). Some k) (sym (all zero (omega arith)) ∙ ap (λ (k : ℕ). owner_of (after did c) (end_of k false)) (let e : n + 0 ≡ n = omega arith in e)))
      (bound_all i (n + 1) ws is (λ j lt. ap (λ (k : ℕ). owner_of (after did c) (end_of k false)) (let e : n + 1 + j ≡ n + suc j = omega arith in e) ∙ all (suc j) (omega (arith, lt))))

unmade_there : (c : Control) (k : ℕ) → place_of c (end_of k true) ≡ Unmade → k < next_pair c
unmade_there c k is =
    elim (cases_lt k (next_pair c)) [
      | inl within ↦ within
      | inr past ↦ absurd (never (ap is_unmade (sym (ap (λ (p : PairRow). end_place p true) (get_or_past c.rows.pairs k no_pair past)) ∙ is)))
    ]

-- whose object's event it is has the ends that it attaches
module _ {N S : Type 0} (c : Control) (kept : Kept c) where
  abbrev pub AllMine : Did N S → List Move → Type 0
  AllMine did ms = All (λ e. subject_of did ≡ Some (owner_of (after did c) e)) (attached_by ms)

  nil : (did : Did N S) → AllMine did []
  nil did = All-nil (λ e. subject_of did ≡ Some (owner_of (after did c) e))

  first : (did : Did N S) (fits : Fits c did) (i : ℕ) → subject_of did ≡ Some i → drawn_at true 0 (own_moves c did) ≡ Some i → Mine c did kept fits (end_of (next_pair c) true)
  first did fits i is drawn =
      is ∙ ap (λ (k : ℕ). Some k) (sym (draws c did kept fits true 0 i drawn) ∙ ap (λ (k : ℕ). owner_of (after did c) (end_of k true)) (let e : next_pair c + 0 ≡ next_pair c = omega arith in e))

  asked_mine : (req : Req) (reply : Reply) (h : Answered N S) (fits : Fits c (DidAsk req reply h)) → own_moves c (DidAsk req reply h) ≡ request_moves c req → MayAsk c req → AllMine (DidAsk req reply h) (request_moves c req)
  asked_mine (MakeSocket kind options) reply h fits own may_ask = nil (DidAsk (MakeSocket kind options) reply h)
  asked_mine AskTerm reply h fits own may_ask = nil (DidAsk AskTerm reply h)
  asked_mine (Bind o (Inproc name)) reply h fits own may_ask =
      bound_all c (DidAsk (Bind o (Inproc name)) reply h) kept fits o.0 (next_pair c) (fulfilled_by (Inproc name) (binding_by o.0 c) c.names) refl
      (λ j lt. draws c (DidAsk (Bind o (Inproc name)) reply h) kept fits false j o.0 (ap (drawn_at false j) own ∙ fulfil_drawn c o.0 (next_pair c) (fulfilled_by (Inproc name) (binding_by o.0 c) c.names) j lt))
  asked_mine (Bind o (Tcp address)) reply h fits own may_ask = nil (DidAsk (Bind o (Tcp address)) reply h)
  asked_mine (Connect o (Inproc name)) reply h fits own may_ask = by (c.names.held (Inproc name)) refl
    where
      by : (held : Option Binding) → c.names.held (Inproc name) ≡ held → AllMine (DidAsk (Connect o (Inproc name)) reply h) (connect_moves c o.0 held)
      by None is = nil (DidAsk (Connect o (Inproc name)) reply h)
      by (Some binding) is =
          one c (DidAsk (Connect o (Inproc name)) reply h) kept fits (end_of (next_pair c) true)
          (first (DidAsk (Connect o (Inproc name)) reply h) fits o.0 refl (ap (drawn_at true 0) own ∙ ap (λ (x : Option Binding). drawn_at true 0 (connect_moves c o.0 x)) is))
  asked_mine (Connect o (Tcp address)) reply h fits own may_ask =
      one c (DidAsk (Connect o (Tcp address)) reply h) kept fits (end_of (next_pair c) true) (first (DidAsk (Connect o (Tcp address)) reply h) fits o.0 refl (ap (drawn_at true 0) own))
  asked_mine (Unbind o at) reply h fits own may_ask = nil (DidAsk (Unbind o at) reply h)
  asked_mine (Disconnect o at) reply h fits own may_ask = nil (DidAsk (Disconnect o at) reply h)
  asked_mine (Close o) reply h fits own may_ask = nil (DidAsk (Close o) reply h)
  asked_mine (Accepted o) reply h fits own may_ask = nil (DidAsk (Accepted o) reply h)
  asked_mine (Shaken o peer) reply h fits own may_ask =
      let k = pair_or_none (obj c.rows o.0).pair in
      one c (DidAsk (Shaken o peer) reply h) kept fits (end_of k true)
      (ap (λ (n : ℕ). Some n) (sym (stays c (DidAsk (Shaken o peer) reply h) kept fits (end_of k true) (unmade_there c k may_ask.unmade) ∙ (kept.pairs o.0 may_ask.accepted).0)))
  asked_mine (AskEnd e Closed) reply h fits own may_ask = nil (DidAsk (AskEnd e Closed) reply h)
  asked_mine (AskEnd e BadId) reply h fits own may_ask = nil (DidAsk (AskEnd e BadId) reply h)
  asked_mine (AskEnd e Second) reply h fits own may_ask = nil (DidAsk (AskEnd e Second) reply h)
  asked_mine (AskEnd e Linger) reply h fits own may_ask = nil (DidAsk (AskEnd e Linger) reply h)
  asked_mine (AskEnd e Link) reply h fits own may_ask = nil (DidAsk (AskEnd e Link) reply h)
  asked_mine (AskOver o) reply h fits own may_ask = nil (DidAsk (AskOver o) reply h)
  asked_mine (OutputOver o) reply h fits own may_ask = nil (DidAsk (OutputOver o) reply h)

  bound_mine : (did : Did N S) (fits : Fits c did) (to : ℕ) (e : EndId) → subject_of did ≡ Some to → ComesToEnd c to e BindCame → AllMine did (EndMoves e BindCame ∷ [])
  bound_mine did fits to e is comes =
      one c did kept fits e (is ∙ ap (λ (n : ℕ). Some n) (sym (stays c did kept fits e (pair_there c.rows e.pair.0 e.a BindCame comes.comes) ∙ comes.owner)))

  word_mine : (slot : SlotId) (to : ObjId) (word : Word) (h : Answered N S) (fits : Fits c (Delivered slot (record { to = to; word = word }) h)) → AllMine (Delivered slot (record { to = to; word = word }) h) (word_moves to.0 word)
  word_mine slot to (Own child) h fits = nil (Delivered slot (record { to = to; word = Own child }) h)
  word_mine slot to (Plug None) h fits = nil (Delivered slot (record { to = to; word = Plug None }) h)
  word_mine slot to (Plug (Some e)) h fits = bound_mine (Delivered slot (record { to = to; word = Plug (Some e) }) h) fits to.0 e refl (may_come c kept slot.0 fits.may.behind to.0 (Plug (Some e)) fits.may.oldest).1
  word_mine slot to (TermReq child) h fits = nil (Delivered slot (record { to = to; word = TermReq child }) h)
  word_mine slot to Term h fits = nil (Delivered slot (record { to = to; word = Term }) h)
  word_mine slot to (TermAck child) h fits = nil (Delivered slot (record { to = to; word = TermAck child }) h)
  word_mine slot to (PipeBind e peer) h fits = bound_mine (Delivered slot (record { to = to; word = PipeBind e peer }) h) fits to.0 e refl (may_come c kept slot.0 fits.may.behind to.0 (PipeBind e peer) fits.may.oldest)
  word_mine slot to (PipeTerm e) h fits = nil (Delivered slot (record { to = to; word = PipeTerm e }) h)
  word_mine slot to (PipeTermAck e) h fits = nil (Delivered slot (record { to = to; word = PipeTermAck e }) h)
  word_mine slot to Stop h fits = nil (Delivered slot (record { to = to; word = Stop }) h)
  word_mine slot to (Reap socket) h fits = nil (Delivered slot (record { to = to; word = Reap socket }) h)

  pub mine_all : (did : Did N S) → Fits c did → AllMine did (own_moves c did)
  mine_all (DidAsk req Done h) fits = asked_mine req Done h fits refl fits.may.0
  mine_all (DidAsk req (Object o) h) fits = asked_mine req (Object o) h fits refl fits.may.0
  mine_all (DidAsk req (Pair p) h) fits = asked_mine req (Pair p) h fits refl fits.may.0
  mine_all (DidAsk req (Both o p) h) fits = asked_mine req (Both o p) h fits refl fits.may.0
  mine_all (DidAsk req Wait h) fits = asked_mine req Wait h fits refl fits.may.0
  mine_all (DidAsk req WasAsked h) fits = asked_mine req WasAsked h fits refl fits.may.0
  mine_all (DidAsk req Before h) fits = nil (DidAsk req Before h)
  mine_all (DidAsk req (Refused refusal) h) fits = nil (DidAsk req (Refused refusal) h)
  mine_all (Delivered slot letter h) fits = word_mine slot letter.to letter.word h fits
  mine_all (Delimited e h) fits = nil (Delimited e h)
