-- Over inproc alone each pair is made as its number is drawn: no end of it is ever found unmade.
use Rattle.std.specs.Prelude.{◌≡◌, ◌≤◌, ◌+◌, ℕ, zero, suc, Bool, true, false, cond, not, List, [], ◌∷◌, Option, Some, None, slice_index_or, sum_by, refl}
use Rattle.std.specs.List.{list_all}
use Rattle.std.proofs.Common.{arith, sym, ap, ◌∙◌, subst}
use Rattle.std.proofs.lemmas.List.Sums.{sum_by-cons, sum_by-set, sum_by_push, sum_by-append}
use Rattle.zq_base.specs.declared.endpoint.Endpoint.TheVariants.{Inproc, Tcp}
use Rattle.spec_control.specs.declared.book.Binding.{Binding}
use Rattle.spec_control.specs.declared.book.Waiting.{Waiting}
use Rattle.spec_control.specs.declared.end.Reason.TheVariants.{Closed, BadId, Second, Linger, Link}
use Rattle.spec_control.specs.declared.letter.Word.{Word}
use Rattle.spec_control.specs.declared.letter.Word.TheVariants.{Own, Plug, TermReq, Term, TermAck, PipeBind, PipeTerm, PipeTermAck, Stop, Reap}
use Rattle.spec_control.specs.declared.request.Req.{Req}
use Rattle.spec_control.specs.declared.request.Req.TheVariants.{Socket as MakeSocket, AskTerm, Bind, Connect, Unbind, Disconnect, Close, Accepted, Shaken, AskEnd, AskOver, OutputOver}
use Rattle.spec_control.specs.declared.request.Reply.{Reply}
use Rattle.spec_control.specs.declared.request.Reply.TheVariants.{Done, Object, Pair, Both, Wait, Asked as WasAsked, Before, Refused}
use Rattle.spec_control.specs.declared.entry.Did.{Did}
use Rattle.spec_control.specs.declared.entry.Did.TheVariants.{Asked, Delivered, Delimited}
use Rattle.spec_control.specs.declared.entry.Item.{Item}
use Rattle.spec_control.specs.declared.entry.Item.TheVariants.{Event, Seen}
use Rattle.spec_control.specs.Place.{Place, Unmade, Away, At, is_unmade}
use Rattle.spec_control.specs.PairPhase.{PairEvent, Opens, BindCame, Happens, may, place_after, other_after}
use Rattle.spec_control.specs.Register.{fulfilled_by}
use Rattle.spec_control.specs.Rows.{Rows, PairRow, no_pair, pair, end_place, end_half, pair_after}
use Rattle.spec_control.specs.Control.{Control, begun, next_pair}
use Rattle.spec_control.specs.After.{binding_by, after}
use Rattle.spec_control.specs.ControlRun.{unless_refused, after_all, IsControlRun}
use Rattle.control_laws.proofs.ListLemmas.{never, left, right}
use Rattle.control_laws.proofs.RowLemmas.{pair_there}
use Rattle.control_laws.specs.Kept.{Kept}
use Rattle.control_laws.proofs.RootLemmas.{begun_kept}
use Rattle.control_laws.proofs.RunLemmas.{after_kept}
use Rattle.control_laws.specs.Move.{Move, LinkMoves, EndMoves, ObjectEnds, ObjectMade, PairDrawn, LetterPut, move_rows, MayMove, is_named}
use Rattle.control_laws.specs.OwnMoves.{join_moves, fulfil_moves, connect_moves, request_moves, word_moves, own_moves, having_taken}
use Rattle.control_laws.proofs.SoundLemmas.{Sound, sound_of}
use Rattle.control_laws.proofs.WeighLemmas.{goes_weigh, taken_rows}
use Rattle.control_laws.proofs.EventGoLemmas.{event_goes}
use Rattle.replay_laws.specs.Local.{is_local, is_local_did, is_local_item}
use Rattle.replay_laws.specs.JournalLaws.{LocalPairsAreMade}

-- ---- how many ends are of pairs that are not made

abbrev unmade_end : Place → ℕ
unmade_end place = cond (is_unmade place) 1 0

abbrev unmade_ends : PairRow → ℕ
unmade_ends p = unmade_end p.a + unmade_end p.b

abbrev all_unmade : Rows → ℕ
all_unmade s = sum_by unmade_ends s.pairs

-- a pair is made: both its ends
abbrev event_makes : PairEvent → ℕ
event_makes Opens = 2
event_makes BindCame = 0
event_makes (Happens event) = 0

abbrev makes_ends : Move → ℕ
makes_ends (LinkMoves i event) = 0
makes_ends (EndMoves e event) = event_makes event
makes_ends (ObjectEnds i) = 0
makes_ends (ObjectMade row) = 0
makes_ends (PairDrawn x y) = 0
makes_ends (LetterPut to word) = 0

-- a pair's number is drawn
abbrev draws_ends : Move → ℕ
draws_ends (LinkMoves i event) = 0
draws_ends (EndMoves e event) = 0
draws_ends (ObjectEnds i) = 0
draws_ends (ObjectMade row) = 0
draws_ends (PairDrawn x y) = 2
draws_ends (LetterPut to word) = 0

draws_free : (m : Move) → is_named m ≡ false → draws_ends m ≡ 0
draws_free (LinkMoves i event) h = refl
draws_free (EndMoves e event) h = refl
draws_free (ObjectEnds i) h = refl
draws_free (ObjectMade row) h = refl
draws_free (PairDrawn x y) h = absurd (never (sym h))
draws_free (LetterPut to word) h = refl

-- an event leaves no more ends unmade, and one that makes a pair leaves both made
ends_fall : (event : PairEvent) (mine theirs : Place) → (event ≡ Opens → (is_unmade mine ≡ true) × (is_unmade theirs ≡ true))
    → unmade_end (place_after event mine) + unmade_end (other_after event theirs) + event_makes event ≤ unmade_end mine + unmade_end theirs
ends_fall Opens mine theirs both =
    let first = both refl in
    let one : ◌≡◌ {A = ℕ} (unmade_end mine) 1 = ap {B = ℕ} (λ (b : Bool). cond b 1 0) first.0 in
    let other : ◌≡◌ {A = ℕ} (unmade_end theirs) 1 = ap {B = ℕ} (λ (b : Bool). cond b 1 0) first.1 in omega (arith, one, other)
ends_fall BindCame mine theirs both = omega arith
ends_fall (Happens event) Unmade theirs both = omega arith
ends_fall (Happens event) Away theirs both = omega arith
ends_fall (Happens event) (At state) theirs both = omega arith

opens_both : (event : PairEvent) (p : PairRow) (a : Bool) → may event (end_half p a) (end_half p (not a)) ≡ true → event ≡ Opens → (is_unmade (end_place p a) ≡ true) × (is_unmade (end_place p (not a)) ≡ true)
opens_both Opens p a comes e = (left _ _ comes, right _ _ comes)
opens_both BindCame p a comes e = absurd (no e)
  where
    no : BindCame ≡ Opens → ⊥
    no e = Prim.grind arith
opens_both (Happens event) p a comes e = absurd (no e)
  where
    no : Happens event ≡ Opens → ⊥
    no e = Prim.grind arith

pair_falls : (event : PairEvent) (a : Bool) (p : PairRow) → may event (end_half p a) (end_half p (not a)) ≡ true → unmade_ends (pair_after event a p) + event_makes event ≤ unmade_ends p
pair_falls event true p comes = let less = ends_fall event p.a p.b (opens_both event p true comes) in omega (arith, less)
pair_falls event false p comes = let less = ends_fall event p.b p.a (opens_both event p false comes) in omega (arith, less)

move_falls : (m : Move) (s : Rows) → Sound s → MayMove m s → all_unmade (move_rows m s) + makes_ends m ≤ all_unmade s + draws_ends m
move_falls (LinkMoves i event) s sound may_so = omega arith
move_falls (EndMoves e event) s sound may_so =
    let set = sum_by-set unmade_ends s.pairs e.pair.0 (pair_after event e.a (pair s e.pair.0)) no_pair (pair_there s e.pair.0 e.a event may_so.comes) in
    let less = pair_falls event e.a (pair s e.pair.0) may_so.comes in
    omega (arith, set, less)
move_falls (ObjectEnds i) s sound may_so = omega arith
move_falls (ObjectMade row) s sound may_so = omega arith
move_falls (PairDrawn x y) s sound may_so = let more = sum_by_push unmade_ends s.pairs (record { a_owner = x; b_owner = y; a = Unmade; b = Unmade }) in omega (arith, more)
move_falls (LetterPut to word) s sound may_so = omega arith

-- ---- an event without tcp makes each pair that it draws

abbrev AreEven : List Move → Type 0
AreEven ms = sum_by draws_ends ms ≤ sum_by makes_ends ms

fulfil_even : (c : Control) (i k : ℕ) (ws : List Waiting) → AreEven (fulfil_moves c i k ws)
fulfil_even c i k [] = omega arith
fulfil_even c i k (w ∷ ws) =
    let rest = fulfil_even c i (k + 1) ws in
    let draws = sum_by-append draws_ends (join_moves c k w.waiter.0 i false) (fulfil_moves c i (k + 1) ws) in
    let makes = sum_by-append makes_ends (join_moves c k w.waiter.0 i false) (fulfil_moves c i (k + 1) ws) in
    omega (arith, rest, draws, makes)

connect_even : (c : Control) (i : ℕ) (b : Option Binding) → AreEven (connect_moves c i b)
connect_even c i None = omega arith
connect_even c i (Some binding) = omega arith

request_even : (c : Control) (req : Req) → is_local req ≡ true → AreEven (request_moves c req)
request_even c (MakeSocket kind options) h = omega arith
request_even c AskTerm h = omega arith
request_even c (Bind o (Inproc name)) h = fulfil_even c o.0 (next_pair c) (fulfilled_by (Inproc name) (binding_by o.0 c) c.names)
request_even c (Bind o (Tcp address)) h = absurd (never h)
request_even c (Connect o (Inproc name)) h = connect_even c o.0 (c.names.held (Inproc name))
request_even c (Connect o (Tcp address)) h = absurd (never h)
request_even c (Unbind o at) h = omega arith
request_even c (Disconnect o at) h = omega arith
request_even c (Close o) h = omega arith
request_even c (Accepted o) h = absurd (never h)
request_even c (Shaken o peer) h = omega arith
request_even c (AskEnd e Closed) h = omega arith
request_even c (AskEnd e BadId) h = omega arith
request_even c (AskEnd e Second) h = omega arith
request_even c (AskEnd e Linger) h = omega arith
request_even c (AskEnd e Link) h = omega arith
request_even c (AskOver o) h = omega arith
request_even c (OutputOver o) h = omega arith

answered_even : (c : Control) (req : Req) (reply : Reply) → is_local req ≡ true → AreEven (unless_refused reply (request_moves c req))
answered_even c req Done h = request_even c req h
answered_even c req (Object o) h = request_even c req h
answered_even c req (Pair p) h = request_even c req h
answered_even c req (Both o p) h = request_even c req h
answered_even c req Wait h = request_even c req h
answered_even c req WasAsked h = request_even c req h
answered_even c req Before h = omega arith
answered_even c req (Refused refusal) h = omega arith

word_even : (at : ℕ) (word : Word) → AreEven (word_moves at word)
word_even at (Own child) = omega arith
word_even at (Plug None) = omega arith
word_even at (Plug (Some e)) = omega arith
word_even at (TermReq child) = omega arith
word_even at Term = omega arith
word_even at (TermAck child) = omega arith
word_even at (PipeBind e peer) = omega arith
word_even at (PipeTerm e) = omega arith
word_even at (PipeTermAck e) = omega arith
word_even at Stop = omega arith
word_even at (Reap socket) = omega arith

module _ {N S : Type 0} where
  did_even : (c : Control) (did : Did N S) → is_local_did did ≡ true → AreEven (own_moves c did)
  did_even c (Asked req reply h) local_so = answered_even c req reply local_so
  did_even c (Delivered slot letter h) local_so = word_even letter.to.0 letter.word
  did_even c (Delimited e h) local_so = omega arith

  made_over : (items : List (Item N S)) (c : Control) → Kept c → all_unmade c.rows ≡ 0 → IsControlRun c items → list_all is_local_item items ≡ true → all_unmade (after_all items c).rows ≡ 0
  made_over [] c kept none run local_so = none
  made_over (Event entry ∷ items) c kept none run local_so =
      let same = taken_rows entry.did c in
      let sound : Sound (having_taken entry.did c).rows = subst Sound (sym same) (sound_of c kept) in
      let weigh = goes_weigh all_unmade makes_ends draws_ends draws_free move_falls (own_moves c entry.did) (having_taken entry.did c) (after entry.did c) sound (event_goes c entry.did kept run.0) in
      let even = did_even c entry.did (left _ _ local_so) in
      let before : all_unmade (having_taken entry.did c).rows ≡ 0 = ap all_unmade same ∙ none in
      made_over items (after entry.did c) (after_kept c entry.did kept run.0) (omega (arith, weigh, even, before)) run.1 (right (is_local_did entry.did) _ local_so)
  made_over (Seen sight ∷ items) c kept none run local_so = made_over items c kept none run.1 local_so

-- ---- where none is unmade

place_made : (p : PairRow) (a : Bool) → unmade_ends p ≡ 0 → is_unmade (end_place p a) ≡ false
place_made p true e = by (is_unmade p.a) refl
  where
    by : (b : Bool) → is_unmade p.a ≡ b → is_unmade p.a ≡ false
    by false h = h
    by true h = let one : ◌≡◌ {A = ℕ} (unmade_end p.a) 1 = ap {B = ℕ} (λ (b : Bool). cond b 1 0) h in absurd (omega (arith, e, one))
place_made p false e = by (is_unmade p.b) refl
  where
    by : (b : Bool) → is_unmade p.b ≡ b → is_unmade p.b ≡ false
    by false h = h
    by true h = let one : ◌≡◌ {A = ℕ} (unmade_end p.b) 1 = ap {B = ℕ} (λ (b : Bool). cond b 1 0) h in absurd (omega (arith, e, one))

gone_made : (a : Bool) → is_unmade (end_place no_pair a) ≡ false
gone_made true = refl
gone_made false = refl

each_made : (pairs : List PairRow) (k : ℕ) (a : Bool) → sum_by unmade_ends pairs ≡ 0 → is_unmade (end_place (slice_index_or pairs k no_pair) a) ≡ false
each_made [] k a e = gone_made a
each_made (p ∷ pairs) zero a e = let all = sum_by-cons unmade_ends p pairs in place_made p a (omega (arith, all, e))
each_made (p ∷ pairs) (suc k) a e = let all = sum_by-cons unmade_ends p pairs in each_made pairs k a (omega (arith, all, e))

pub local_pairs : (N S : Type 0) → LocalPairsAreMade N S
local_pairs N S workers items run local_so k a =
    let c = after_all items (begun workers) in
    each_made c.rows.pairs k a (made_over items (begun workers) (begun_kept workers) (omega arith) run local_so)
