-- An end is gone by its PipeTermAck alone.
use Rattle.std.specs.Prelude.{◌≡◌, ◌⊎◌, ◌<◌, ◌≤◌, ◌+◌, ◌&&◌, ℕ, zero, suc, Bool, true, false, not, cond, List, [], ◌∷◌, Option, Some, None, length, count_by, sum_by, slice_index_or, slice_set, refl}
use Rattle.std.proofs.Common.{arith, sym, ap, ◌∙◌, subst, inl, inr}
use Rattle.std.proofs.lemmas.Bool.{eq-eqb, cases_eq}
use Rattle.std.proofs.lemmas.List.{get_or_default, get_or-set_same, get_or-set_other}
use Rattle.std.proofs.lemmas.List.Sums.{sum_by-append}
use Rattle.zq_base.specs.declared.endpoint.Endpoint.TheVariants.{Inproc, Tcp}
use Rattle.zq_base.specs.declared.ids.EndId.{EndId}
use Rattle.spec_control.specs.declared.book.Binding.{Binding}
use Rattle.spec_control.specs.declared.book.Waiting.{Waiting}
use Rattle.spec_control.specs.declared.end.EndState.TheVariants.{Active, DelimiterGot, WaitDelimiter, AckSent, AskedOnce, AskedTwice, Gone}
use Rattle.spec_control.specs.declared.end.EndEvent.TheVariants.{Asked, TermCame, DelimiterSeen, AckCame}
use Rattle.spec_control.specs.declared.end.Reason.{Reason}
use Rattle.spec_control.specs.declared.end.Reason.TheVariants.{Closed, BadId, Second, Linger, Link}
use Rattle.spec_control.specs.declared.letter.Letter.{Letter}
use Rattle.spec_control.specs.declared.letter.Word.{Word}
use Rattle.spec_control.specs.declared.letter.Word.TheVariants.{Own, Plug, TermReq, Term, TermAck, PipeBind, PipeTerm, PipeTermAck, Stop, Reap}
use Rattle.spec_control.specs.declared.request.Req.{Req}
use Rattle.spec_control.specs.declared.request.Req.TheVariants.{Socket as MakeSocket, AskTerm, Bind, Connect, Unbind, Disconnect, Close, Accepted, Shaken, AskEnd, AskOver, OutputOver}
use Rattle.spec_control.specs.declared.request.Reply.TheVariants.{Done, Object, Pair as PairMade, Both as BothMade, Wait, Asked as WasAsked, Before, Refused}
use Rattle.spec_control.specs.declared.entry.Did.{Did}
use Rattle.spec_control.specs.declared.entry.Did.TheVariants.{Asked as DidAsk, Delivered, Delimited}
use Rattle.spec_control.specs.declared.entry.Item.{Item}
use Rattle.spec_control.specs.declared.entry.Item.TheVariants.{Event, Seen as IsSight}
use Rattle.spec_control.specs.Register.{fulfilled_by}
use Rattle.spec_control.specs.Place.{Place, Unmade, Away, At, is_gone}
use Rattle.spec_control.specs.PairPhase.{Phase, Drawn, Opened, OpenedAsked, OpenedSeen, Both, BothSeen, BothSaw, AskedOne, Waits, Seen, Crossed, CrossedOne, CrossedBoth, Acked, FirstGone, LastOne, Over, place_in, half, PairEvent, Opens, BindCame, Happens, place_after, other_after}
use Rattle.spec_control.specs.Rows.{Rows, PairRow, no_pair, root_alone, obj, pair, end_place, pair_after}
use Rattle.spec_control.specs.Control.{Control, same_side, is_end, end_of, owner_of, next_pair}
use Rattle.spec_control.specs.After.{binding_by, pair_or_none, after}
use Rattle.spec_control.specs.ControlRun.{Fits, after_all, IsControlRun}
use Rattle.control_laws.specs.Kept.{Kept}
use Rattle.control_laws.proofs.ListLemmas.{never, is_old, is_new, pushed}
use Rattle.control_laws.proofs.RowLemmas.{pair_there}
use Rattle.control_laws.proofs.RunLemmas.{after_kept}
use Rattle.control_laws.specs.Move.{Move, LinkMoves, EndMoves, ObjectEnds, ObjectMade, PairDrawn, LetterPut, move_rows, MayMove, is_named}
use Rattle.control_laws.specs.OwnMoves.{join_moves, fulfil_moves, connect_moves, reason_moves, request_moves, word_moves, own_moves, having_taken}
use Rattle.control_laws.specs.Once.{letters_in, all_taken, is_pipe_ack_word, is_pipe_ack}
use Rattle.control_laws.proofs.SoundLemmas.{Sound, sound_of}
use Rattle.control_laws.proofs.WeighLemmas.{goes_weigh, taken_rows, sum_of_none}
use Rattle.control_laws.proofs.EventGoLemmas.{event_goes}
use Rattle.control_laws.proofs.PairOnceLemmas.{ack_word}

-- beside an end that is gone the other is gone too, or has one PipeTermAck on its way
pub beside_gone : (phase : Phase) (first : Bool) → place_in phase first ≡ At Gone → (place_in phase (not first) ≡ At Gone) ⊎ (sum_by ack_word (half phase (not first)).mail ≡ 1)
beside_gone FirstGone true h = inr refl
beside_gone LastOne true h = inr refl
beside_gone Over true h = inl refl
beside_gone Over false h = inl refl
beside_gone Drawn true h = absurd (never (ap is_gone h))
beside_gone Drawn false h = absurd (never (ap is_gone h))
beside_gone Opened true h = absurd (never (ap is_gone h))
beside_gone Opened false h = absurd (never (ap is_gone h))
beside_gone OpenedAsked true h = absurd (never (ap is_gone h))
beside_gone OpenedAsked false h = absurd (never (ap is_gone h))
beside_gone OpenedSeen true h = absurd (never (ap is_gone h))
beside_gone OpenedSeen false h = absurd (never (ap is_gone h))
beside_gone Both true h = absurd (never (ap is_gone h))
beside_gone Both false h = absurd (never (ap is_gone h))
beside_gone BothSeen true h = absurd (never (ap is_gone h))
beside_gone BothSeen false h = absurd (never (ap is_gone h))
beside_gone BothSaw true h = absurd (never (ap is_gone h))
beside_gone BothSaw false h = absurd (never (ap is_gone h))
beside_gone AskedOne true h = absurd (never (ap is_gone h))
beside_gone AskedOne false h = absurd (never (ap is_gone h))
beside_gone Waits true h = absurd (never (ap is_gone h))
beside_gone Waits false h = absurd (never (ap is_gone h))
beside_gone Seen true h = absurd (never (ap is_gone h))
beside_gone Seen false h = absurd (never (ap is_gone h))
beside_gone Crossed true h = absurd (never (ap is_gone h))
beside_gone Crossed false h = absurd (never (ap is_gone h))
beside_gone CrossedOne true h = absurd (never (ap is_gone h))
beside_gone CrossedOne false h = absurd (never (ap is_gone h))
beside_gone CrossedBoth true h = absurd (never (ap is_gone h))
beside_gone CrossedBoth false h = absurd (never (ap is_gone h))
beside_gone Acked true h = absurd (never (ap is_gone h))
beside_gone Acked false h = absurd (never (ap is_gone h))
beside_gone FirstGone false h = absurd (never (ap is_gone h))
beside_gone LastOne false h = absurd (never (ap is_gone h))

-- ---- 1 where an end is gone
abbrev fresh : PairRow
fresh = record { a_owner = 0; b_owner = 0; a = Unmade; b = Unmade }

abbrev is_past : Place → ℕ
is_past place = cond (is_gone place) 1 0

abbrev pub gone_in : EndId → Rows → ℕ
gone_in d s = cond (is_gone (end_place (slice_index_or s.pairs d.pair.0 (record { a_owner = 0; b_owner = 0; a = Unmade; b = Unmade })) d.a)) 1 0

abbrev ack_gain : PairEvent → ℕ
ack_gain Opens = 0
ack_gain BindCame = 0
ack_gain (Happens (Asked reason delay)) = 0
ack_gain (Happens TermCame) = 0
ack_gain (Happens DelimiterSeen) = 0
ack_gain (Happens AckCame) = 1

abbrev gone_gain : EndId → Move → ℕ
gone_gain d (LinkMoves i event) = 0
gone_gain d (EndMoves e event) = cond (is_end d e) (ack_gain event) 0
gone_gain d (ObjectEnds i) = 0
gone_gain d (ObjectMade row) = 0
gone_gain d (PairDrawn x y) = 0
gone_gain d (LetterPut to word) = 0

nothing : (b : Bool) → ◌≡◌ {A = ℕ} (cond b 0 0) 0
nothing true = refl
nothing false = refl

gone_free : (d : EndId) (m : Move) → is_named m ≡ false → gone_gain d m ≡ 0
gone_free d (LinkMoves i event) h = refl
gone_free d (EndMoves e Opens) h = nothing (is_end d e)
gone_free d (EndMoves e BindCame) h = nothing (is_end d e)
gone_free d (EndMoves e (Happens (Asked reason delay))) h = nothing (is_end d e)
gone_free d (EndMoves e (Happens TermCame)) h = nothing (is_end d e)
gone_free d (EndMoves e (Happens DelimiterSeen)) h = nothing (is_end d e)
gone_free d (EndMoves e (Happens AckCame)) h = absurd (never (sym h))
gone_free d (ObjectEnds i) h = refl
gone_free d (ObjectMade row) h = refl
gone_free d (PairDrawn x y) h = refl
gone_free d (LetterPut to word) h = refl

place_gone : (e : PairEvent) (place : Place) → is_past (place_after e place) ≤ is_past place + ack_gain e
place_gone Opens place = omega arith
place_gone BindCame place = omega arith
place_gone (Happens event) Unmade = omega arith
place_gone (Happens event) Away = omega arith
place_gone (Happens (Asked reason true)) (At Active) = omega arith
place_gone (Happens (Asked reason true)) (At DelimiterGot) = omega arith
place_gone (Happens (Asked reason true)) (At WaitDelimiter) = omega arith
place_gone (Happens (Asked reason true)) (At AckSent) = omega arith
place_gone (Happens (Asked reason true)) (At AskedOnce) = omega arith
place_gone (Happens (Asked reason true)) (At AskedTwice) = omega arith
place_gone (Happens (Asked reason true)) (At Gone) = omega arith
place_gone (Happens (Asked reason false)) (At Active) = omega arith
place_gone (Happens (Asked reason false)) (At DelimiterGot) = omega arith
place_gone (Happens (Asked reason false)) (At WaitDelimiter) = omega arith
place_gone (Happens (Asked reason false)) (At AckSent) = omega arith
place_gone (Happens (Asked reason false)) (At AskedOnce) = omega arith
place_gone (Happens (Asked reason false)) (At AskedTwice) = omega arith
place_gone (Happens (Asked reason false)) (At Gone) = omega arith
place_gone (Happens TermCame) (At Active) = omega arith
place_gone (Happens TermCame) (At DelimiterGot) = omega arith
place_gone (Happens TermCame) (At WaitDelimiter) = omega arith
place_gone (Happens TermCame) (At AckSent) = omega arith
place_gone (Happens TermCame) (At AskedOnce) = omega arith
place_gone (Happens TermCame) (At AskedTwice) = omega arith
place_gone (Happens TermCame) (At Gone) = omega arith
place_gone (Happens DelimiterSeen) (At Active) = omega arith
place_gone (Happens DelimiterSeen) (At DelimiterGot) = omega arith
place_gone (Happens DelimiterSeen) (At WaitDelimiter) = omega arith
place_gone (Happens DelimiterSeen) (At AckSent) = omega arith
place_gone (Happens DelimiterSeen) (At AskedOnce) = omega arith
place_gone (Happens DelimiterSeen) (At AskedTwice) = omega arith
place_gone (Happens DelimiterSeen) (At Gone) = omega arith
place_gone (Happens AckCame) (At Active) = omega arith
place_gone (Happens AckCame) (At DelimiterGot) = omega arith
place_gone (Happens AckCame) (At WaitDelimiter) = omega arith
place_gone (Happens AckCame) (At AckSent) = omega arith
place_gone (Happens AckCame) (At AskedOnce) = omega arith
place_gone (Happens AckCame) (At AskedTwice) = omega arith
place_gone (Happens AckCame) (At Gone) = omega arith

other_gone : (e : PairEvent) (place : Place) → is_past (other_after e place) ≤ is_past place
other_gone Opens place = omega arith
other_gone BindCame place = omega arith
other_gone (Happens event) place = omega arith

side_gone : (e : PairEvent) (a x : Bool) (p : PairRow) → is_past (end_place (pair_after e a p) x) ≤ is_past (end_place p x) + cond (same_side x a) (ack_gain e) 0
side_gone e true true p = place_gone e p.a
side_gone e false false p = place_gone e p.b
side_gone e true false p = let a = other_gone e p.b in omega (arith, a)
side_gone e false true p = let a = other_gone e p.a in omega (arith, a)

gone_step : (d : EndId) (m : Move) (s : Rows) → Sound s → MayMove m s → gone_in d (move_rows m s) + 0 ≤ gone_in d s + gone_gain d m
gone_step d (LinkMoves i event) s sound may_so = omega arith
gone_step d (EndMoves e event) s sound may_so =
    let there = pair_there s e.pair.0 e.a event may_so.comes in
    let p = pair_after event e.a (pair s e.pair.0) in
    elim (cases_eq d.pair.0 e.pair.0) [
      | inl at ↦
          let now = ap {B = ℕ} (λ (k : ℕ). is_past (end_place (slice_index_or (slice_set s.pairs e.pair.0 p) k fresh) d.a)) at in
          let set = ap {B = ℕ} (λ (q : PairRow). is_past (end_place q d.a)) (get_or-set_same s.pairs e.pair.0 p fresh there) in
          let old = ap {B = ℕ} (λ (k : ℕ). is_past (end_place (slice_index_or s.pairs k fresh) d.a)) at in
          let row = ap {B = ℕ} (λ (q : PairRow). is_past (end_place q d.a)) (get_or_default s.pairs e.pair.0 fresh no_pair there) in
          let number = ap (λ (b : Bool). cond (b && same_side d.a e.a) (ack_gain event) 0) (eq-eqb d.pair.0 e.pair.0 at) in
          let less = side_gone event e.a d.a (pair s e.pair.0) in
          omega (arith, now, set, old, row, number, less)
      | inr other ↦
          let same = ap {B = ℕ} (λ (q : PairRow). is_past (end_place q d.a)) (get_or-set_other s.pairs e.pair.0 d.pair.0 p fresh other) in
          omega (arith, same)
    ]
gone_step d (ObjectEnds i) s sound may_so = omega arith
gone_step d (ObjectMade row) s sound may_so = omega arith
gone_step d (PairDrawn x y) s sound may_so =
    elim (pushed s.pairs (record { a_owner = x; b_owner = y; a = Unmade; b = Unmade }) fresh d.pair.0) [
      | is_old e ↦ let same = ap {B = ℕ} (λ (q : PairRow). is_past (end_place q d.a)) e in omega (arith, same)
      | is_new at e was ↦ let new = ap {B = ℕ} (λ (q : PairRow). is_past (end_place q d.a)) e in let none = unmade d.a in omega (arith, new, none)
    ]
  where
    unmade : (b : Bool) → ◌≡◌ {A = ℕ} (is_past (end_place (record { a_owner = x; b_owner = y; a = Unmade; b = Unmade }) b)) 0
    unmade true = refl
    unmade false = refl
gone_step d (LetterPut to word) s sound may_so = omega arith

-- ---- no request brings an end its PipeTermAck
one_open : (d : EndId) (c : Control) (k x y : ℕ) (a : Bool) → sum_by (gone_gain d) (join_moves c k x y a) ≡ 0
one_open d c k x y a = let none = nothing (is_end d (end_of k a)) in omega (arith, none)

fulfil_gains : (d : EndId) (c : Control) (i k : ℕ) (ws : List Waiting) → sum_by (gone_gain d) (fulfil_moves c i k ws) ≡ 0
fulfil_gains d c i k [] = refl
fulfil_gains d c i k (w ∷ ws) =
    let all = sum_by-append (gone_gain d) (join_moves c k w.waiter.0 i false) (fulfil_moves c i (k + 1) ws) in
    let one = one_open d c k w.waiter.0 i false in
    let rest = fulfil_gains d c i (k + 1) ws in
    omega (arith, all, one, rest)

connect_gains : (d : EndId) (c : Control) (i : ℕ) (b : Option Binding) → sum_by (gone_gain d) (connect_moves c i b) ≡ 0
connect_gains d c i None = refl
connect_gains d c i (Some binding) = one_open d c (next_pair c) i binding.holder.0 true

reason_gains : (d : EndId) (r : Reason) (i : ℕ) → sum_by (gone_gain d) (reason_moves r i) ≡ 0
reason_gains d Closed i = refl
reason_gains d BadId i = refl
reason_gains d Second i = refl
reason_gains d Linger i = refl
reason_gains d Link i = refl

request_gains : (d : EndId) (c : Control) (req : Req) → sum_by (gone_gain d) (request_moves c req) ≡ 0
request_gains d c (MakeSocket kind options) = refl
request_gains d c AskTerm = refl
request_gains d c (Bind o (Inproc name)) = fulfil_gains d c o.0 (next_pair c) (fulfilled_by (Inproc name) (binding_by o.0 c) c.names)
request_gains d c (Bind o (Tcp address)) = refl
request_gains d c (Connect o (Inproc name)) = connect_gains d c o.0 (c.names.held (Inproc name))
request_gains d c (Connect o (Tcp address)) = let none = nothing (is_end d (end_of (next_pair c) true)) in omega (arith, none)
request_gains d c (Unbind o at) = refl
request_gains d c (Disconnect o at) = refl
request_gains d c (Close o) = refl
request_gains d c (Accepted o) = refl
request_gains d c (Shaken o peer) = let none = nothing (is_end d (end_of (pair_or_none (obj c.rows o.0).pair) true)) in omega (arith, none)
request_gains d c (AskEnd e reason) = reason_gains d reason (owner_of c e)
request_gains d c (AskOver o) = refl
request_gains d c (OutputOver o) = refl

word_gains : (d : EndId) (at : ℕ) (word : Word) → sum_by (gone_gain d) (word_moves at word) ≡ cond (is_pipe_ack_word d word) 1 0
word_gains d at (Own child) = refl
word_gains d at (Plug None) = refl
word_gains d at (Plug (Some e)) = let none = nothing (is_end d e) in omega (arith, none)
word_gains d at (TermReq child) = refl
word_gains d at Term = refl
word_gains d at (TermAck child) = refl
word_gains d at (PipeBind e peer) = let none = nothing (is_end d e) in omega (arith, none)
word_gains d at (PipeTerm e) = let none = nothing (is_end d e) in omega (arith, none)
word_gains d at (PipeTermAck e) = omega arith
word_gains d at Stop = refl
word_gains d at (Reap socket) = refl

event_gains : {N S : Type 0} (d : EndId) (c : Control) (did : Did N S) → sum_by (gone_gain d) (own_moves c did) ≡ count_by (is_pipe_ack d) (letters_in did)
event_gains d c (DidAsk req Done h) = request_gains d c req
event_gains d c (DidAsk req (Object o) h) = request_gains d c req
event_gains d c (DidAsk req (PairMade p) h) = request_gains d c req
event_gains d c (DidAsk req (BothMade o p) h) = request_gains d c req
event_gains d c (DidAsk req Wait h) = request_gains d c req
event_gains d c (DidAsk req WasAsked h) = request_gains d c req
event_gains d c (DidAsk req Before h) = refl
event_gains d c (DidAsk req (Refused refusal) h) = refl
event_gains d c (Delivered slot letter h) = let all = word_gains d letter.to.0 letter.word in omega (arith, all)
event_gains d c (Delimited e h) = let none = nothing (is_end d e) in omega (arith, none)

-- ---- a run
event_gone : {N S : Type 0} (d : EndId) (c : Control) (did : Did N S) → Kept c → Fits c did → gone_in d (after did c).rows ≤ gone_in d c.rows + count_by (is_pipe_ack d) (letters_in did)
event_gone d c did kept fits =
    let rows = taken_rows did c in
    let all = goes_weigh (gone_in d) (λ m. 0) (gone_gain d) (gone_free d) (gone_step d) (own_moves c did) (having_taken did c) (after did c) (subst Sound (sym rows) (sound_of c kept)) (event_goes c did kept fits) in
    let none = sum_of_none (own_moves c did) in
    let gains = event_gains d c did in
    let same = ap (gone_in d) rows in
    omega (arith, all, none, gains, same)

pub run_gone : {N S : Type 0} (d : EndId) (items : List (Item N S)) (c : Control) → Kept c → IsControlRun c items → gone_in d (after_all items c).rows ≤ gone_in d c.rows + count_by (is_pipe_ack d) (all_taken items)
run_gone d [] c kept run = omega arith
run_gone d (Event entry ∷ items) c kept run =
    let now = event_gone d c entry.did kept run.0 in
    let later = run_gone d items (after entry.did c) (after_kept c entry.did kept run.0) run.1 in
    let split = sum_by-append (λ (l : Letter). cond (is_pipe_ack d l) 1 0) (letters_in entry.did) (all_taken items) in
    omega (arith, now, later, split)
run_gone d (IsSight sight ∷ items) c kept run = run_gone d items c kept run.1

-- a pair that was made behind the beginning
pub begun_gone : (d : EndId) → 0 < d.pair.0 → gone_in d root_alone ≡ 0
begun_gone d above = by d.pair.0 d.a above
  where
    by : (k : ℕ) (a : Bool) → 0 < k → ◌≡◌ {A = ℕ} (is_past (end_place (slice_index_or (no_pair ∷ []) k fresh) a)) 0
    by zero a h = absurd (omega (arith, h))
    by (suc k) a h = past k a
      where
        past : (k : ℕ) (a : Bool) → ◌≡◌ {A = ℕ} (is_past (end_place (slice_index_or [] k fresh) a)) 0
        past zero true = refl
        past zero false = refl
        past (suc k) true = refl
        past (suc k) false = refl

-- an end of a pair that is there and gone counts
pub gone_counts : (d : EndId) (s : Rows) → d.pair.0 < length s.pairs → end_place (pair s d.pair.0) d.a ≡ At Gone → gone_in d s ≡ 1
gone_counts d s there is = ap {B = ℕ} (λ (q : PairRow). is_past (end_place q d.a)) (get_or_default s.pairs d.pair.0 fresh no_pair there) ∙ ap {B = ℕ} (λ (p : Place). is_past p) is
