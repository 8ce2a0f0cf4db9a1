-- The bound on what is processed and accepted once the root was asked.
use Rattle.std.specs.Prelude.{◌≡◌, ◌<◌, ◌≤◌, ◌+◌, ◌*◌, ℕ, Bool, true, false, not, cond, if◌then◌else◌, List, [], ◌∷◌, ◌++◌, Option, Some, None, length, sum_by, refl}
use Rattle.std.proofs.Common.{arith, sym, ap, ◌∙◌, subst, length-set, length-append}
use Rattle.std.proofs.lemmas.List.Sums.{sum_by-cons, sum_by-append}
use Rattle.zq_base.specs.declared.endpoint.Endpoint.TheVariants.{Inproc, Tcp}
use Rattle.zq_base.specs.declared.ids.ObjId.{ObjId}
use Rattle.spec_control.specs.declared.book.Binding.{Binding}
use Rattle.spec_control.specs.declared.book.Waiting.{Waiting}
use Rattle.spec_control.specs.declared.end.Reason.{Reason}
use Rattle.spec_control.specs.declared.end.Reason.TheVariants.{Closed, BadId, Second, Linger, Link}
use Rattle.spec_control.specs.declared.letter.Word.{Word}
use Rattle.spec_control.specs.declared.letter.Word.TheVariants.{Own, Plug, TermReq, Term, TermAck, PipeBind, PipeTerm, PipeTermAck, Stop, Reap}
use Rattle.spec_control.specs.declared.request.Req.{Req}
use Rattle.spec_control.specs.declared.request.Req.TheVariants.{Socket as MakeSocket, AskTerm, Bind, Connect, Unbind, Disconnect, Close, Accepted, Shaken, AskEnd, AskOver, OutputOver}
use Rattle.spec_control.specs.declared.request.Reply.{Reply}
use Rattle.spec_control.specs.declared.request.Reply.TheVariants.{Done, Object, Pair as PairMade, Both, Wait, Asked as WasAsked, Before, Refused}
use Rattle.spec_control.specs.declared.entry.Answered.{Answered}
use Rattle.spec_control.specs.declared.entry.Did.{Did}
use Rattle.spec_control.specs.declared.entry.Did.TheVariants.{Asked as DidAsk, Delivered, Delimited}
use Rattle.spec_control.specs.declared.entry.Item.{Item}
use Rattle.spec_control.specs.declared.entry.Item.TheVariants.{Event, Seen}
use Rattle.spec_control.specs.declared.stage.Stage.TheVariants.{Finished}
use Rattle.spec_control.specs.Stage.{is_alive}
use Rattle.spec_control.specs.Place.{Unmade}
use Rattle.spec_control.specs.Row.{Row, nobody, LinkEvent, OwnComes, PlugComes, IsTold, TermComes, AsksOver, RequestComes, ReapComes, AckComes, RootAsked, StopPut, StopComes, AsksForLink, AsksForLinger, link_after}
use Rattle.spec_control.specs.Rows.{Rows, obj, pair, with_object, pair_after, may_end}
use Rattle.spec_control.specs.Register.{fulfilled_by}
use Rattle.spec_control.specs.Control.{Control, begun, id, with_value, owner_of, next_pair, tell_owner, finish, try_end}
use Rattle.spec_control.specs.After.{answers_in, binding_by, requested, answered, after}
use Rattle.spec_control.specs.Reply.{root_asked, reply_of}
use Rattle.spec_control.specs.ControlRun.{MayGive, MayBeOver, MayAsk, Fits, unless_refused, after_item, after_all, IsControlRun}
use Rattle.spec_control.specs.Quiescence.{reply_costs, costs, item_costs}
use Rattle.control_laws.specs.Kept.{Kept}
use Rattle.control_laws.proofs.ListLemmas.{never, is_here, is_elsewhere, written, is_old, is_new, pushed}
use Rattle.control_laws.proofs.RunLemmas.{is_granted, granted_alive, asked_alive, after_kept, run_kept}
use Rattle.control_laws.proofs.RootLemmas.{begun_kept}
use Rattle.control_laws.specs.Move.{Move, LinkMoves, EndMoves, ObjectEnds, ObjectMade, PairDrawn, LetterPut, move_rows, MayMove, is_named}
use Rattle.control_laws.specs.OwnMoves.{join_moves, fulfil_moves, connect_moves, reason_moves, request_moves, word_moves, own_moves, having_taken}
use Rattle.control_laws.specs.Bound.{EndingIsBounded}
use Rattle.control_laws.proofs.SoundLemmas.{Sound, sound_of, link_there, ending_there}
use Rattle.control_laws.proofs.WeighLemmas.{goes_weigh, goes_grow, taken_rows, sum_of_none}
use Rattle.control_laws.proofs.EventGoLemmas.{event_goes}
use Rattle.control_laws.proofs.TokenLemmas.{weight_left, token_toll, token_gain, token_free, token_step, end_falls, tokens_within}

-- ---- how many objects and pairs there are
abbrev makes_one : Move → ℕ
makes_one (LinkMoves i event) = 0
makes_one (EndMoves e event) = 0
makes_one (ObjectEnds i) = 0
makes_one (ObjectMade row) = 1
makes_one (PairDrawn x y) = 0
makes_one (LetterPut to word) = 0

abbrev draws_one : Move → ℕ
draws_one (LinkMoves i event) = 0
draws_one (EndMoves e event) = 0
draws_one (ObjectEnds i) = 0
draws_one (ObjectMade row) = 0
draws_one (PairDrawn x y) = 1
draws_one (LetterPut to word) = 0

makes_free : (m : Move) → is_named m ≡ false → makes_one m ≡ 0
makes_free (LinkMoves i event) h = refl
makes_free (EndMoves e event) h = refl
makes_free (ObjectEnds i) h = refl
makes_free (ObjectMade row) h = absurd (never (sym h))
makes_free (PairDrawn x y) h = refl
makes_free (LetterPut to word) h = refl

draws_free : (m : Move) → is_named m ≡ false → draws_one m ≡ 0
draws_free (LinkMoves i event) h = refl
draws_free (EndMoves e event) h = refl
draws_free (ObjectEnds i) h = refl
draws_free (ObjectMade row) h = refl
draws_free (PairDrawn x y) h = absurd (never (sym h))
draws_free (LetterPut to word) h = refl

abbrev objects_in : Rows → ℕ
objects_in s = length s.objects

abbrev pairs_in : Rows → ℕ
pairs_in s = length s.pairs

makes_step : (m : Move) (s : Rows) → MayMove m s → objects_in (move_rows m s) ≡ objects_in s + makes_one m
makes_step (LinkMoves i event) s may_so = let same = length-set s.objects i (link_after event (obj s i)) in omega (arith, same)
makes_step (EndMoves e event) s may_so = omega arith
makes_step (ObjectEnds i) s may_so = let same = length-set s.objects i (record (obj s i) { stage = Finished }) in omega (arith, same)
makes_step (ObjectMade row) s may_so = let more = length-append s.objects (row ∷ []) in omega (arith, more)
makes_step (PairDrawn x y) s may_so = omega arith
makes_step (LetterPut to word) s may_so = omega arith

draws_step : (m : Move) (s : Rows) → MayMove m s → pairs_in (move_rows m s) ≡ pairs_in s + draws_one m
draws_step (LinkMoves i event) s may_so = omega arith
draws_step (EndMoves e event) s may_so = let same = length-set s.pairs e.pair.0 (pair_after event e.a (pair s e.pair.0)) in omega (arith, same)
draws_step (ObjectEnds i) s may_so = omega arith
draws_step (ObjectMade row) s may_so = omega arith
draws_step (PairDrawn x y) s may_so = let more = length-append s.pairs (record { a_owner = x; b_owner = y; a = Unmade; b = Unmade } ∷ []) in omega (arith, more)
draws_step (LetterPut to word) s may_so = omega arith

-- ---- an event's own moves pay for it, and what it makes is paid for by its share
pub at_most_one : (b : Bool) → cond b 1 0 ≤ 1
at_most_one true = omega arith
at_most_one false = omega arith

-- what the moves bring and the event costs is within what they take and the shares of what they make
abbrev IsPaid : ℕ → List Move → Type 0
IsPaid cost own = cost + sum_by token_gain own ≤ sum_by token_toll own + (8 * sum_by makes_one own + 7 * sum_by draws_one own)

pub unasked_free : (c : Control) → is_alive (obj c.rows 0).stage ≡ true → ◌≡◌ {A = ℕ} (cond (root_asked c) 1 0) 0
unasked_free c alive = ap {B = ℕ} (λ (b : Bool). cond (not b) 1 0) alive

fulfil_paid : (c : Control) (i k : ℕ) (ws : List Waiting) → IsPaid 0 (fulfil_moves c i k ws)
fulfil_paid c i k [] = omega arith
fulfil_paid c i k (w ∷ ws) =
    let rest = fulfil_paid c i (k + 1) ws in
    let one = join_moves c k w.waiter.0 i false in
    let gains = sum_by-append token_gain one (fulfil_moves c i (k + 1) ws) in
    let tolls = sum_by-append token_toll one (fulfil_moves c i (k + 1) ws) in
    let makes = sum_by-append makes_one one (fulfil_moves c i (k + 1) ws) in
    let draws = sum_by-append draws_one one (fulfil_moves c i (k + 1) ws) in
    omega (arith, rest, gains, tolls, makes, draws)

-- a session's word that its output is over has no move of its own
abbrev pub is_output_over : Req → Bool
is_output_over (MakeSocket kind options) = false
is_output_over AskTerm = false
is_output_over (Bind o at) = false
is_output_over (Connect o at) = false
is_output_over (Unbind o at) = false
is_output_over (Disconnect o at) = false
is_output_over (Close o) = false
is_output_over (Accepted o) = false
is_output_over (Shaken o peer) = false
is_output_over (AskEnd e reason) = false
is_output_over (AskOver o) = false
is_output_over (OutputOver o) = true

connect_paid : (c : Control) (i : ℕ) (b : Option Binding) → IsPaid 0 (connect_moves c i b)
connect_paid c i None = omega arith
connect_paid c i (Some binding) = omega arith

request_paid : (c : Control) (req : Req) → is_output_over req ≡ false → MayAsk c req → is_granted (reply_of c req) ≡ true → IsPaid (cond (root_asked c) 1 0) (request_moves c req)
request_paid c (MakeSocket kind options) other may_ask granted = let free = unasked_free c (granted_alive c _ granted) in omega (arith, free)
request_paid c AskTerm other may_ask granted = let free = unasked_free c (asked_alive c granted) in omega (arith, free)
request_paid c (Bind o (Inproc name)) other may_ask granted =
    let free = unasked_free c (granted_alive c _ granted) in
    let paid = fulfil_paid c o.0 (next_pair c) (fulfilled_by (Inproc name) (binding_by o.0 c) c.names) in
    omega (arith, free, paid)
request_paid c (Bind o (Tcp address)) other may_ask granted = let free = unasked_free c (granted_alive c _ granted) in omega (arith, free)
request_paid c (Connect o (Inproc name)) other may_ask granted =
    let free = unasked_free c (granted_alive c _ granted) in
    let paid = connect_paid c o.0 (c.names.held (Inproc name)) in
    omega (arith, free, paid)
request_paid c (Connect o (Tcp address)) other may_ask granted = let free = unasked_free c (granted_alive c _ granted) in omega (arith, free)
request_paid c (Unbind o at) other may_ask granted = let free = unasked_free c (granted_alive c _ granted) in omega (arith, free)
request_paid c (Disconnect o at) other may_ask granted = let free = unasked_free c (granted_alive c _ granted) in omega (arith, free)
request_paid c (Close o) other may_ask granted = let most = at_most_one (root_asked c) in omega (arith, most)
request_paid c (Accepted o) other may_ask granted = let most = at_most_one (root_asked c) in omega (arith, most)
request_paid c (Shaken o peer) other may_ask granted = let most = at_most_one (root_asked c) in omega (arith, most)
request_paid c (AskEnd e reason) other may_ask granted = by reason may_ask.gives
  where
    by : (r : Reason) → MayGive r (obj c.rows (owner_of c e)) → IsPaid (cond (root_asked c) 1 0) (reason_moves r (owner_of c e))
    by Closed g = absurd g
    by BadId g = absurd g
    by Second g = absurd g
    by Linger g = let most = at_most_one (root_asked c) in omega (arith, most)
    by Link g = let most = at_most_one (root_asked c) in omega (arith, most)
request_paid c (AskOver o) other may_ask granted = let most = at_most_one (root_asked c) in omega (arith, most)
request_paid c (OutputOver o) other may_ask granted = absurd (never (sym other))

word_paid : (at : ℕ) (word : Word) → IsPaid 1 (word_moves at word)
word_paid at (Own child) = omega arith
word_paid at (Plug None) = omega arith
word_paid at (Plug (Some e)) = omega arith
word_paid at (TermReq child) = omega arith
word_paid at Term = omega arith
word_paid at (TermAck child) = omega arith
word_paid at (PipeBind e peer) = omega arith
word_paid at (PipeTerm e) = omega arith
word_paid at (PipeTermAck e) = omega arith
word_paid at Stop = omega arith
word_paid at (Reap socket) = omega arith

no_cost : (b : Bool) → ◌≡◌ {A = ℕ} (cond b 0 0) 0
no_cost true = refl
no_cost false = refl

-- what an event costs, once the root was asked
abbrev paid : {N S : Type 0} → Control → Did N S → ℕ
paid c did = cond (root_asked c) (costs did) 0

-- the shares of what was made
abbrev shares : Rows → ℕ
shares s = 8 * length s.objects + 7 * length s.pairs

-- where an event's own moves pay for it
moves_bound : {N S : Type 0} (c : Control) (did : Did N S) → Kept c → Fits c did → IsPaid (paid c did) (own_moves c did) → paid c did + weight_left (after did c).rows + shares c.rows ≤ weight_left c.rows + shares (after did c).rows
moves_bound c did kept fits own =
    let g = event_goes c did kept fits in
    let rows = taken_rows did c in
    let weighed = goes_weigh weight_left token_toll token_gain token_free token_step (own_moves c did) (having_taken did c) (after did c) (subst Sound (sym rows) (sound_of c kept)) g in
    let objects = goes_grow objects_in makes_one makes_free makes_step (own_moves c did) (having_taken did c) (after did c) g in
    let pairs = goes_grow pairs_in draws_one draws_free draws_step (own_moves c did) (having_taken did c) (after did c) g in
    let weight_same = ap weight_left rows in
    let objects_same = ap objects_in rows in
    let pairs_same = ap pairs_in rows in
    omega (arith, own, weighed, objects, pairs, weight_same, objects_same, pairs_same)

-- where a session's output is over: it ends
pub over_ends : (c : Control) (i : ℕ) (out : Bool) → out ≡ false → may_end c.rows i ≡ true → (try_end i out c).rows ≡ move_rows (ObjectEnds i) c.rows
over_ends c i out none may_so =
    let now = record c { output_left = with_value i out c.output_left } in
    ap (λ (b : Bool). (if b then (if out then now else finish i now) else now).rows) may_so ∙ ap (λ (b : Bool). (if b then now else finish i now).rows) none ∙ by (obj c.rows i).owner
  where
    by : (owner : Option ℕ) → (tell_owner owner i (record c { rows = move_rows (ObjectEnds i) c.rows; output_left = with_value i out c.output_left; ended = c.ended ++ id i ∷ [] })).rows ≡ move_rows (ObjectEnds i) c.rows
    by None = refl
    by (Some w) = refl

over_bound : {N S : Type 0} (c : Control) (o : ObjId) (h : Answered N S) → MayBeOver c o.0 → h.output_left ≡ false →
    1 + weight_left (requested (OutputOver o) (answers_in h) c).rows + shares c.rows ≤ weight_left c.rows + shares (requested (OutputOver o) (answers_in h) c).rows
over_bound c o h may_be none =
    let rows = over_ends c o.0 h.output_left none may_be.may in
    let less = end_falls c.rows o.0 may_be.may in
    let session = ap {B = ℕ} (λ (b : Bool). cond b 1 0) may_be.session in
    let weight_same = ap weight_left rows in
    let shares_same = ap shares rows in
    let lengths = length-set c.rows.objects o.0 (record (obj c.rows o.0) { stage = Finished }) in
    omega (arith, less, session, weight_same, shares_same, lengths)

granted_bound : {N S : Type 0} (c : Control) (req : Req) (reply : Reply) (h : Answered N S) → Kept c → Fits c (DidAsk req reply h) → is_granted reply ≡ true → reply_costs reply ≡ 1 →
    unless_refused reply (request_moves c req) ≡ request_moves c req → answered req reply (answers_in h) c ≡ requested req (answers_in h) c →
    paid c (DidAsk req reply h) + weight_left (after (DidAsk req reply h) c).rows + shares c.rows ≤ weight_left c.rows + shares (after (DidAsk req reply h) c).rows
granted_bound c req reply h kept fits granted cost own_is after_is = by (is_output_over req) refl
  where
    costs_one : paid c (DidAsk req reply h) ≡ cond (root_asked c) 1 0
    costs_one = ap (λ (n : ℕ). cond (root_asked c) n 0) cost

    over : (req : Req) → is_output_over req ≡ true → MayAsk c req → 1 + weight_left (requested req (answers_in h) c).rows + shares c.rows ≤ weight_left c.rows + shares (requested req (answers_in h) c).rows
    over (OutputOver o) e may_ask = over_bound c o h may_ask fits.answered.output
    over (MakeSocket kind options) e may_ask = absurd (never e)
    over AskTerm e may_ask = absurd (never e)
    over (Bind o at) e may_ask = absurd (never e)
    over (Connect o at) e may_ask = absurd (never e)
    over (Unbind o at) e may_ask = absurd (never e)
    over (Disconnect o at) e may_ask = absurd (never e)
    over (Close o) e may_ask = absurd (never e)
    over (Accepted o) e may_ask = absurd (never e)
    over (Shaken o peer) e may_ask = absurd (never e)
    over (AskEnd d reason) e may_ask = absurd (never e)
    over (AskOver o) e may_ask = absurd (never e)

    by : (x : Bool) → is_output_over req ≡ x → paid c (DidAsk req reply h) + weight_left (after (DidAsk req reply h) c).rows + shares c.rows ≤ weight_left c.rows + shares (after (DidAsk req reply h) c).rows
    by true e =
        let less = over req e fits.may.0 in
        let most = at_most_one (root_asked c) in
        let weight_same = ap (λ (d : Control). weight_left d.rows) after_is in
        let shares_same = ap (λ (d : Control). shares d.rows) after_is in
        omega (arith, less, most, costs_one, weight_same, shares_same)
    by false e =
        moves_bound c (DidAsk req reply h) kept fits
        (subst (λ (own : List Move). IsPaid (paid c (DidAsk req reply h)) own) (sym own_is) (subst (λ (n : ℕ). IsPaid n (request_moves c req)) (sym costs_one) (request_paid c req e fits.may.0 (ap is_granted (sym fits.may.1) ∙ granted))))

event_bound : {N S : Type 0} (c : Control) (did : Did N S) → Kept c → Fits c did → paid c did + weight_left (after did c).rows + shares c.rows ≤ weight_left c.rows + shares (after did c).rows
event_bound c (DidAsk req Done h) kept fits = granted_bound c req Done h kept fits refl refl refl refl
event_bound c (DidAsk req (Object o) h) kept fits = granted_bound c req (Object o) h kept fits refl refl refl refl
event_bound c (DidAsk req (PairMade p) h) kept fits = granted_bound c req (PairMade p) h kept fits refl refl refl refl
event_bound c (DidAsk req (Both o p) h) kept fits = granted_bound c req (Both o p) h kept fits refl refl refl refl
event_bound c (DidAsk req Wait h) kept fits = granted_bound c req Wait h kept fits refl refl refl refl
event_bound c (DidAsk req WasAsked h) kept fits = granted_bound c req WasAsked h kept fits refl refl refl refl
event_bound c (DidAsk req Before h) kept fits = let none = no_cost (root_asked c) in omega (arith, none)
event_bound c (DidAsk req (Refused refusal) h) kept fits = let none = no_cost (root_asked c) in omega (arith, none)
event_bound c (Delivered slot letter h) kept fits =
    moves_bound c (Delivered slot letter h) kept fits (let all = word_paid letter.to.0 letter.word in let most = at_most_one (root_asked c) in omega (arith, all, most))
event_bound c (Delimited e h) kept fits = moves_bound c (Delimited e h) kept fits (let none = no_cost (root_asked c) in omega (arith, none))

-- ---- a root that was asked stays so
abbrev root_alive : Rows → ℕ
root_alive s = cond (is_alive (obj s 0).stage) 1 0

alive_after : (e : LinkEvent) (o : Row) → cond (is_alive (link_after e o).stage) 1 0 ≤ cond (is_alive o.stage) 1 0
alive_after OwnComes o = omega arith
alive_after PlugComes o = omega arith
alive_after IsTold o = omega arith
alive_after TermComes o = omega arith
alive_after AsksOver o = omega arith
alive_after RequestComes o = omega arith
alive_after ReapComes o = omega arith
alive_after AckComes o = omega arith
alive_after RootAsked o = omega arith
alive_after StopPut o = omega arith
alive_after StopComes o = omega arith
alive_after AsksForLink o = omega arith
alive_after AsksForLinger o = omega arith

written_alive : (s : Rows) (i : ℕ) (n : Row) → i < length s.objects → cond (is_alive n.stage) 1 0 ≤ cond (is_alive (obj s i).stage) 1 0 → root_alive (with_object i n s) + 0 ≤ root_alive s + 0
written_alive s i n there less =
    elim (written s.objects n nobody i 0 there) [
      | is_here here same ↦
          let now = ap {B = ℕ} (λ (o : Row). cond (is_alive o.stage) 1 0) same in
          let was = ap {B = ℕ} (λ (k : ℕ). cond (is_alive (obj s k).stage) 1 0) here in
          omega (arith, now, was, less)
      | is_elsewhere same ↦ let now = ap {B = ℕ} (λ (o : Row). cond (is_alive o.stage) 1 0) same in omega (arith, now)
    ]

alive_step : (m : Move) (s : Rows) → Sound s → MayMove m s → root_alive (move_rows m s) + 0 ≤ root_alive s + 0
alive_step (LinkMoves i event) s sound may_so = written_alive s i (link_after event (obj s i)) (link_there s i event may_so) (alive_after event (obj s i))
alive_step (EndMoves e event) s sound may_so = omega arith
alive_step (ObjectEnds i) s sound may_so = written_alive s i (record (obj s i) { stage = Finished }) (ending_there s i may_so) (omega arith)
alive_step (ObjectMade row) s sound may_so =
    elim (pushed s.objects row nobody 0) [
      | is_old e ↦ let now = ap {B = ℕ} (λ (o : Row). cond (is_alive o.stage) 1 0) e in omega (arith, now)
      | is_new at e was ↦ let there = sound.ends 0 true in absurd (omega (arith, at, there))
    ]
alive_step (PairDrawn x y) s sound may_so = omega arith
alive_step (LetterPut to word) s sound may_so = omega arith

asked_stays : {N S : Type 0} (c : Control) (did : Did N S) → Kept c → Fits c did → root_asked c ≡ true → root_asked (after did c) ≡ true
asked_stays c did kept fits asked =
    let rows = taken_rows did c in
    let all = goes_weigh root_alive (λ m. 0) (λ m. 0) (λ m e. refl) alive_step (own_moves c did) (having_taken did c) (after did c) (subst Sound (sym rows) (sound_of c kept)) (event_goes c did kept fits) in
    let none = sum_of_none (own_moves c did) in
    let same = ap root_alive rows in
    by (is_alive (obj (after did c).rows 0).stage) (is_alive (obj c.rows 0).stage) asked (omega (arith, all, none, same))
  where
    by : (new old : Bool) → not old ≡ true → cond new 1 0 ≤ cond old 1 0 → not new ≡ true
    by false old h less = refl
    by true true h less = h
    by true false h less = absurd (omega (arith, less))

-- ---- a run
run_within : {N S : Type 0} (items : List (Item N S)) (c : Control) → Kept c → IsControlRun c items → weight_left (after_all items c).rows + shares c.rows ≤ weight_left c.rows + shares (after_all items c).rows
run_within [] c kept run = omega arith
run_within (Event entry ∷ items) c kept run =
    let now = event_bound c entry.did kept run.0 in
    let later = run_within items (after entry.did c) (after_kept c entry.did kept run.0) run.1 in
    omega (arith, now, later)
run_within (Seen sight ∷ items) c kept run = run_within items c kept run.1

run_bound : {N S : Type 0} (items : List (Item N S)) (c : Control) → Kept c → IsControlRun c items → root_asked c ≡ true →
    sum_by item_costs items + weight_left (after_all items c).rows + shares c.rows ≤ weight_left c.rows + shares (after_all items c).rows
run_bound [] c kept run asked = omega arith
run_bound (Event entry ∷ items) c kept run asked =
    let now = event_bound c entry.did kept run.0 in
    let later = run_bound items (after entry.did c) (after_kept c entry.did kept run.0) run.1 (asked_stays c entry.did kept run.0 asked) in
    let cost = ap (λ (b : Bool). cond b (costs entry.did) 0) asked in
    let first = sum_by-cons item_costs (Event entry) items in
    omega (arith, now, later, cost, first)
run_bound (Seen sight ∷ items) c kept run asked =
    let later = run_bound items c kept run.1 asked in
    let first = sum_by-cons item_costs (Seen sight) items in
    omega (arith, later, first)

pub run_splits : {N S : Type 0} (past next : List (Item N S)) (c : Control) → IsControlRun c (past ++ next) → IsControlRun c past × IsControlRun (after_all past c) next
run_splits [] next c run = (tt, run)
run_splits (item ∷ past) next c run = let rest = run_splits past next (after_item item c) run.1 in ((run.0, rest.0), rest.1)

pub ending_is_bounded : (N S : Type 0) → EndingIsBounded N S
ending_is_bounded N S workers past next run asked =
    let split = run_splits past next (begun workers) run in
    let c = after_all past (begun workers) in
    let kept = run_kept past (begun workers) (begun_kept workers) split.0 in
    let before = run_within past (begun workers) (begun_kept workers) split.0 in
    let then_so = run_bound next c kept split.1 asked in
    let end_kept = run_kept next c kept split.1 in
    let tokens = tokens_within (after_all next c).rows (sound_of (after_all next c) end_kept) in
    omega (arith, before, then_so, tokens)
