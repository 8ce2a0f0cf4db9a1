-- Each event whose entry was foreseen leaves one less to come.
use Rattle.std.specs.Prelude.{◌≡◌, ◌≤◌, ◌+◌, ◌*◌, ℕ, Bool, true, false, not, cond, List, [], ◌∷◌, Option, Some, None, length, sum_by, is_some, refl}
use Rattle.std.proofs.Common.{arith, sym, ap, subst}
use Rattle.std.proofs.lemmas.List.Sums.{sum_by-set, sum_by_push, sum_by-cons, sum_by-append}
use Rattle.zq_base.specs.declared.endpoint.Endpoint.TheVariants.{Inproc, Tcp}
use Rattle.zq_base.specs.declared.ids.ObjId.{ObjId}
use Rattle.spec_control.specs.declared.book.Binding.{Binding}
use Rattle.spec_control.specs.declared.book.Waiting.{Waiting}
use Rattle.spec_control.specs.declared.end.EndState.TheVariants.{Active, DelimiterGot, WaitDelimiter, AckSent, AskedOnce, AskedTwice, Gone}
use Rattle.spec_control.specs.declared.end.EndEvent.{EndEvent}
use Rattle.spec_control.specs.declared.end.EndEvent.TheVariants.{Asked, TermCame, DelimiterSeen, AckCame}
use Rattle.spec_control.specs.declared.end.Reason.{Reason}
use Rattle.spec_control.specs.declared.end.Reason.TheVariants.{Closed, BadId, Second, Linger, Link}
use Rattle.spec_control.specs.declared.letter.Word.{Word}
use Rattle.spec_control.specs.declared.letter.Word.TheVariants.{Own, Plug, TermReq, Term, TermAck, PipeBind, PipeTerm, PipeTermAck, Stop, Reap}
use Rattle.spec_control.specs.declared.request.Req.{Req}
use Rattle.spec_control.specs.declared.request.Req.TheVariants.{Socket as MakeSocket, AskTerm, Bind, Connect, Unbind, Disconnect, Close, Accepted, Shaken, AskEnd, AskOver, OutputOver}
use Rattle.spec_control.specs.declared.request.Reply.{Reply}
use Rattle.spec_control.specs.declared.request.Reply.TheVariants.{Done, Object, Pair as PairMade, Both, Wait, Asked as WasAsked, Before, Refused}
use Rattle.spec_control.specs.declared.entry.Answered.{Answered}
use Rattle.spec_control.specs.declared.entry.Did.{Did}
use Rattle.spec_control.specs.declared.entry.Did.TheVariants.{Asked as DidAsk, Delivered, Delimited}
use Rattle.spec_control.specs.Register.{fulfilled_by}
use Rattle.spec_control.specs.Place.{Place, Unmade, Away, At, is_unmade, looks}
use Rattle.spec_control.specs.PairPhase.{PairEvent, Opens, BindCame, Happens, may, place_after, other_after}
use Rattle.spec_control.specs.Rows.{Rows, PairRow, no_pair, obj, pair, end_place, end_half, pair_after}
use Rattle.spec_control.specs.Control.{Control, begun, owner_of, next_pair}
use Rattle.spec_control.specs.After.{answers_in, binding_by, requested, answered, after}
use Rattle.spec_control.specs.ControlRun.{MayGive, MayBeOver, MayAsk, Fits, unless_refused, after_all}
use Rattle.spec_control.specs.Quiescence.{pair_tokens, reply_costs}
use Rattle.control_laws.specs.Kept.{Kept}
use Rattle.control_laws.proofs.ListLemmas.{never, left, right}
use Rattle.control_laws.proofs.RowLemmas.{pair_there}
use Rattle.control_laws.proofs.RootLemmas.{runs_are_kept}
use Rattle.control_laws.proofs.RunLemmas.{after_kept}
use Rattle.control_laws.specs.Move.{Move, LinkMoves, EndMoves, ObjectEnds, ObjectMade, PairDrawn, LetterPut, move_rows, MayMove, is_named}
use Rattle.control_laws.specs.OwnMoves.{join_moves, fulfil_moves, connect_moves, reason_moves, request_moves, word_moves, own_moves, having_taken}
use Rattle.control_laws.specs.History.{delimiters_left, entries_left, is_foreseen, foreseen_in, entries_made, entries_reserved, HistoryRoomIsKept}
use Rattle.control_laws.proofs.SoundLemmas.{Sound, sound_of}
use Rattle.control_laws.proofs.WeighLemmas.{goes_weigh, taken_rows}
use Rattle.control_laws.proofs.EventGoLemmas.{event_goes}
use Rattle.control_laws.proofs.TokenLemmas.{weight_left, token_toll, token_gain, token_free, token_step, end_falls, pair_sums}
use Rattle.control_laws.proofs.BoundLemmas.{is_output_over, over_ends}
use Rattle.control_laws.proofs.PairWeighLemmas.{binds_away}

-- ---- delimiters
abbrev pair_delimiters : PairRow → ℕ
pair_delimiters p = delimiters_left p.a + delimiters_left p.b

abbrev delimiters_in : Rows → ℕ
delimiters_in s = sum_by pair_delimiters s.pairs

abbrev seen_toll : PairEvent → ℕ
seen_toll Opens = 0
seen_toll BindCame = 0
seen_toll (Happens (Asked reason delay)) = 0
seen_toll (Happens TermCame) = 0
seen_toll (Happens DelimiterSeen) = 1
seen_toll (Happens AckCame) = 0

abbrev delimiter_toll : Move → ℕ
delimiter_toll (LinkMoves i event) = 0
delimiter_toll (EndMoves e event) = seen_toll event
delimiter_toll (ObjectEnds i) = 0
delimiter_toll (ObjectMade row) = 0
delimiter_toll (PairDrawn x y) = 0
delimiter_toll (LetterPut to word) = 0

abbrev delimiter_gain : Move → ℕ
delimiter_gain (LinkMoves i event) = 0
delimiter_gain (EndMoves e event) = 0
delimiter_gain (ObjectEnds i) = 0
delimiter_gain (ObjectMade row) = 0
delimiter_gain (PairDrawn x y) = 2
delimiter_gain (LetterPut to word) = 0

delimiter_free : (m : Move) → is_named m ≡ false → delimiter_gain m ≡ 0
delimiter_free (LinkMoves i event) h = refl
delimiter_free (EndMoves e event) h = refl
delimiter_free (ObjectEnds i) h = refl
delimiter_free (ObjectMade row) h = refl
delimiter_free (PairDrawn x y) h = absurd (never (sym h))
delimiter_free (LetterPut to word) h = refl

-- a delimiter is met where one looks
abbrev looked_at : EndEvent → Place → Bool
looked_at (Asked reason delay) place = true
looked_at TermCame place = true
looked_at DelimiterSeen place = looks place
looked_at AckCame place = true

heard_falls : (event : EndEvent) (place : Place) → looked_at event place ≡ true → delimiters_left (place_after (Happens event) place) + seen_toll (Happens event) ≤ delimiters_left place
heard_falls (Asked reason delay) Unmade h = omega arith
heard_falls TermCame Unmade h = omega arith
heard_falls DelimiterSeen Unmade h = absurd (never h)
heard_falls AckCame Unmade h = omega arith
heard_falls (Asked reason delay) Away h = omega arith
heard_falls TermCame Away h = omega arith
heard_falls DelimiterSeen Away h = absurd (never h)
heard_falls AckCame Away h = omega arith
heard_falls (Asked reason true) (At Active) h = omega arith
heard_falls (Asked reason true) (At DelimiterGot) h = omega arith
heard_falls (Asked reason true) (At WaitDelimiter) h = omega arith
heard_falls (Asked reason true) (At AckSent) h = omega arith
heard_falls (Asked reason true) (At AskedOnce) h = omega arith
heard_falls (Asked reason true) (At AskedTwice) h = omega arith
heard_falls (Asked reason true) (At Gone) h = omega arith
heard_falls (Asked reason false) (At Active) h = omega arith
heard_falls (Asked reason false) (At DelimiterGot) h = omega arith
heard_falls (Asked reason false) (At WaitDelimiter) h = omega arith
heard_falls (Asked reason false) (At AckSent) h = omega arith
heard_falls (Asked reason false) (At AskedOnce) h = omega arith
heard_falls (Asked reason false) (At AskedTwice) h = omega arith
heard_falls (Asked reason false) (At Gone) h = omega arith
heard_falls TermCame (At Active) h = omega arith
heard_falls TermCame (At DelimiterGot) h = omega arith
heard_falls TermCame (At WaitDelimiter) h = omega arith
heard_falls TermCame (At AckSent) h = omega arith
heard_falls TermCame (At AskedOnce) h = omega arith
heard_falls TermCame (At AskedTwice) h = omega arith
heard_falls TermCame (At Gone) h = omega arith
heard_falls DelimiterSeen (At Active) h = omega arith
heard_falls DelimiterSeen (At DelimiterGot) h = absurd (never h)
heard_falls DelimiterSeen (At WaitDelimiter) h = omega arith
heard_falls DelimiterSeen (At AckSent) h = absurd (never h)
heard_falls DelimiterSeen (At AskedOnce) h = absurd (never h)
heard_falls DelimiterSeen (At AskedTwice) h = absurd (never h)
heard_falls DelimiterSeen (At Gone) h = absurd (never h)
heard_falls AckCame (At Active) h = omega arith
heard_falls AckCame (At DelimiterGot) h = omega arith
heard_falls AckCame (At WaitDelimiter) h = omega arith
heard_falls AckCame (At AckSent) h = omega arith
heard_falls AckCame (At AskedOnce) h = omega arith
heard_falls AckCame (At AskedTwice) h = omega arith
heard_falls AckCame (At Gone) h = omega arith

one_unmade : (place : Place) → is_unmade place ≡ true → delimiters_left place ≡ 1
one_unmade Unmade h = refl
one_unmade Away h = absurd (never h)
one_unmade (At state) h = absurd (never h)

looks_so : (event : EndEvent) (a : Bool) (p : PairRow) → may (Happens event) (end_half p a) (end_half p (not a)) ≡ true → looked_at event (end_place p a) ≡ true
looks_so (Asked reason delay) a p comes = refl
looks_so TermCame a p comes = refl
looks_so DelimiterSeen a p comes = comes
looks_so AckCame a p comes = refl

mine_seen : (e : PairEvent) (a : Bool) (p : PairRow) → may e (end_half p a) (end_half p (not a)) ≡ true → delimiters_left (place_after e (end_place p a)) + seen_toll e ≤ delimiters_left (end_place p a)
mine_seen Opens a p comes = let one = one_unmade (end_place p a) (left _ _ comes) in omega (arith, one)
mine_seen BindCame a p comes = let one = ap delimiters_left (binds_away (end_place p a) (end_place p (not a)) comes) in omega (arith, one)
mine_seen (Happens event) a p comes = heard_falls event (end_place p a) (looks_so event a p comes)

theirs_seen : (e : PairEvent) (a : Bool) (p : PairRow) → may e (end_half p a) (end_half p (not a)) ≡ true → delimiters_left (other_after e (end_place p (not a))) ≤ delimiters_left (end_place p (not a))
theirs_seen Opens a p comes = let one = one_unmade (end_place p (not a)) (right (is_unmade (end_place p a)) _ comes) in omega (arith, one)
theirs_seen BindCame a p comes = omega arith
theirs_seen (Happens event) a p comes = omega arith

pair_seen : (e : PairEvent) (a : Bool) (p : PairRow) → may e (end_half p a) (end_half p (not a)) ≡ true → pair_delimiters (pair_after e a p) + seen_toll e ≤ pair_delimiters p
pair_seen e true p comes = let mine = mine_seen e true p comes in let theirs = theirs_seen e true p comes in omega (arith, mine, theirs)
pair_seen e false p comes = let mine = mine_seen e false p comes in let theirs = theirs_seen e false p comes in omega (arith, mine, theirs)

delimiter_step : (m : Move) (s : Rows) → Sound s → MayMove m s → delimiters_in (move_rows m s) + delimiter_toll m ≤ delimiters_in s + delimiter_gain m
delimiter_step (LinkMoves i event) s sound may_so = omega arith
delimiter_step (EndMoves e event) s sound may_so =
    let set = sum_by-set pair_delimiters s.pairs e.pair.0 (pair_after event e.a (pair s e.pair.0)) no_pair (pair_there s e.pair.0 e.a event may_so.comes) in
    let less = pair_seen event e.a (pair s e.pair.0) may_so.comes in
    omega (arith, set, less)
delimiter_step (ObjectEnds i) s sound may_so = omega arith
delimiter_step (ObjectMade row) s sound may_so = omega arith
delimiter_step (PairDrawn x y) s sound may_so = let more = sum_by_push pair_delimiters s.pairs (record { a_owner = x; b_owner = y; a = Unmade; b = Unmade }) in omega (arith, more)
delimiter_step (LetterPut to word) s sound may_so = omega arith

-- ---- entries are these two together
sum_of_two : {X : Type 0} (f g : X → ℕ) (xs : List X) → sum_by (λ x. f x + g x) xs ≡ sum_by f xs + sum_by g xs
sum_of_two f g [] = refl
sum_of_two f g (x ∷ xs) =
    let a = sum_by-cons (λ x. f x + g x) x xs in
    let b = sum_by-cons f x xs in
    let c = sum_by-cons g x xs in
    let rest = sum_of_two f g xs in
    omega (arith, a, b, c, rest)

entries_are : (s : Rows) → Sound s → entries_left s ≡ weight_left s + delimiters_in s
entries_are s sound = let split = sum_of_two pair_tokens pair_delimiters s.pairs in let same = pair_sums s sound in omega (arith, split, same)

-- what the moves bring and the entry is within what they take and the room of the event
abbrev IsPaid : (entry reserved : ℕ) → List Move → Type 0
IsPaid entry reserved own = entry + (sum_by token_gain own + sum_by delimiter_gain own) ≤ (sum_by token_toll own + sum_by delimiter_toll own) + reserved

fulfil_paid : (c : Control) (i k : ℕ) (ws : List Waiting) → IsPaid 0 (8 * length ws) (fulfil_moves c i k ws)
fulfil_paid c i k [] = omega arith
fulfil_paid c i k (w ∷ ws) =
    let rest = fulfil_paid c i (k + 1) ws in
    let one = join_moves c k w.waiter.0 i false in
    let gains = sum_by-append token_gain one (fulfil_moves c i (k + 1) ws) in
    let tolls = sum_by-append token_toll one (fulfil_moves c i (k + 1) ws) in
    let more = sum_by-append delimiter_gain one (fulfil_moves c i (k + 1) ws) in
    let seen = sum_by-append delimiter_toll one (fulfil_moves c i (k + 1) ws) in
    omega (arith, rest, gains, tolls, more, seen)

connect_paid : (c : Control) (i : ℕ) (b : Option Binding) → IsPaid 0 (cond (is_some b) 8 0) (connect_moves c i b)
connect_paid c i None = omega arith
connect_paid c i (Some binding) = omega arith

request_paid : (c : Control) (req : Req) → is_output_over req ≡ false → MayAsk c req → IsPaid (cond (is_foreseen req) 1 0) (entries_made c req) (request_moves c req)
request_paid c (MakeSocket kind options) other may_ask = omega arith
request_paid c AskTerm other may_ask = omega arith
request_paid c (Bind o (Inproc name)) other may_ask = fulfil_paid c o.0 (next_pair c) (fulfilled_by (Inproc name) (binding_by o.0 c) c.names)
request_paid c (Bind o (Tcp address)) other may_ask = omega arith
request_paid c (Connect o (Inproc name)) other may_ask = connect_paid c o.0 (c.names.held (Inproc name))
request_paid c (Connect o (Tcp address)) other may_ask = omega arith
request_paid c (Unbind o at) other may_ask = omega arith
request_paid c (Disconnect o at) other may_ask = omega arith
request_paid c (Close o) other may_ask = omega arith
request_paid c (Accepted o) other may_ask = omega arith
request_paid c (Shaken o peer) other may_ask = omega arith
request_paid c (AskEnd e reason) other may_ask = by reason may_ask.gives
  where
    by : (r : Reason) → MayGive r (obj c.rows (owner_of c e)) → IsPaid 1 0 (reason_moves r (owner_of c e))
    by Closed g = absurd g
    by BadId g = absurd g
    by Second g = absurd g
    by Linger g = omega arith
    by Link g = omega arith
request_paid c (AskOver o) other may_ask = omega arith
request_paid c (OutputOver o) other may_ask = absurd (never (sym other))

word_paid : (at : ℕ) (word : Word) → IsPaid 1 0 (word_moves at word)
word_paid at (Own child) = omega arith
word_paid at (Plug None) = omega arith
word_paid at (Plug (Some e)) = omega arith
word_paid at (TermReq child) = omega arith
word_paid at Term = omega arith
word_paid at (TermAck child) = omega arith
word_paid at (PipeBind e peer) = omega arith
word_paid at (PipeTerm e) = omega arith
word_paid at (PipeTermAck e) = omega arith
word_paid at Stop = omega arith
word_paid at (Reap socket) = omega arith

-- ---- one event
moves_keep : {N S : Type 0} (c : Control) (did : Did N S) (entry room : ℕ) → Kept c → Fits c did → IsPaid entry room (own_moves c did) → entries_left (after did c).rows + entry ≤ entries_left c.rows + room
moves_keep c did entry room kept fits own =
    let g = event_goes c did kept fits in
    let rows = taken_rows did c in
    let sound = subst Sound (sym rows) (sound_of c kept) in
    let weighed = goes_weigh weight_left token_toll token_gain token_free token_step (own_moves c did) (having_taken did c) (after did c) sound g in
    let seen = goes_weigh delimiters_in delimiter_toll delimiter_gain delimiter_free delimiter_step (own_moves c did) (having_taken did c) (after did c) sound g in
    let weight_same = ap weight_left rows in
    let seen_same = ap delimiters_in rows in
    let was = entries_are c.rows (sound_of c kept) in
    let now = entries_are (after did c).rows (sound_of (after did c) (after_kept c did kept fits)) in
    omega (arith, own, weighed, seen, weight_same, seen_same, was, now)

over_keeps : {N S : Type 0} (c : Control) (o : ObjId) (h : Answered N S) → Kept c → MayBeOver c o.0 → h.output_left ≡ false → Sound (requested (OutputOver o) (answers_in h) c).rows →
    entries_left (requested (OutputOver o) (answers_in h) c).rows + 1 ≤ entries_left c.rows
over_keeps c o h kept may_be none sound =
    let rows = over_ends c o.0 h.output_left none may_be.may in
    let less = end_falls c.rows o.0 may_be.may in
    let session = ap {B = ℕ} (λ (b : Bool). cond b 1 0) may_be.session in
    let weight_same = ap weight_left rows in
    let seen_same = ap delimiters_in rows in
    let was = entries_are c.rows (sound_of c kept) in
    let now = entries_are (requested (OutputOver o) (answers_in h) c).rows sound in
    omega (arith, less, session, weight_same, seen_same, was, now)

granted_keeps : {N S : Type 0} (c : Control) (req : Req) (reply : Reply) (h : Answered N S) → Kept c → Fits c (DidAsk req reply h) → reply_costs reply ≡ 1 →
    unless_refused reply (request_moves c req) ≡ request_moves c req → answered req reply (answers_in h) c ≡ requested req (answers_in h) c →
    entries_left (after (DidAsk req reply h) c).rows + foreseen_in (DidAsk req reply h) ≤ entries_left c.rows + entries_reserved c (DidAsk req reply h)
granted_keeps c req reply h kept fits cost own_is after_is = by (is_output_over req) refl
  where
    entry : foreseen_in (DidAsk req reply h) ≡ cond (is_foreseen req) 1 0
    entry = ap (λ (n : ℕ). cond (is_foreseen req) n 0) cost

    room : entries_reserved c (DidAsk req reply h) ≡ entries_made c req
    room = let one = ap (λ (n : ℕ). n * entries_made c req) cost in omega (arith, one)

    sound : Sound (requested req (answers_in h) c).rows
    sound = subst (λ (d : Control). Sound d.rows) after_is (sound_of (after (DidAsk req reply h) c) (after_kept c (DidAsk req reply h) kept fits))

    over : (req : Req) → is_output_over req ≡ true → MayAsk c req → Sound (requested req (answers_in h) c).rows → entries_left (requested req (answers_in h) c).rows + 1 ≤ entries_left c.rows
    over (OutputOver o) e may_ask so = over_keeps c o h kept may_ask fits.answered.output so
    over (MakeSocket kind options) e may_ask so = absurd (never e)
    over AskTerm e may_ask so = absurd (never e)
    over (Bind o at) e may_ask so = absurd (never e)
    over (Connect o at) e may_ask so = absurd (never e)
    over (Unbind o at) e may_ask so = absurd (never e)
    over (Disconnect o at) e may_ask so = absurd (never e)
    over (Close o) e may_ask so = absurd (never e)
    over (Accepted o) e may_ask so = absurd (never e)
    over (Shaken o peer) e may_ask so = absurd (never e)
    over (AskEnd d reason) e may_ask so = absurd (never e)
    over (AskOver o) e may_ask so = absurd (never e)

    at_most_one : (b : Bool) → cond b 1 0 ≤ 1
    at_most_one true = omega arith
    at_most_one false = omega arith

    by : (x : Bool) → is_output_over req ≡ x → entries_left (after (DidAsk req reply h) c).rows + foreseen_in (DidAsk req reply h) ≤ entries_left c.rows + entries_reserved c (DidAsk req reply h)
    by true e =
        let less = over req e fits.may.0 sound in
        let same = ap (λ (d : Control). entries_left d.rows) after_is in
        let most = at_most_one (is_foreseen req) in
        omega (arith, less, same, entry, most)
    by false e =
        let paid = request_paid c req e fits.may.0 in
        let all = moves_keep c (DidAsk req reply h) (cond (is_foreseen req) 1 0) (entries_made c req) kept fits (subst (λ (own : List Move). IsPaid (cond (is_foreseen req) 1 0) (entries_made c req) own) (sym own_is) paid) in
        omega (arith, all, entry, room)

nothing : (b : Bool) → ◌≡◌ {A = ℕ} (cond b 0 0) 0
nothing true = refl
nothing false = refl

event_keeps : {N S : Type 0} (c : Control) (did : Did N S) → Kept c → Fits c did → entries_left (after did c).rows + foreseen_in did ≤ entries_left c.rows + entries_reserved c did
event_keeps c (DidAsk req Done h) kept fits = granted_keeps c req Done h kept fits refl refl refl
event_keeps c (DidAsk req (Object o) h) kept fits = granted_keeps c req (Object o) h kept fits refl refl refl
event_keeps c (DidAsk req (PairMade p) h) kept fits = granted_keeps c req (PairMade p) h kept fits refl refl refl
event_keeps c (DidAsk req (Both o p) h) kept fits = granted_keeps c req (Both o p) h kept fits refl refl refl
event_keeps c (DidAsk req Wait h) kept fits = granted_keeps c req Wait h kept fits refl refl refl
event_keeps c (DidAsk req WasAsked h) kept fits = granted_keeps c req WasAsked h kept fits refl refl refl
event_keeps c (DidAsk req Before h) kept fits = let none = nothing (is_foreseen req) in omega (arith, none)
event_keeps c (DidAsk req (Refused refusal) h) kept fits = let none = nothing (is_foreseen req) in omega (arith, none)
event_keeps c (Delivered slot letter h) kept fits = moves_keep c (Delivered slot letter h) 1 0 kept fits (word_paid letter.to.0 letter.word)
event_keeps c (Delimited e h) kept fits = moves_keep c (Delimited e h) 1 0 kept fits (omega arith)

pub history_room_is_kept : (N S : Type 0) → HistoryRoomIsKept N S
history_room_is_kept N S workers items run did fits = event_keeps (after_all items (begun workers)) did (runs_are_kept N S workers items run) fits
