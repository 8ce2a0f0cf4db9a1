-- What a run without tcp makes: an object for each request for a socket at the most, and a pair for each connect.
use Rattle.std.specs.Prelude.{◌≡◌, ◌≤◌, ◌+◌, ℕ, true, false, List, [], ◌∷◌, Option, Some, None, length, option_to_list, sum_by, refl}
use Rattle.std.specs.List.{list_all}
use Rattle.std.proofs.Common.{arith, sym, ap, length-append, length-set}
use Rattle.std.proofs.lemmas.List.{length-map}
use Rattle.std.proofs.lemmas.List.Sums.{sum_by-cons, sum_by-append}
use Rattle.zq_base.specs.declared.endpoint.Endpoint.TheVariants.{Inproc, Tcp}
use Rattle.spec_control.specs.declared.book.Binding.{Binding}
use Rattle.spec_control.specs.declared.book.Waiting.{Waiting}
use Rattle.spec_control.specs.declared.end.Reason.TheVariants.{Closed, BadId, Second, Linger, Link}
use Rattle.spec_control.specs.declared.end.EndEvent.TheVariants.{DelimiterSeen}
use Rattle.spec_control.specs.declared.letter.Word.{Word}
use Rattle.spec_control.specs.declared.letter.Word.TheVariants.{Own, Plug, TermReq, Term, TermAck, PipeBind, PipeTerm, PipeTermAck, Stop, Reap}
use Rattle.spec_control.specs.declared.request.Req.{Req}
use Rattle.spec_control.specs.declared.request.Req.TheVariants.{Socket as MakeSocket, AskTerm, Bind, Connect, Unbind, Disconnect, Close, Accepted, Shaken, AskEnd, AskOver, OutputOver}
use Rattle.spec_control.specs.declared.request.Reply.{Reply}
use Rattle.spec_control.specs.declared.request.Reply.TheVariants.{Done, Object, Pair, Both, Wait, Asked as WasAsked, Before, Refused}
use Rattle.spec_control.specs.declared.entry.Did.{Did}
use Rattle.spec_control.specs.declared.entry.Did.TheVariants.{Asked, Delivered, Delimited}
use Rattle.spec_control.specs.declared.entry.Item.{Item}
use Rattle.spec_control.specs.declared.entry.Item.TheVariants.{Event, Seen}
use Rattle.spec_control.specs.Place.{Unmade}
use Rattle.spec_control.specs.Register.{fulfilled_by}
use Rattle.spec_control.specs.Rows.{Rows, pair, pair_after}
use Rattle.spec_control.specs.Control.{Control, next_object, next_pair}
use Rattle.spec_control.specs.After.{Answers, answers_in, binding_by, requested, answered, without_front, after}
use Rattle.spec_control.specs.ControlRun.{Fits, unless_refused, after_all, IsControlRun}
use Rattle.control_laws.proofs.ListLemmas.{never, left, right}
use Rattle.control_laws.specs.Kept.{Kept}
use Rattle.control_laws.proofs.RunLemmas.{after_kept}
use Rattle.control_laws.specs.Move.{Move, LinkMoves, EndMoves, ObjectEnds, ObjectMade, PairDrawn, LetterPut, move_rows, MayMove, is_named}
use Rattle.control_laws.specs.OwnMoves.{join_moves, fulfil_moves, connect_moves, request_moves, word_moves, own_moves, having_taken}
use Rattle.control_laws.proofs.WeighLemmas.{goes_grow, taken_rows}
use Rattle.control_laws.proofs.EventGoLemmas.{event_goes}
use Rattle.replay_laws.specs.Local.{is_local, is_local_did, is_local_item}
use Rattle.replay_laws.proofs.SlotLemmas.{mark, marks, marks_after, made, fulfils_none, connects_none, word_makes_none}
use Rattle.replay_laws.proofs.AskLemmas.{weight_did, weight_item}
use Rattle.replay_laws.proofs.NameLemmas.{waits, is_bind, is_connect, word_waits, bind_waits, connect_waits, request_waits, waiting_count, happens_names}

-- a request for a socket, and a connect
abbrev pub asks_socket : Req → ℕ
asks_socket (MakeSocket kind options) = 1
asks_socket AskTerm = 0
asks_socket (Bind o at) = 0
asks_socket (Connect o at) = 0
asks_socket (Unbind o at) = 0
asks_socket (Disconnect o at) = 0
asks_socket (Close o) = 0
asks_socket (Accepted o) = 0
asks_socket (Shaken o peer) = 0
asks_socket (AskEnd e reason) = 0
asks_socket (AskOver o) = 0
asks_socket (OutputOver o) = 0

abbrev pub asks_connect : Req → ℕ
asks_connect (MakeSocket kind options) = 0
asks_connect AskTerm = 0
asks_connect (Bind o at) = 0
asks_connect (Connect o at) = 1
asks_connect (Unbind o at) = 0
asks_connect (Disconnect o at) = 0
asks_connect (Close o) = 0
asks_connect (Accepted o) = 0
asks_connect (Shaken o peer) = 0
asks_connect (AskEnd e reason) = 0
asks_connect (AskOver o) = 0
asks_connect (OutputOver o) = 0

-- ---- objects

request_makes : (c : Control) (req : Req) → is_local req ≡ true → length (made (request_moves c req)) ≤ asks_socket req
request_makes c (MakeSocket kind options) h = omega arith
request_makes c AskTerm h = omega arith
request_makes c (Bind o (Inproc name)) h = let none = ap length (fulfils_none c o.0 (next_pair c) (fulfilled_by (Inproc name) (binding_by o.0 c) c.names)) in omega (arith, none)
request_makes c (Bind o (Tcp address)) h = absurd (never h)
request_makes c (Connect o (Inproc name)) h = let none = ap length (connects_none c o.0 (c.names.held (Inproc name))) in omega (arith, none)
request_makes c (Connect o (Tcp address)) h = absurd (never h)
request_makes c (Unbind o at) h = omega arith
request_makes c (Disconnect o at) h = omega arith
request_makes c (Close o) h = omega arith
request_makes c (Accepted o) h = absurd (never h)
request_makes c (Shaken o peer) h = omega arith
request_makes c (AskEnd e Closed) h = omega arith
request_makes c (AskEnd e BadId) h = omega arith
request_makes c (AskEnd e Second) h = omega arith
request_makes c (AskEnd e Linger) h = omega arith
request_makes c (AskEnd e Link) h = omega arith
request_makes c (AskOver o) h = omega arith
request_makes c (OutputOver o) h = omega arith

answered_makes : (c : Control) (req : Req) (reply : Reply) → is_local req ≡ true → length (made (unless_refused reply (request_moves c req))) ≤ asks_socket req
answered_makes c req Done h = request_makes c req h
answered_makes c req (Object o) h = request_makes c req h
answered_makes c req (Pair p) h = request_makes c req h
answered_makes c req (Both o p) h = request_makes c req h
answered_makes c req Wait h = request_makes c req h
answered_makes c req WasAsked h = request_makes c req h
answered_makes c req Before h = omega arith
answered_makes c req (Refused refusal) h = omega arith

module _ {N S : Type 0} where
  did_makes : (c : Control) (did : Did N S) → is_local_did did ≡ true → length (made (own_moves c did)) ≤ weight_did asks_socket did
  did_makes c (Asked req reply h) plain = answered_makes c req reply plain
  did_makes c (Delivered slot letter h) plain = let none = ap length (word_makes_none letter.to.0 letter.word) in omega (arith, none)
  did_makes c (Delimited e h) plain = omega arith

  objects_grow : (c : Control) (did : Did N S) → Kept c → Fits c did → next_object (after did c) ≡ next_object c + length (made (own_moves c did))
  objects_grow c did kept fits =
      let all = ap length (marks_after c did kept fits) in
      let now = length-map (after did c).rows.objects mark in
      let old = length-map c.rows.objects mark in
      let new = length-map (made (own_moves c did)) mark in
      let on = length-append (marks c.rows.objects) (marks (made (own_moves c did))) in
      omega (arith, all, now, old, new, on)

  pub objects_over : (items : List (Item N S)) (c : Control) → Kept c → IsControlRun c items → list_all is_local_item items ≡ true → next_object (after_all items c) ≤ next_object c + sum_by (weight_item asks_socket) items
  objects_over [] c kept run plain = omega arith
  objects_over (Event entry ∷ items) c kept run plain =
      let own = did_makes c entry.did (left _ _ plain) in
      let grow = objects_grow c entry.did kept run.0 in
      let rest = objects_over items (after entry.did c) (after_kept c entry.did kept run.0) run.1 (right (is_local_did entry.did) _ plain) in
      let all = sum_by-cons (λ (x : Item N S). weight_item asks_socket x) (Event entry) items in
      omega (arith, own, grow, rest, all)
  objects_over (Seen sight ∷ items) c kept run plain =
      let rest = objects_over items c kept run.1 plain in
      let all = sum_by-cons (λ (x : Item N S). weight_item asks_socket x) (Seen sight) items in omega (arith, rest, all)

-- ---- pairs, and connects that wait

abbrev draws : Move → ℕ
draws (LinkMoves i event) = 0
draws (EndMoves e event) = 0
draws (ObjectEnds i) = 0
draws (ObjectMade row) = 0
draws (PairDrawn x y) = 1
draws (LetterPut to word) = 0

draws_free : (m : Move) → is_named m ≡ false → draws m ≡ 0
draws_free (LinkMoves i event) h = refl
draws_free (EndMoves e event) h = refl
draws_free (ObjectEnds i) h = refl
draws_free (ObjectMade row) h = refl
draws_free (PairDrawn x y) h = absurd (never (sym h))
draws_free (LetterPut to word) h = refl

draws_step : (m : Move) (s : Rows) → MayMove m s → length (move_rows m s).pairs ≡ length s.pairs + draws m
draws_step (LinkMoves i event) s may_so = omega arith
draws_step (EndMoves e event) s may_so = let same = length-set s.pairs e.pair.0 (pair_after event e.a (pair s e.pair.0)) in omega (arith, same)
draws_step (ObjectEnds i) s may_so = omega arith
draws_step (ObjectMade row) s may_so = omega arith
draws_step (PairDrawn x y) s may_so = let more = length-append s.pairs (record { a_owner = x; b_owner = y; a = Unmade; b = Unmade } ∷ []) in omega (arith, more)
draws_step (LetterPut to word) s may_so = omega arith

fulfil_draws : (c : Control) (i k : ℕ) (ws : List Waiting) → sum_by draws (fulfil_moves c i k ws) ≡ length ws
fulfil_draws c i k [] = refl
fulfil_draws c i k (w ∷ ws) =
    let rest = fulfil_draws c i (k + 1) ws in
    let on = sum_by-append draws (join_moves c k w.waiter.0 i false) (fulfil_moves c i (k + 1) ws) in
    omega (arith, rest, on)

connect_draws : (c : Control) (i : ℕ) (held : Option Binding) → sum_by draws (connect_moves c i held) ≡ length (option_to_list held)
connect_draws c i None = refl
connect_draws c i (Some binding) = omega arith

module _ {N S : Type 0} where
  pairs_grow : (c : Control) (did : Did N S) → Kept c → Fits c did → next_pair (after did c) ≡ next_pair c + sum_by draws (own_moves c did)
  pairs_grow c did kept fits =
      let all = goes_grow (λ s. length s.pairs) draws draws_free draws_step (own_moves c did) (having_taken did c) (after did c) (event_goes c did kept fits) in
      let same = ap (λ (s : Rows). length s.pairs) (taken_rows did c) in omega (arith, all, same)

none_drawn : (c : Control) (req : Req) → is_local req ≡ true → is_bind req ≡ false → is_connect req ≡ false → sum_by draws (request_moves c req) ≡ 0
none_drawn c (MakeSocket kind options) h b k = omega arith
none_drawn c AskTerm h b k = omega arith
none_drawn c (Bind o at) h b k = absurd (never (sym b))
none_drawn c (Connect o at) h b k = absurd (never (sym k))
none_drawn c (Unbind o at) h b k = refl
none_drawn c (Disconnect o at) h b k = refl
none_drawn c (Close o) h b k = omega arith
none_drawn c (Accepted o) h b k = absurd (never h)
none_drawn c (Shaken o peer) h b k = omega arith
none_drawn c (AskEnd e Closed) h b k = refl
none_drawn c (AskEnd e BadId) h b k = refl
none_drawn c (AskEnd e Second) h b k = refl
none_drawn c (AskEnd e Linger) h b k = omega arith
none_drawn c (AskEnd e Link) h b k = omega arith
none_drawn c (AskOver o) h b k = omega arith
none_drawn c (OutputOver o) h b k = refl

word_draws : (at : ℕ) (word : Word) → sum_by draws (word_moves at word) ≡ 0
word_draws at (Own child) = omega arith
word_draws at (Plug None) = omega arith
word_draws at (Plug (Some e)) = omega arith
word_draws at (TermReq child) = omega arith
word_draws at Term = omega arith
word_draws at (TermAck child) = omega arith
word_draws at (PipeBind e peer) = omega arith
word_draws at (PipeTerm e) = omega arith
word_draws at (PipeTermAck e) = omega arith
word_draws at Stop = omega arith
word_draws at (Reap socket) = omega arith

-- the pairs and the connects that wait for theirs
abbrev pub brought : Control → ℕ
brought c = next_pair c + waits c

other_brings : (c : Control) (req : Req) (h : Answers) → is_local req ≡ true → is_bind req ≡ false → is_connect req ≡ false → next_pair (requested req h c) ≡ next_pair c + sum_by draws (request_moves c req)
    → brought (requested req h c) ≤ brought c
other_brings c req h plain b k grow =
    let none = none_drawn c req plain b k in
    let few = request_waits req h c plain b k in omega (arith, none, few, grow)

request_brings : (c : Control) (req : Req) (h : Answers) → is_local req ≡ true → next_pair (requested req h c) ≡ next_pair c + sum_by draws (request_moves c req) → brought (requested req h c) ≤ brought c + asks_connect req
request_brings c (MakeSocket kind options) h plain grow = let few = other_brings c (MakeSocket kind options) h plain refl refl grow in omega (arith, few)
request_brings c AskTerm h plain grow = let few = other_brings c AskTerm h plain refl refl grow in omega (arith, few)
request_brings c (Bind o (Inproc name)) h plain grow =
    let drawn = fulfil_draws c o.0 (next_pair c) (fulfilled_by (Inproc name) (binding_by o.0 c) c.names) in
    let taken = bind_waits o.0 name h c in omega (arith, grow, drawn, taken)
request_brings c (Bind o (Tcp address)) h plain grow = absurd (never plain)
request_brings c (Connect o (Inproc name)) h plain grow =
    let drawn = connect_draws c o.0 (c.names.held (Inproc name)) in
    let one = connect_waits o.0 (Inproc name) (c.names.held (Inproc name)) h c in omega (arith, grow, drawn, one)
request_brings c (Connect o (Tcp address)) h plain grow = absurd (never plain)
request_brings c (Unbind o at) h plain grow = let few = other_brings c (Unbind o at) h plain refl refl grow in omega (arith, few)
request_brings c (Disconnect o at) h plain grow = let few = other_brings c (Disconnect o at) h plain refl refl grow in omega (arith, few)
request_brings c (Close o) h plain grow = let few = other_brings c (Close o) h plain refl refl grow in omega (arith, few)
request_brings c (Accepted o) h plain grow = absurd (never plain)
request_brings c (Shaken o peer) h plain grow = let few = other_brings c (Shaken o peer) h plain refl refl grow in omega (arith, few)
request_brings c (AskEnd e reason) h plain grow = let few = other_brings c (AskEnd e reason) h plain refl refl grow in omega (arith, few)
request_brings c (AskOver o) h plain grow = let few = other_brings c (AskOver o) h plain refl refl grow in omega (arith, few)
request_brings c (OutputOver o) h plain grow = let few = other_brings c (OutputOver o) h plain refl refl grow in omega (arith, few)

answered_brings : (c : Control) (req : Req) (reply : Reply) (h : Answers) → is_local req ≡ true → next_pair (answered req reply h c) ≡ next_pair c + sum_by draws (unless_refused reply (request_moves c req))
    → brought (answered req reply h c) ≤ brought c + asks_connect req
answered_brings c req Done h plain grow = request_brings c req h plain grow
answered_brings c req (Object o) h plain grow = request_brings c req h plain grow
answered_brings c req (Pair p) h plain grow = request_brings c req h plain grow
answered_brings c req (Both o p) h plain grow = request_brings c req h plain grow
answered_brings c req Wait h plain grow = request_brings c req h plain grow
answered_brings c req WasAsked h plain grow = request_brings c req h plain grow
answered_brings c req Before h plain grow = omega arith
answered_brings c req (Refused refusal) h plain grow = omega arith

module _ {N S : Type 0} where
  did_brings : (c : Control) (did : Did N S) → Kept c → Fits c did → is_local_did did ≡ true → brought (after did c) ≤ brought c + weight_did asks_connect did
  did_brings c (Asked req reply h) kept fits plain = answered_brings c req reply (answers_in h) plain (pairs_grow c (Asked req reply h) kept fits)
  did_brings c (Delivered slot letter h) kept fits plain =
      let grow = pairs_grow c (Delivered slot letter h) kept fits in
      let none = word_draws letter.to.0 letter.word in
      let few = word_waits letter.to.0 letter.word (answers_in h) (without_front slot.0 c) in omega (arith, grow, none, few)
  did_brings c (Delimited e h) kept fits plain =
      let grow = pairs_grow c (Delimited e h) kept fits in
      let same = ap waiting_count (happens_names DelimiterSeen e c) in omega (arith, grow, same)

  pub brought_over : (items : List (Item N S)) (c : Control) → Kept c → IsControlRun c items → list_all is_local_item items ≡ true → brought (after_all items c) ≤ brought c + sum_by (weight_item asks_connect) items
  brought_over [] c kept run plain = omega arith
  brought_over (Event entry ∷ items) c kept run plain =
      let own = did_brings c entry.did kept run.0 (left _ _ plain) in
      let rest = brought_over items (after entry.did c) (after_kept c entry.did kept run.0) run.1 (right (is_local_did entry.did) _ plain) in
      let all = sum_by-cons (λ (x : Item N S). weight_item asks_connect x) (Event entry) items in
      omega (arith, own, rest, all)
  brought_over (Seen sight ∷ items) c kept run plain =
      let rest = brought_over items c kept run.1 plain in
      let all = sum_by-cons (λ (x : Item N S). weight_item asks_connect x) (Seen sight) items in omega (arith, rest, all)
