-- Each socket that asked to be reaped is among those that were closed.
use Rattle.std.specs.Prelude.{◌≡◌, ◌==◌, ◌&&◌, ◌||◌, ◌⊎◌, ◌+◌, ◌++◌, ℕ, Bool, true, false, cond, not, List, [], ◌∷◌, Option, Some, None, filter, refl}
use Rattle.std.specs.List.{list_any}
use Rattle.std.proofs.Common.{sym, ap, ◌∙◌, subst, inl, inr}
use Rattle.std.proofs.lemmas.Bool.{eq-eqb, eqb-true}
use Rattle.std.proofs.lemmas.List.Folds.{list_any-append}
use Rattle.zq_base.specs.declared.ids.ObjId.{ObjId}
use Rattle.zq_base.specs.declared.endpoint.Endpoint.TheVariants.{Inproc, Tcp}
use Rattle.spec_control.specs.declared.book.Binding.{Binding}
use Rattle.spec_control.specs.declared.book.Waiting.{Waiting}
use Rattle.spec_control.specs.declared.end.Reason.TheVariants.{Closed, BadId, Second, Linger, Link}
use Rattle.spec_control.specs.declared.entry.Did.{Did}
use Rattle.spec_control.specs.declared.entry.Did.TheVariants.{Asked, Delivered, Delimited}
use Rattle.spec_control.specs.declared.entry.Item.{Item}
use Rattle.spec_control.specs.declared.entry.Item.TheVariants.{Event, Seen}
use Rattle.spec_control.specs.declared.letter.Letter.{Letter}
use Rattle.spec_control.specs.declared.letter.Word.{Word}
use Rattle.spec_control.specs.declared.letter.Word.TheVariants.{Own, Plug, TermReq, Term, TermAck, PipeBind, PipeTerm, PipeTermAck, Stop, Reap}
use Rattle.spec_control.specs.declared.request.Req.{Req}
use Rattle.spec_control.specs.declared.request.Req.TheVariants.{Socket as MakeSocket, AskTerm, Bind, Connect, Unbind, Disconnect, Close, Accepted, Shaken, AskEnd, AskOver, OutputOver}
use Rattle.spec_control.specs.declared.request.Reply.{Reply}
use Rattle.spec_control.specs.declared.request.Reply.TheVariants.{Done, Object, Pair, Both, Wait, Asked as WasAsked, Before, Refused}
use Rattle.spec_control.specs.declared.stage.Stage.TheVariants.{Finished}
use Rattle.spec_control.specs.declared.stage.Use.{Use}
use Rattle.spec_control.specs.declared.stage.Use.TheVariants.{Unused, OnItsWay, Used}
use Rattle.spec_control.specs.Stage.{has_ended, is_coming, is_unused}
use Rattle.spec_control.specs.Row.{Row, LinkEvent, OwnComes, PlugComes, IsTold, TermComes, AsksOver, RequestComes, ReapComes, AckComes, RootAsked, StopPut, StopComes, AsksForLink, AsksForLinger, is_socket, link_after, link_may, nobody}
use Rattle.spec_control.specs.Rows.{Rows, obj}
use Rattle.spec_control.specs.Control.{Control, next_pair}
use Rattle.spec_control.specs.Register.{fulfilled_by}
use Rattle.spec_control.specs.After.{after, answers_in, binding_by, without_front}
use Rattle.spec_control.specs.ControlRun.{Fits, IsControlRun, after_all, unless_refused}
use Rattle.control_laws.proofs.ListLemmas.{is_elsewhere, is_here, is_new, is_old, left, never, placed, pushed, written}
use Rattle.control_laws.specs.Kept.{Kept}
use Rattle.control_laws.specs.Move.{EndMoves, Leads, LetterPut, LinkMoves, MayMove, Move, ObjectEnds, ObjectMade, PairDrawn, is_named, move_boxes, move_rows}
use Rattle.control_laws.specs.OwnMoves.{connect_moves, fulfil_moves, having_taken, own_moves, request_moves, word_moves}
use Rattle.control_laws.proofs.EventGoLemmas.{event_goes}
use Rattle.control_laws.proofs.SoundLemmas.{ending_there, link_there}
use Rattle.control_laws.proofs.WeighLemmas.{taken_rows}
use Rattle.control_laws.proofs.BetweenLemmas.{asks_over, free_asks}
use Rattle.control_laws.proofs.HeldEventLemmas.{asked_closes, closes, word_closes}
use Rattle.control_laws.proofs.HeldRowLemmas.{event_keeps}
use Rattle.replay_laws.proofs.FrameLemmas.{closings, delimited_framed, processed_framed, requested_framed}
use Rattle.core_laws.proofs.ChainLemmas.{kept_then}

-- a socket asked to be reaped
abbrev pub was_closed : Row → Bool
was_closed o = is_socket o.kind && not (is_unused o.request)

-- an object is made so, which none is
abbrev made_closed : Move → Bool
made_closed (LinkMoves j event) = false
made_closed (EndMoves e event) = false
made_closed (ObjectEnds j) = false
made_closed (ObjectMade row) = was_closed row
made_closed (PairDrawn a b) = false
made_closed (LetterPut to word) = false

-- ---- over a move
coming_closed : (b : Bool) (u : Use) → b ≡ true → is_coming u ≡ true → (b && not (is_unused u)) ≡ true
coming_closed true OnItsWay h k = refl
coming_closed true Unused h k = absurd (never k)
coming_closed true Used h k = absurd (never k)
coming_closed false u h k = absurd (never h)

closed_link : (event : LinkEvent) (o : Row) → link_may event o ≡ true → was_closed (link_after event o) ≡ true → (was_closed o ≡ true) ⊎ ((k : ℕ) → asks_over k (LinkMoves k event) ≡ true)
closed_link OwnComes o may h = inl h
closed_link PlugComes o may h = inl h
closed_link IsTold o may h = inl h
closed_link TermComes o may h = inl h
closed_link AsksOver o may h = inr (λ k. eq-eqb k k refl)
closed_link RequestComes o may h = inl (coming_closed (is_socket o.kind) o.request (left (is_socket o.kind) _ h) (left (is_coming o.request) _ may))
closed_link ReapComes o may h = inl (coming_closed (is_socket o.kind) o.request (left (is_socket o.kind) _ h) (left (is_coming o.request) _ may))
closed_link AckComes o may h = inl h
closed_link RootAsked o may h = inl h
closed_link StopPut o may h = inl h
closed_link StopComes o may h = inl h
closed_link AsksForLink o may h = inl h
closed_link AsksForLinger o may h = inl h

closed_move : (m : Move) (s : Rows) → MayMove m s → made_closed m ≡ false → (i : ℕ) → was_closed (obj (move_rows m s) i) ≡ true → (was_closed (obj s i) ≡ true) ⊎ (asks_over i m ≡ true)
closed_move (LinkMoves j event) s may none i h =
    elim (written s.objects (link_after event (obj s j)) nobody j i (link_there s j event may)) [
      | is_here here same ↦ elim (closed_link event (obj s j) may (sym (ap was_closed same) ∙ h)) [
        | inl was ↦ inl (ap (λ (n : ℕ). was_closed (obj s n)) here ∙ was)
        | inr asks ↦ inr (subst (λ (n : ℕ). asks_over n (LinkMoves j event) ≡ true) (sym here) (asks j))
      ]
      | is_elsewhere same ↦ inl (sym (ap was_closed same) ∙ h)
    ]
closed_move (EndMoves e event) s may none i h = inl h
closed_move (ObjectEnds j) s may none i h =
    elim (written s.objects (record (obj s j) { stage = Finished }) nobody j i (ending_there s j may)) [
      | is_here here same ↦ inl (ap (λ (n : ℕ). was_closed (obj s n)) here ∙ (sym (ap was_closed same) ∙ h))
      | is_elsewhere same ↦ inl (sym (ap was_closed same) ∙ h)
    ]
closed_move (ObjectMade row) s may none i h =
    elim (pushed s.objects row nobody i) [
      | is_old e ↦ inl (sym (ap was_closed e) ∙ h)
      | is_new at e was ↦ absurd (never (sym none ∙ (sym (ap was_closed e) ∙ h)))
    ]
closed_move (PairDrawn a b) s may none i h = inl h
closed_move (LetterPut to word) s may none i h = inl h

-- ---- over moves
pub or_left : (a b : Bool) → a ≡ true → (a || b) ≡ true
or_left true b h = refl
or_left false b h = absurd (never h)

pub or_right : (a b : Bool) → b ≡ true → (a || b) ≡ true
or_right true b h = refl
or_right false b h = h

none_first : (a b : Bool) → (a || b) ≡ false → a ≡ false
none_first true b h = h
none_first false b h = refl

none_rest : (a b : Bool) → (a || b) ≡ false → b ≡ false
none_rest true b h = absurd (never (sym h))
none_rest false b h = h

closed_lead : (ms : List Move) (s : Rows) (boxes : ℕ → List Letter) (d : Control) → Leads ms s boxes d → list_any made_closed ms ≡ false → (i : ℕ) → was_closed (obj d.rows i) ≡ true → (was_closed (obj s i) ≡ true) ⊎ (list_any (asks_over i) ms ≡ true)
closed_lead [] s boxes d h none i k = inl (sym (ap (λ (r : Rows). was_closed (obj r i)) h.0) ∙ k)
closed_lead (m ∷ ms) s boxes d h none i k =
    elim (closed_lead ms (move_rows m s) (move_boxes m s boxes) d h.1 (none_rest (made_closed m) _ none) i k) [
      | inl x ↦ elim (closed_move m s h.0 (none_first (made_closed m) _ none) i x) [
        | inl y ↦ inl y
        | inr y ↦ inr (or_left (asks_over i m) _ y)
      ]
      | inr x ↦ inr (or_right (asks_over i m) _ x)
    ]

-- what only named moves do, the moves of its own tell
any_named : (f : Move → Bool) → ((m : Move) → is_named m ≡ false → f m ≡ false) → (ms : List Move) → list_any f (filter is_named ms) ≡ list_any f ms
any_named f free [] = refl
any_named f free (m ∷ ms) = by (is_named m) refl (any_named f free ms)
  where
    by : (x : Bool) → is_named m ≡ x → list_any f (filter is_named ms) ≡ list_any f ms → list_any f (cond x (m ∷ filter is_named ms) (filter is_named ms)) ≡ (f m || list_any f ms)
    by true e rest = ap (λ (b : Bool). f m || b) rest
    by false e rest = rest ∙ ap (λ (b : Bool). b || list_any f ms) (sym (free m e))

free_made : (m : Move) → is_named m ≡ false → made_closed m ≡ false
free_made (LinkMoves j event) h = refl
free_made (EndMoves e event) h = refl
free_made (ObjectEnds j) h = refl
free_made (ObjectMade row) h = absurd (never (sym h))
free_made (PairDrawn a b) h = refl
free_made (LetterPut to word) h = refl

-- ---- no event makes one
fulfil_made : (c : Control) (i k : ℕ) (ws : List Waiting) → list_any made_closed (fulfil_moves c i k ws) ≡ false
fulfil_made c i k [] = refl
fulfil_made c i k (w ∷ ws) = fulfil_made c i (k + 1) ws

connect_made : (c : Control) (i : ℕ) (held : Option Binding) → list_any made_closed (connect_moves c i held) ≡ false
connect_made c i None = refl
connect_made c i (Some binding) = refl

request_made : (c : Control) (req : Req) → list_any made_closed (request_moves c req) ≡ false
request_made c (MakeSocket kind options) = refl
request_made c AskTerm = refl
request_made c (Bind o (Inproc name)) = fulfil_made c o.0 (next_pair c) (fulfilled_by (Inproc name) (binding_by o.0 c) c.names)
request_made c (Bind o (Tcp address)) = refl
request_made c (Connect o (Inproc name)) = connect_made c o.0 (c.names.held (Inproc name))
request_made c (Connect o (Tcp address)) = refl
request_made c (Unbind o at) = refl
request_made c (Disconnect o at) = refl
request_made c (Close o) = refl
request_made c (Accepted o) = refl
request_made c (Shaken o peer) = refl
request_made c (AskEnd d Closed) = refl
request_made c (AskEnd d BadId) = refl
request_made c (AskEnd d Second) = refl
request_made c (AskEnd d Linger) = refl
request_made c (AskEnd d Link) = refl
request_made c (AskOver o) = refl
request_made c (OutputOver o) = refl

word_made : (at : ℕ) (word : Word) → list_any made_closed (word_moves at word) ≡ false
word_made at (Own child) = refl
word_made at (Plug None) = refl
word_made at (Plug (Some e)) = refl
word_made at (TermReq child) = refl
word_made at Term = refl
word_made at (TermAck child) = refl
word_made at (PipeBind e peer) = refl
word_made at (PipeTerm e) = refl
word_made at (PipeTermAck e) = refl
word_made at Stop = refl
word_made at (Reap socket) = refl

-- ---- those that are closed
abbrev IsAmong : Control → ℕ → Type 0
IsAmong c i = list_any (λ o. o.0 == i) c.closed ≡ true

among_more : (c d : Control) (i : ℕ) (os : List ObjId) → d.closed ≡ c.closed ++ os → IsAmong c i → IsAmong d i
among_more c d i os same h = ap (list_any (λ (o : ObjId). o.0 == i)) same ∙ list_any-append (λ (o : ObjId). o.0 == i) c.closed os ∙ or_left (list_any (λ (o : ObjId). o.0 == i) c.closed) (list_any (λ (o : ObjId). o.0 == i) os) h

among_last : (c d : Control) (i : ℕ) (o : ObjId) → d.closed ≡ c.closed ++ o ∷ [] → (o.0 == i) ≡ true → IsAmong d i
among_last c d i o same h =
    ap (list_any (λ (x : ObjId). x.0 == i)) same ∙ list_any-append (λ (x : ObjId). x.0 == i) c.closed (o ∷ []) ∙ or_right (list_any (λ (x : ObjId). x.0 == i) c.closed) _ (or_left (o.0 == i) false h)

abbrev AllAmong : Control → Type 0
AllAmong c = (i : ℕ) → was_closed (obj c.rows i) ≡ true → IsAmong c i

-- ---- over an event, and over items
module _ {N S : Type 0} where
  made_none : (c : Control) (did : Did N S) → list_any made_closed (own_moves c did) ≡ false
  made_none c (Asked req reply h) = by reply
    where
      by : (r : Reply) → list_any made_closed (unless_refused r (request_moves c req)) ≡ false
      by Done = request_made c req
      by (Object o) = request_made c req
      by (Pair p) = request_made c req
      by (Both o p) = request_made c req
      by Wait = request_made c req
      by WasAsked = request_made c req
      by Before = refl
      by (Refused refusal) = refl
  made_none c (Delivered slot letter h) = word_made letter.to.0 letter.word
  made_none c (Delimited e h) = refl

  -- who asked behind an event asked before it, or asks in it
  closed_event : (c : Control) (did : Did N S) → Kept c → Fits c did → (i : ℕ) → was_closed (obj (after did c).rows i) ≡ true → (was_closed (obj c.rows i) ≡ true) ⊎ (list_any (asks_over i) (own_moves c did) ≡ true)
  closed_event c did kept fits i k =
      let g = event_goes c did kept fits in
      elim (closed_lead g.moves (having_taken did c).rows (having_taken did c).boxes (after did c) g.leads (sym (any_named made_closed free_made g.moves) ∙ ap (list_any made_closed) g.own_are ∙ made_none c did) i k) [
        | inl x ↦ inl (sym (ap (λ (r : Rows). was_closed (obj r i)) (taken_rows did c)) ∙ x)
        | inr x ↦ inr (ap (list_any (asks_over i)) (sym g.own_are) ∙ any_named (asks_over i) (free_asks i) g.moves ∙ x)
      ]

  -- one that was stays
  among_stays : (c : Control) (did : Did N S) (i : ℕ) → IsAmong c i → IsAmong (after did c) i
  among_stays c (Asked req reply h) i is = by reply
    where
      of : IsAmong (after (Asked req Done h) c) i
      of = among_more c (after (Asked req Done h) c) i (closings req) (requested_framed req (answers_in h) c).closed is

      by : (r : Reply) → IsAmong (after (Asked req r h) c) i
      by Done = of
      by (Object o) = of
      by (Pair p) = of
      by (Both o p) = of
      by Wait = of
      by WasAsked = of
      by Before = is
      by (Refused refusal) = is
  among_stays c (Delivered slot letter h) i is = ap (list_any (λ (o : ObjId). o.0 == i)) (processed_framed (without_front slot.0 c) letter.to.0 letter.word (answers_in h)).closed ∙ is
  among_stays c (Delimited e h) i is = ap (list_any (λ (o : ObjId). o.0 == i)) (delimited_framed c e).closed ∙ is

  -- a socket that asks is closed
  asks_closed : (c : Control) (did : Did N S) → Kept c → Fits c did → (i : ℕ) → is_socket (obj (after did c).rows i).kind ≡ true → list_any (asks_over i) (own_moves c did) ≡ true → IsAmong (after did c) i
  asks_closed c (Asked req reply h) kept fits i socket any = by req reply any (asked_closes i c req reply any) fits socket
    where
      over : (o : ObjId) (r : Reply) → Fits c (Asked (AskOver o) r h) → (o.0 == i) ≡ true → is_socket (obj (after (Asked (AskOver o) r h) c).rows i).kind ≡ true → ⊥
      over o r f same is =
          let may = f.may.0 in
          let there = placed (λ (x : Row). has_ended x.stage) c.rows.objects nobody o.0 refl may.taken_in.lives in
          let at = eqb-true o.0 i same in
          never (sym may.no_socket ∙ sym (ap is_socket (event_keeps c (Asked (AskOver o) r h) kept f o.0 there).kind) ∙ ap (λ (n : ℕ). is_socket (obj (after (Asked (AskOver o) r h) c).rows n).kind) at ∙ is)

      closing : (o : ObjId) (r : Reply) → list_any (asks_over i) (unless_refused r (request_moves c (Close o))) ≡ true → (o.0 == i) ≡ true → IsAmong (after (Asked (Close o) r h) c) i
      closing o Done k same = among_last c (after (Asked (Close o) Done h) c) i o refl same
      closing o (Object x) k same = among_last c (after (Asked (Close o) (Object x) h) c) i o refl same
      closing o (Pair p) k same = among_last c (after (Asked (Close o) (Pair p) h) c) i o refl same
      closing o (Both x p) k same = among_last c (after (Asked (Close o) (Both x p) h) c) i o refl same
      closing o Wait k same = among_last c (after (Asked (Close o) Wait h) c) i o refl same
      closing o WasAsked k same = among_last c (after (Asked (Close o) WasAsked h) c) i o refl same
      closing o Before k same = absurd (never k)
      closing o (Refused refusal) k same = absurd (never k)

      by : (q : Req) (r : Reply) → list_any (asks_over i) (unless_refused r (request_moves c q)) ≡ true → closes i q ≡ true → Fits c (Asked q r h) → is_socket (obj (after (Asked q r h) c).rows i).kind ≡ true → IsAmong (after (Asked q r h) c) i
      by (Close o) r k same f is = closing o r k same
      by (AskOver o) r k same f is = absurd (over o r f same is)
      by (MakeSocket kind options) r k same f is = absurd (never same)
      by AskTerm r k same f is = absurd (never same)
      by (Bind o at) r k same f is = absurd (never same)
      by (Connect o at) r k same f is = absurd (never same)
      by (Unbind o at) r k same f is = absurd (never same)
      by (Disconnect o at) r k same f is = absurd (never same)
      by (Accepted o) r k same f is = absurd (never same)
      by (Shaken o peer) r k same f is = absurd (never same)
      by (AskEnd e reason) r k same f is = absurd (never same)
      by (OutputOver o) r k same f is = absurd (never same)
  asks_closed c (Delivered slot letter h) kept fits i socket any = absurd (never (sym (word_closes i letter.to.0 letter.word) ∙ any))
  asks_closed c (Delimited e h) kept fits i socket any = absurd (never any)

  among_next : (c : Control) (did : Did N S) → Kept c → Fits c did → AllAmong c → AllAmong (after did c)
  among_next c did kept fits all i is =
      elim (closed_event c did kept fits i is) [
        | inl was ↦ among_stays c did i (all i was)
        | inr asks ↦ asks_closed c did kept fits i (left (is_socket (obj (after did c).rows i).kind) _ is) asks
      ]

  pub among_over : (items : List (Item N S)) (c : Control) → Kept c → IsControlRun c items → AllAmong c → AllAmong (after_all items c)
  among_over [] c kept run all = all
  among_over (Event entry ∷ items) c kept run all = among_over items (after entry.did c) (kept_then (Event entry) c kept run.0) run.1 (among_next c entry.did kept run.0 all)
  among_over (Seen sight ∷ items) c kept run all = among_over items c kept run.1 all
