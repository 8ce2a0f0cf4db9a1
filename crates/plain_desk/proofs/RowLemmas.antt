-- What becomes so of the rows of objects in an event: a closed socket is taken over at its Reap alone.
use Rattle.std.specs.Prelude.{◌≡◌, ◌==◌, ◌&&◌, ◌||◌, ◌+◌, ◌⊎◌, ◌∷◌, [], ℕ, Bool, true, false, cond, not, List, Option, Some, None, filter, refl}
use Rattle.std.specs.List.{list_any}
use Rattle.std.proofs.Common.{sym, ap, ◌∙◌, subst, inl, inr}
use Rattle.std.proofs.lemmas.Bool.{eq-eqb}
use Rattle.zq_base.specs.declared.endpoint.Endpoint.TheVariants.{Inproc, Tcp}
use Rattle.zq_base.specs.declared.kind.Kind.{Kind}
use Rattle.zq_base.specs.declared.options.Options.{Options}
use Rattle.spec_control.specs.declared.book.Binding.{Binding}
use Rattle.spec_control.specs.declared.book.Waiting.{Waiting}
use Rattle.spec_control.specs.declared.end.Reason.TheVariants.{Closed, BadId, Second, Linger, Link}
use Rattle.spec_control.specs.declared.entry.Did.{Did}
use Rattle.spec_control.specs.declared.entry.Did.TheVariants.{Asked, Delivered, Delimited}
use Rattle.spec_control.specs.declared.letter.Letter.{Letter}
use Rattle.spec_control.specs.declared.letter.Word.{Word}
use Rattle.spec_control.specs.declared.letter.Word.TheVariants.{Own, Plug, TermReq, Term, TermAck, PipeBind, PipeTerm, PipeTermAck, Stop, Reap}
use Rattle.spec_control.specs.declared.request.Req.{Req}
use Rattle.spec_control.specs.declared.request.Req.TheVariants.{Socket as MakeSocket, AskTerm, Bind, Connect, Unbind, Disconnect, Close, Accepted, Shaken, AskEnd, AskOver, OutputOver}
use Rattle.spec_control.specs.declared.request.Reply.{Reply}
use Rattle.spec_control.specs.declared.request.Reply.TheVariants.{Done, Object, Pair, Both, Wait, Asked as WasAsked, Before, Refused}
use Rattle.spec_control.specs.declared.stage.Stage.TheVariants.{Finished}
use Rattle.spec_control.specs.Register.{fulfilled_by}
use Rattle.spec_control.specs.Stage.{is_alive, is_coming, is_unused, is_used}
use Rattle.spec_control.specs.Row.{Row, nobody, LinkEvent, OwnComes, PlugComes, IsTold, TermComes, AsksOver, RequestComes, ReapComes, AckComes, RootAsked, StopPut, StopComes, AsksForLink, AsksForLinger, link_may, link_after, is_socket, is_unowned, owner_fits, root_fits, socket_fits, stage_fits}
use Rattle.spec_control.specs.Rows.{Rows, obj}
use Rattle.spec_control.specs.Control.{Control, next_pair}
use Rattle.spec_control.specs.After.{after, binding_by, socket_row}
use Rattle.spec_control.specs.ControlRun.{Fits, unless_refused}
use Rattle.control_laws.proofs.ListLemmas.{left, never, is_here, is_elsewhere, written, is_old, is_new, pushed, right}
use Rattle.control_laws.proofs.EndLemmas.{kept_but}
use Rattle.control_laws.proofs.StepLemmas.{inv_of}
use Rattle.control_laws.proofs.TellLemmas.{rows_of}
use Rattle.control_laws.specs.Kept.{Kept}
use Rattle.control_laws.specs.Move.{Move, LinkMoves, EndMoves, ObjectEnds, ObjectMade, PairDrawn, LetterPut, move_rows, move_boxes, is_named, MayMove, Leads}
use Rattle.control_laws.specs.OwnMoves.{own_moves, word_moves, request_moves, fulfil_moves, connect_moves, having_taken}
use Rattle.control_laws.proofs.EventGoLemmas.{event_goes}
use Rattle.control_laws.proofs.SoundLemmas.{link_there, ending_there}
use Rattle.control_laws.proofs.WeighLemmas.{taken_rows}
use Rattle.control_laws.proofs.BetweenLemmas.{reap_comes}
use Rattle.plain_desk.specs.Reaping.{is_taken}

none_first : (a b : Bool) → (a || b) ≡ false → a ≡ false
none_first true b h = h
none_first false b h = refl

none_rest : (a b : Bool) → (a || b) ≡ false → b ≡ false
none_rest true b h = absurd (never (sym h))
none_rest false b h = h

any_first : (a b : Bool) → a ≡ true → (a || b) ≡ true
any_first true b h = refl
any_first false b h = absurd (never h)

any_rest : (a b : Bool) → b ≡ true → (a || b) ≡ true
any_rest true b h = refl
any_rest false b h = h

and_true : (b : Bool) → (b && true) ≡ b
and_true true = refl
and_true false = refl

and_false : (b : Bool) → (b && false) ≡ false
and_false true = refl
and_false false = refl

alone : (b : Bool) → b ≡ false → (b || false) ≡ false
alone true h = h
alone false h = refl

-- of those that have a request or a command of their own
named_any : (test : Move → Bool) (ms : List Move) → list_any (λ m. test m && is_named m) ms ≡ list_any test (filter is_named ms)
named_any test [] = refl
named_any test (m ∷ ms) = by (is_named m) (named_any test ms)
  where
    by : (b : Bool) → list_any (λ m. test m && is_named m) ms ≡ list_any test (filter is_named ms) → ((test m && b) || list_any (λ m. test m && is_named m) ms) ≡ list_any test (cond b (m ∷ filter is_named ms) (filter is_named ms))
    by true rest = ap (λ (x : Bool). x || list_any (λ m. test m && is_named m) ms) (and_true (test m)) ∙ ap (λ (x : Bool). test m || x) rest
    by false rest = ap (λ (x : Bool). x || list_any (λ m. test m && is_named m) ms) (and_false (test m)) ∙ rest

-- ---- what sockets are not made as, and become in these moves alone
module _ (f : Row → Bool) (touches : ℕ → Move → Bool) (linked : (event : LinkEvent) (o : Row) → link_may event o ≡ true → f (link_after event o) ≡ true → (f o ≡ true) ⊎ ((k : ℕ) → (touches k (LinkMoves k event) && is_named (LinkMoves k event)) ≡ true))
    (finished : (o : Row) → f (record o { stage = Finished }) ≡ f o) (sockets : (kind : Kind) (options : Options) (c : Control) → f (socket_row kind options c) ≡ false) (others : (o : Row) → is_socket o.kind ≡ false → f o ≡ false) where
  abbrev makes : Move → Bool
  makes (LinkMoves j event) = false
  makes (EndMoves e event) = false
  makes (ObjectEnds j) = false
  makes (ObjectMade row) = f row
  makes (PairDrawn a b) = false
  makes (LetterPut to word) = false

  move_back : (m : Move) (s : Rows) (i : ℕ) → MayMove m s → (makes m && is_named m) ≡ false → f (obj (move_rows m s) i) ≡ true → (f (obj s i) ≡ true) ⊎ ((touches i m && is_named m) ≡ true)
  move_back (LinkMoves j event) s i may none h =
      elim (written s.objects (link_after event (obj s j)) nobody j i (link_there s j event may)) [
        | is_here here same ↦ elim (linked event (obj s j) may (sym (ap f same) ∙ h)) [
          | inl was ↦ inl (ap (λ (n : ℕ). f (obj s n)) here ∙ was)
          | inr reaps ↦ inr (subst (λ (n : ℕ). (touches n (LinkMoves j event) && is_named (LinkMoves j event)) ≡ true) (sym here) (reaps j))
        ]
        | is_elsewhere same ↦ inl (sym (ap f same) ∙ h)
      ]
  move_back (EndMoves e event) s i may none h = inl h
  move_back (ObjectEnds j) s i may none h =
      elim (written s.objects (record (obj s j) { stage = Finished }) nobody j i (ending_there s j may)) [
        | is_here here same ↦ inl (ap (λ (n : ℕ). f (obj s n)) here ∙ sym (finished (obj s j)) ∙ sym (ap f same) ∙ h)
        | is_elsewhere same ↦ inl (sym (ap f same) ∙ h)
      ]
  move_back (ObjectMade row) s i may none h =
      elim (pushed s.objects row nobody i) [
        | is_old e ↦ inl (sym (ap f e) ∙ h)
        | is_new at e was ↦ absurd (never (sym (sym (and_true (f row)) ∙ none) ∙ sym (ap f e) ∙ h))
      ]
  move_back (PairDrawn a b) s i may none h = inl h
  move_back (LetterPut to word) s i may none h = inl h

  leads_back : (ms : List Move) (s : Rows) (boxes : ℕ → List Letter) (d : Control) (i : ℕ) → Leads ms s boxes d → list_any (λ m. makes m && is_named m) ms ≡ false → f (obj d.rows i) ≡ true → (f (obj s i) ≡ true) ⊎ (list_any (λ m. touches i m && is_named m) ms ≡ true)
  leads_back [] s boxes d i h none is = inl (sym (ap (λ (r : Rows). f (obj r i)) h.0) ∙ is)
  leads_back (m ∷ ms) s boxes d i h none is =
      elim (leads_back ms (move_rows m s) (move_boxes m s boxes) d i h.1 (none_rest (makes m && is_named m) _ none) is) [
        | inl later ↦ elim (move_back m s i h.0 (none_first (makes m && is_named m) _ none) later) [
          | inl was ↦ inl was
          | inr reaps ↦ inr (any_first (touches i m && is_named m) _ reaps)
        ]
        | inr reaps ↦ inr (any_rest (touches i m && is_named m) _ reaps)
      ]

  fulfil_makes : (c : Control) (i k : ℕ) (ws : List Waiting) → list_any makes (fulfil_moves c i k ws) ≡ false
  fulfil_makes c i k [] = refl
  fulfil_makes c i k (w ∷ ws) = fulfil_makes c i (k + 1) ws

  connect_makes : (c : Control) (i : ℕ) (held : Option Binding) → list_any makes (connect_moves c i held) ≡ false
  connect_makes c i None = refl
  connect_makes c i (Some binding) = refl

  request_makes : (c : Control) (req : Req) → list_any makes (request_moves c req) ≡ false
  request_makes c (MakeSocket kind options) = alone (f (socket_row kind options c)) (sockets kind options c)
  request_makes c AskTerm = refl
  request_makes c (Bind o (Inproc name)) = fulfil_makes c o.0 (next_pair c) (fulfilled_by (Inproc name) (binding_by o.0 c) c.names)
  request_makes c (Bind o (Tcp address)) = alone (f _) (others _ refl)
  request_makes c (Connect o (Inproc name)) = connect_makes c o.0 (c.names.held (Inproc name))
  request_makes c (Connect o (Tcp address)) = alone (f _) (others _ refl)
  request_makes c (Unbind o at) = refl
  request_makes c (Disconnect o at) = refl
  request_makes c (Close o) = refl
  request_makes c (Accepted o) = alone (f _) (others _ refl)
  request_makes c (Shaken o peer) = refl
  request_makes c (AskEnd d Closed) = refl
  request_makes c (AskEnd d BadId) = refl
  request_makes c (AskEnd d Second) = refl
  request_makes c (AskEnd d Linger) = refl
  request_makes c (AskEnd d Link) = refl
  request_makes c (AskOver o) = refl
  request_makes c (OutputOver o) = refl

  asked_makes : (c : Control) (req : Req) (reply : Reply) → list_any makes (unless_refused reply (request_moves c req)) ≡ false
  asked_makes c req Done = request_makes c req
  asked_makes c req (Object o) = request_makes c req
  asked_makes c req (Pair p) = request_makes c req
  asked_makes c req (Both o p) = request_makes c req
  asked_makes c req Wait = request_makes c req
  asked_makes c req WasAsked = request_makes c req
  asked_makes c req Before = refl
  asked_makes c req (Refused refusal) = refl

  word_makes : (at : ℕ) (word : Word) → list_any makes (word_moves at word) ≡ false
  word_makes at (Own child) = refl
  word_makes at (Plug None) = refl
  word_makes at (Plug (Some e)) = refl
  word_makes at (TermReq child) = refl
  word_makes at Term = refl
  word_makes at (TermAck child) = refl
  word_makes at (PipeBind e peer) = refl
  word_makes at (PipeTerm e) = refl
  word_makes at (PipeTermAck e) = refl
  word_makes at Stop = refl
  word_makes at (Reap socket) = refl

  module _ {N S : Type 0} where
    own_makes : (c : Control) (did : Did N S) → list_any makes (own_moves c did) ≡ false
    own_makes c (Asked req reply h) = asked_makes c req reply
    own_makes c (Delivered slot letter h) = word_makes letter.to.0 letter.word
    own_makes c (Delimited e h) = refl

    pub event_back : (c : Control) (did : Did N S) → Kept c → Fits c did → (i : ℕ) → f (obj (after did c).rows i) ≡ true → (f (obj c.rows i) ≡ true) ⊎ (list_any (touches i) (own_moves c did) ≡ true)
    event_back c did kept fits i is =
        let g = event_goes c did kept fits in
        let none = named_any makes g.moves ∙ ap (list_any makes) g.own_are ∙ own_makes c did in
        elim (leads_back g.moves (having_taken did c).rows (having_taken did c).boxes (after did c) i g.leads none is) [
          | inl was ↦ inl (sym (ap (λ (r : Rows). f (obj r i)) (taken_rows did c)) ∙ was)
          | inr reaps ↦ inr (sym (named_any (touches i) g.moves ∙ ap (list_any (touches i)) g.own_are) ∙ reaps)
        ]

-- ---- a closed socket that was taken over
both : (a b : Bool) → a ≡ true → b ≡ true → (a && b) ≡ true
both true b h k = k
both false b h k = absurd (never h)

no_socket : (a b : Bool) → a ≡ false → (a && b) ≡ true → ⊥
no_socket true b out h = never (sym out)
no_socket false b out h = never h

is_not : (a : Bool) → not a ≡ true → a ≡ false
is_not true h = absurd (never h)
is_not false h = refl

taken_linked : (event : LinkEvent) (o : Row) → link_may event o ≡ true → is_taken (link_after event o) ≡ true → (is_taken o ≡ true) ⊎ ((k : ℕ) → (reap_comes k (LinkMoves k event) && is_named (LinkMoves k event)) ≡ true)
taken_linked OwnComes o may h = inl h
taken_linked PlugComes o may h = inl h
taken_linked IsTold o may h = inl h
taken_linked TermComes o may h = inl h
taken_linked AsksOver o may h = absurd (never (sym (and_false (is_socket o.kind)) ∙ h))
taken_linked RequestComes o may h = absurd (no_socket (is_socket o.kind) true (is_not (is_socket o.kind) (right o.noted _ (right (is_coming o.request) _ may))) h)
taken_linked ReapComes o may h = inr (λ k. both (k == k) true (eq-eqb k k refl) refl)
taken_linked AckComes o may h = inl h
taken_linked RootAsked o may h = inl h
taken_linked StopPut o may h = inl h
taken_linked StopComes o may h = inl h
taken_linked AsksForLink o may h = inl h
taken_linked AsksForLinger o may h = inl h

taken_others : (o : Row) → is_socket o.kind ≡ false → is_taken o ≡ false
taken_others o out = ap (λ (b : Bool). b && is_used o.request) out

pub taken_back : {N S : Type 0} (c : Control) (did : Did N S) → Kept c → Fits c did → (i : ℕ) → is_taken (obj (after did c).rows i) ≡ true → (is_taken (obj c.rows i) ≡ true) ⊎ (list_any (reap_comes i) (own_moves c did) ≡ true)
taken_back c did kept fits i is = event_back is_taken reap_comes taken_linked (λ o. refl) (λ kind options c. refl) taken_others c did kept fits i is

-- ---- the root's Plug is not on its way
pub root_plugged : (c : Control) → Kept c → (obj c.rows 0).plugged ≡ true
root_plugged c kept =
    let o = obj c.rows 0 in
    let row = (inv_of (rows_of (kept_but 0 c kept))).fits 0 in
    let part = right (owner_fits o.kind o.owner) _ (right (socket_fits (is_socket o.kind) (is_alive o.stage) (is_used o.request) (is_unused o.stop)) _ (right (stage_fits o.stage o.noted o.plugged o.request o.stop) _ row)) in
    let known = subst (λ (b : Bool). root_fits b (o.noted && (o.plugged && is_used o.request)) ≡ true) (ap is_unowned kept.shape.root) part in
    left o.plugged _ (right o.noted _ known)
