-- What a flag of an object's row is behind an event: it was set before, or a move that the event has of its own sets it.
use Rattle.std.specs.Prelude.{◌≡◌, ◌<◌, ◌≤◌, ◌==◌, ◌&&◌, ◌||◌, ◌+◌, ℕ, Bool, true, false, cond, List, [], ◌∷◌, Option, Some, None, filter, length, if◌then◌else◌, refl}
use Rattle.std.specs.List.{list_any}
use Rattle.std.proofs.Common.{arith, sym, ap, ◌∙◌, subst, length-set, length-append}
use Rattle.std.proofs.lemmas.Bool.{eq-eqb, eqb-true}
use Rattle.std.proofs.lemmas.List.{get_or-set_same, get_or-set_other}
use Rattle.zq_base.specs.declared.kind.Kind.{Kind}
use Rattle.zq_base.specs.declared.options.Options.{Options}
use Rattle.zq_base.specs.declared.endpoint.Endpoint.TheVariants.{Inproc, Tcp}
use Rattle.spec_control.specs.declared.book.Binding.{Binding}
use Rattle.spec_control.specs.declared.book.Waiting.{Waiting}
use Rattle.spec_control.specs.declared.end.Reason.{Reason}
use Rattle.spec_control.specs.declared.end.Reason.TheVariants.{Closed, BadId, Second, Linger, Link}
use Rattle.spec_control.specs.declared.entry.Did.{Did}
use Rattle.spec_control.specs.declared.entry.Did.TheVariants.{Asked, Delivered, Delimited}
use Rattle.spec_control.specs.declared.letter.Letter.{Letter}
use Rattle.spec_control.specs.declared.letter.Word.{Word}
use Rattle.spec_control.specs.declared.letter.Word.TheVariants.{Own, Plug, TermReq, Term, TermAck, PipeBind, PipeTerm, PipeTermAck, Stop, Reap}
use Rattle.spec_control.specs.declared.request.Req.{Req}
use Rattle.spec_control.specs.declared.request.Req.TheVariants.{Socket as MakeSocket, AskTerm, Bind, Connect, Unbind, Disconnect, Close, Accepted, Shaken, AskEnd, AskOver, OutputOver}
use Rattle.spec_control.specs.declared.request.Reply.TheVariants.{Done, Object, Pair, Both, Wait, Asked as WasAsked, Before, Refused}
use Rattle.spec_control.specs.declared.stage.Stage.TheVariants.{Finished}
use Rattle.spec_control.specs.Stage.{is_ending}
use Rattle.spec_control.specs.Register.{fulfilled_by}
use Rattle.spec_control.specs.Row.{Row, nobody, LinkEvent, OwnComes, PlugComes, TermComes, AsksOver, RequestComes, ReapComes, AckComes, RootAsked, StopComes, AsksForLink, AsksForLinger, link_may, link_after}
use Rattle.spec_control.specs.Rows.{Rows, obj, with_object}
use Rattle.spec_control.specs.Control.{Control, next_pair, owner_of}
use Rattle.spec_control.specs.After.{after, binding_by, socket_row, listener_row, session_row, accepted_row}
use Rattle.spec_control.specs.ControlRun.{Fits}
use Rattle.control_laws.proofs.ListLemmas.{never, left, is_old, is_new, pushed}
use Rattle.control_laws.specs.Kept.{Kept}
use Rattle.control_laws.specs.Move.{Move, LinkMoves, EndMoves, ObjectEnds, ObjectMade, PairDrawn, LetterPut, move_rows, move_boxes, is_named, is_named_link, MayMove, Leads}
use Rattle.control_laws.specs.OwnMoves.{connect_moves, fulfil_moves, having_taken, own_moves, request_moves, word_moves}
use Rattle.control_laws.proofs.EventGoLemmas.{event_goes}
use Rattle.control_laws.proofs.HeldRowLemmas.{any_named}
use Rattle.control_laws.proofs.SoundLemmas.{ending_there, link_there}
use Rattle.control_laws.proofs.WeighLemmas.{taken_rows}
use Rattle.control_laws.proofs.HeldEventLemmas.{no_and, or_false}
use Rattle.control_laws.proofs.RunLemmas.{is_granted}

turn : (x y b : Bool) → (y || (x || b)) ≡ ((x || y) || b)
turn true true b = refl
turn true false b = refl
turn false true b = refl
turn false false b = refl

-- the row of an object where one is written
row_at : (s : Rows) (j i : ℕ) (n : Row) → j < length s.objects → (b : Bool) → (j == i) ≡ b → obj (with_object j n s) i ≡ (if b then n else obj s i)
row_at s j i n there true e = subst (λ (k : ℕ). obj (with_object j n s) k ≡ n) (eqb-true j i e) (get_or-set_same s.objects j n nobody there)
row_at s j i n there false e = get_or-set_other s.objects j i n nobody (λ same. never (sym e ∙ eq-eqb j i (sym same)))

-- ---- which events of links an event has of its own, of object i
module _ (does : LinkEvent → Bool) where
  -- the move is one of these
  abbrev pub sets : ℕ → Move → Bool
  sets i (LinkMoves j event) = j == i && does event
  sets i (EndMoves e event) = false
  sets i (ObjectEnds j) = false
  sets i (ObjectMade row) = false
  sets i (PairDrawn a b) = false
  sets i (LetterPut to word) = false

  abbrev pub set_for : Reason → ℕ → ℕ → Bool
  set_for Closed j i = false
  set_for BadId j i = false
  set_for Second j i = false
  set_for Linger j i = j == i && does AsksForLinger
  set_for Link j i = j == i && does AsksForLink

  abbrev pub set_by_request : ℕ → Control → Req → Bool
  set_by_request i c (MakeSocket kind options) = false
  set_by_request i c AskTerm = 0 == i && does RootAsked
  set_by_request i c (Bind o at) = false
  set_by_request i c (Connect o at) = false
  set_by_request i c (Unbind o at) = false
  set_by_request i c (Disconnect o at) = false
  set_by_request i c (Close o) = o.0 == i && does AsksOver
  set_by_request i c (Accepted o) = false
  set_by_request i c (Shaken o peer) = false
  set_by_request i c (AskEnd e reason) = set_for reason (owner_of c e) i
  set_by_request i c (AskOver o) = o.0 == i && does AsksOver
  set_by_request i c (OutputOver o) = false

  abbrev pub set_by_word : ℕ → ℕ → Word → Bool
  set_by_word i at (Own child) = child.0 == i && does OwnComes
  set_by_word i at (Plug end) = at == i && does PlugComes
  set_by_word i at (TermReq child) = child.0 == i && does RequestComes
  set_by_word i at Term = at == i && does TermComes
  set_by_word i at (TermAck child) = child.0 == i && does AckComes
  set_by_word i at (PipeBind e peer) = false
  set_by_word i at (PipeTerm e) = false
  set_by_word i at (PipeTermAck e) = false
  set_by_word i at Stop = at == i && does StopComes
  set_by_word i at (Reap socket) = socket.0 == i && does ReapComes

  abbrev pub set_in : {N S : Type 0} → ℕ → Control → Did N S → Bool
  set_in i c (Asked req reply h) = is_granted reply && set_by_request i c req
  set_in i c (Delivered slot letter h) = set_by_word i letter.to.0 letter.word
  set_in i c (Delimited e h) = false

  fulfil_sets : (i : ℕ) (c : Control) (o k : ℕ) (ws : List Waiting) → list_any (sets i) (fulfil_moves c o k ws) ≡ false
  fulfil_sets i c o k [] = refl
  fulfil_sets i c o k (w ∷ ws) = fulfil_sets i c o (k + 1) ws

  connect_sets : (i : ℕ) (c : Control) (o : ℕ) (held : Option Binding) → list_any (sets i) (connect_moves c o held) ≡ false
  connect_sets i c o None = refl
  connect_sets i c o (Some binding) = refl

  request_sets : (i : ℕ) (c : Control) (req : Req) → list_any (sets i) (request_moves c req) ≡ set_by_request i c req
  request_sets i c (MakeSocket kind options) = refl
  request_sets i c AskTerm = or_false (0 == i && does RootAsked)
  request_sets i c (Bind o (Inproc name)) = fulfil_sets i c o.0 (next_pair c) (fulfilled_by (Inproc name) (binding_by o.0 c) c.names)
  request_sets i c (Bind o (Tcp address)) = refl
  request_sets i c (Connect o (Inproc name)) = connect_sets i c o.0 (c.names.held (Inproc name))
  request_sets i c (Connect o (Tcp address)) = refl
  request_sets i c (Unbind o at) = refl
  request_sets i c (Disconnect o at) = refl
  request_sets i c (Close o) = or_false (o.0 == i && does AsksOver)
  request_sets i c (Accepted o) = refl
  request_sets i c (Shaken o peer) = refl
  request_sets i c (AskEnd e Closed) = refl
  request_sets i c (AskEnd e BadId) = refl
  request_sets i c (AskEnd e Second) = refl
  request_sets i c (AskEnd e Linger) = or_false (owner_of c e == i && does AsksForLinger)
  request_sets i c (AskEnd e Link) = or_false (owner_of c e == i && does AsksForLink)
  request_sets i c (AskOver o) = or_false (o.0 == i && does AsksOver)
  request_sets i c (OutputOver o) = refl

  word_sets : (i at : ℕ) (word : Word) → list_any (sets i) (word_moves at word) ≡ set_by_word i at word
  word_sets i at (Own child) = or_false (child.0 == i && does OwnComes)
  word_sets i at (Plug None) = or_false (at == i && does PlugComes)
  word_sets i at (Plug (Some e)) = or_false (at == i && does PlugComes)
  word_sets i at (TermReq child) = or_false (child.0 == i && does RequestComes)
  word_sets i at Term = or_false (at == i && does TermComes)
  word_sets i at (TermAck child) = or_false (child.0 == i && does AckComes)
  word_sets i at (PipeBind e peer) = refl
  word_sets i at (PipeTerm e) = refl
  word_sets i at (PipeTermAck e) = refl
  word_sets i at Stop = or_false (at == i && does StopComes)
  word_sets i at (Reap socket) = or_false (socket.0 == i && does ReapComes)

  own_sets : {N S : Type 0} (i : ℕ) (c : Control) (did : Did N S) → list_any (sets i) (own_moves c did) ≡ set_in i c did
  own_sets i c (Asked req Done h) = request_sets i c req
  own_sets i c (Asked req (Object o) h) = request_sets i c req
  own_sets i c (Asked req (Pair p) h) = request_sets i c req
  own_sets i c (Asked req (Both o p) h) = request_sets i c req
  own_sets i c (Asked req Wait h) = request_sets i c req
  own_sets i c (Asked req WasAsked h) = request_sets i c req
  own_sets i c (Asked req Before h) = refl
  own_sets i c (Asked req (Refused refusal) h) = refl
  own_sets i c (Delivered slot letter h) = word_sets i letter.to.0 letter.word
  own_sets i c (Delimited e h) = refl

-- a flag of the rows that are watched, which these events of links set, and which no row has at its making
pub record IsFlag (watched flag : Row → Bool) (does : LinkEvent → Bool) : Type 0 where
  pub stays : (event : LinkEvent) (o : Row) → watched (link_after event o) ≡ watched o
  pub stays_ended : (o : Row) → watched (record o { stage = Finished }) ≡ watched o
  pub nobodys : watched nobody ≡ false
  pub links : (event : LinkEvent) (o : Row) → link_may event o ≡ true → flag (link_after event o) ≡ (does event || flag o)
  pub ends : (o : Row) → is_ending o.stage ≡ true → flag (record o { stage = Finished }) ≡ flag o
  pub named : (event : LinkEvent) → is_named_link event ≡ false → does event ≡ false
  pub sockets : (kind : Kind) (options : Options) (c : Control) → watched (socket_row kind options c) ≡ true → flag (socket_row kind options c) ≡ false
  pub listeners : (o : ℕ) (c : Control) → watched (listener_row o c) ≡ true → flag (listener_row o c) ≡ false
  pub sessions : (o : ℕ) (c : Control) → watched (session_row o c) ≡ true → flag (session_row o c) ≡ false
  pub accepted : (o : ℕ) (c : Control) → watched (accepted_row o c) ≡ true → flag (accepted_row o c) ≡ false

module _ (watched flag : Row → Bool) (does : LinkEvent → Bool) (is_flag : IsFlag watched flag does) where
  -- where an object is watched, its flag is this; it is not set of one that was not made
  pub record Flagged (s : Rows) (i : ℕ) (b : Bool) : Type 0 where
    pub is : watched (obj s i) ≡ true → flag (obj s i) ≡ b
    pub unmade : length s.objects ≤ i → b ≡ false

  abbrev MadeSo : Move → Type 0
  MadeSo (LinkMoves j event) = Unit {0}
  MadeSo (EndMoves e event) = Unit {0}
  MadeSo (ObjectEnds j) = Unit {0}
  MadeSo (ObjectMade row) = watched row ≡ true → flag row ≡ false
  MadeSo (PairDrawn a b) = Unit {0}
  MadeSo (LetterPut to word) = Unit {0}

  abbrev AllMadeSo : List Move → Type 0
  AllMadeSo [] = Unit {0}
  AllMadeSo (m ∷ ms) = MadeSo m × AllMadeSo ms

  written_flag : (s : Rows) (i j : ℕ) (n : Row) (b x : Bool) → j < length s.objects → watched n ≡ watched (obj s j) → flag n ≡ (x || flag (obj s j)) → Flagged s i b → Flagged (with_object j n s) i ((j == i && x) || b)
  written_flag s i j n b x there watch new was = by (j == i) refl
    where
      by : (y : Bool) → (j == i) ≡ y → Flagged (with_object j n s) i ((y && x) || b)
      by true e =
          let same = eqb-true j i e in
          let row = row_at s j i n there true e in
          record {
            is = λ w. ap flag row ∙ new ∙ ap (λ (y : Bool). x || y) (ap (λ (k : ℕ). flag (obj s k)) same ∙ was.is (ap (λ (k : ℕ). watched (obj s k)) (sym same) ∙ sym watch ∙ ap watched (sym row) ∙ w));
            unmade = λ past. (let many = length-set s.objects j n in absurd (omega (arith, many, past, there, same)));
          }
      by false e =
          let row = row_at s j i n there false e in
          record {
            is = λ w. ap flag row ∙ was.is (ap watched (sym row) ∙ w);
            unmade = λ past. (let many = length-set s.objects j n in was.unmade (omega (arith, many, past)));
          }

  move_flag : (m : Move) (s : Rows) (i : ℕ) (b : Bool) → MayMove m s → MadeSo m → Flagged s i b → Flagged (move_rows m s) i (sets does i m || b)
  move_flag (LinkMoves j event) s i b may_so made was =
      written_flag s i j (link_after event (obj s j)) b (does event) (link_there s j event may_so) (is_flag.stays event (obj s j)) (is_flag.links event (obj s j) may_so) was
  move_flag (EndMoves e event) s i b may_so made was = record { is = was.is; unmade = was.unmade }
  move_flag (ObjectEnds j) s i b may_so made was =
      subst (λ (x : Bool). Flagged (move_rows (ObjectEnds j) s) i (x || b)) (no_and (j == i))
      (written_flag s i j (record (obj s j) { stage = Finished }) b false (ending_there s j may_so) (is_flag.stays_ended (obj s j)) (is_flag.ends (obj s j) (left (is_ending (obj s j).stage) _ may_so)) was)
  move_flag (ObjectMade row) s i b may_so made was = record { is = by; unmade = λ past. (let many = length-append s.objects (row ∷ []) in was.unmade (omega (arith, many, past))) }
    where
      by : watched (obj (move_rows (ObjectMade row) s) i) ≡ true → flag (obj (move_rows (ObjectMade row) s) i) ≡ b
      by w =
          elim (pushed s.objects row nobody i) [
            | is_old e ↦ ap flag e ∙ was.is (ap watched (sym e) ∙ w)
            | is_new at e gone ↦ ap flag e ∙ made (ap watched (sym e) ∙ w) ∙ sym (was.unmade (omega (arith, at)))
          ]
  move_flag (PairDrawn a b') s i b may_so made was = record { is = was.is; unmade = was.unmade }
  move_flag (LetterPut to word) s i b may_so made was = record { is = was.is; unmade = was.unmade }

  lead_flag : (ms : List Move) (s : Rows) (boxes : ℕ → List Letter) (d : Control) (i : ℕ) (b : Bool) → Leads ms s boxes d → AllMadeSo ms → Flagged s i b → Flagged d.rows i (list_any (sets does i) ms || b)
  lead_flag [] s boxes d i b h made was = subst (λ (r : Rows). Flagged r i b) (sym h.0) was
  lead_flag (m ∷ ms) s boxes d i b h made was =
      subst (λ (x : Bool). Flagged d.rows i x) (turn (sets does i m) (list_any (sets does i) ms) b)
      (lead_flag ms (move_rows m s) (move_boxes m s boxes) d i (sets does i m || b) h.1 made.1 (move_flag m s i b h.0 made.0 was))

  -- the moves that an event has of its own tell it
  unnamed_made : (m : Move) → is_named m ≡ false → MadeSo m
  unnamed_made (LinkMoves j event) h = tt
  unnamed_made (EndMoves e event) h = tt
  unnamed_made (ObjectEnds j) h = tt
  unnamed_made (ObjectMade row) h = absurd (never (sym h))
  unnamed_made (PairDrawn a b) h = tt
  unnamed_made (LetterPut to word) h = tt

  all_made : (ms : List Move) → AllMadeSo (filter is_named ms) → AllMadeSo ms
  all_made [] own = tt
  all_made (m ∷ ms) own = by (is_named m) refl (all_made ms) own
    where
      by : (b : Bool) → is_named m ≡ b → (AllMadeSo (filter is_named ms) → AllMadeSo ms) → AllMadeSo (cond b (m ∷ filter is_named ms) (filter is_named ms)) → AllMadeSo (m ∷ ms)
      by true e rest is = (is.0, rest is.1)
      by false e rest is = (unnamed_made m e, rest is)

  unnamed_sets : (i : ℕ) (m : Move) → is_named m ≡ false → sets does i m ≡ false
  unnamed_sets i (LinkMoves j event) h = ap (λ (x : Bool). j == i && x) (is_flag.named event h) ∙ no_and (j == i)
  unnamed_sets i (EndMoves e event) h = refl
  unnamed_sets i (ObjectEnds j) h = refl
  unnamed_sets i (ObjectMade row) h = refl
  unnamed_sets i (PairDrawn a b) h = refl
  unnamed_sets i (LetterPut to word) h = refl

  fulfil_made : (c : Control) (o k : ℕ) (ws : List Waiting) → AllMadeSo (fulfil_moves c o k ws)
  fulfil_made c o k [] = tt
  fulfil_made c o k (w ∷ ws) = (tt, (tt, (tt, fulfil_made c o (k + 1) ws)))

  connect_made : (c : Control) (o : ℕ) (held : Option Binding) → AllMadeSo (connect_moves c o held)
  connect_made c o None = tt
  connect_made c o (Some binding) = (tt, (tt, (tt, tt)))

  request_made : (c : Control) (req : Req) → AllMadeSo (request_moves c req)
  request_made c (MakeSocket kind options) = (is_flag.sockets kind options c, tt)
  request_made c AskTerm = (tt, tt)
  request_made c (Bind o (Inproc name)) = fulfil_made c o.0 (next_pair c) (fulfilled_by (Inproc name) (binding_by o.0 c) c.names)
  request_made c (Bind o (Tcp address)) = (is_flag.listeners o.0 c, (tt, (tt, tt)))
  request_made c (Connect o (Inproc name)) = connect_made c o.0 (c.names.held (Inproc name))
  request_made c (Connect o (Tcp address)) = (is_flag.sessions o.0 c, (tt, (tt, (tt, (tt, tt)))))
  request_made c (Unbind o at) = tt
  request_made c (Disconnect o at) = tt
  request_made c (Close o) = (tt, tt)
  request_made c (Accepted o) = (is_flag.accepted o.0 c, (tt, (tt, tt)))
  request_made c (Shaken o peer) = (tt, (tt, tt))
  request_made c (AskEnd e Closed) = tt
  request_made c (AskEnd e BadId) = tt
  request_made c (AskEnd e Second) = tt
  request_made c (AskEnd e Linger) = (tt, tt)
  request_made c (AskEnd e Link) = (tt, tt)
  request_made c (AskOver o) = (tt, tt)
  request_made c (OutputOver o) = tt

  word_made : (at : ℕ) (word : Word) → AllMadeSo (word_moves at word)
  word_made at (Own child) = (tt, tt)
  word_made at (Plug None) = (tt, tt)
  word_made at (Plug (Some e)) = (tt, (tt, tt))
  word_made at (TermReq child) = (tt, tt)
  word_made at Term = (tt, tt)
  word_made at (TermAck child) = (tt, tt)
  word_made at (PipeBind e peer) = (tt, tt)
  word_made at (PipeTerm e) = (tt, tt)
  word_made at (PipeTermAck e) = (tt, tt)
  word_made at Stop = (tt, tt)
  word_made at (Reap socket) = (tt, tt)

  own_made : {N S : Type 0} (c : Control) (did : Did N S) → AllMadeSo (own_moves c did)
  own_made c (Asked req Done h) = request_made c req
  own_made c (Asked req (Object o) h) = request_made c req
  own_made c (Asked req (Pair p) h) = request_made c req
  own_made c (Asked req (Both o p) h) = request_made c req
  own_made c (Asked req Wait h) = request_made c req
  own_made c (Asked req WasAsked h) = request_made c req
  own_made c (Asked req Before h) = tt
  own_made c (Asked req (Refused refusal) h) = tt
  own_made c (Delivered slot letter h) = word_made letter.to.0 letter.word
  own_made c (Delimited e h) = (tt, tt)

  pub event_flag : {N S : Type 0} (c : Control) (did : Did N S) → Kept c → Fits c did → (i : ℕ) (b : Bool) → Flagged c.rows i b → Flagged (after did c).rows i (set_in does i c did || b)
  event_flag c did kept fits i b was =
      let g = event_goes c did kept fits in
      subst (λ (x : Bool). Flagged (after did c).rows i (x || b)) (sym (any_named (sets does i) (unnamed_sets i) g.moves) ∙ ap (list_any (sets does i)) g.own_are ∙ own_sets does i c did)
      (lead_flag g.moves (having_taken did c).rows (having_taken did c).boxes (after did c) i b g.leads
      (all_made g.moves (subst AllMadeSo (sym g.own_are) (own_made c did)))
      (subst (λ (r : Rows). Flagged r i b) (sym (taken_rows did c)) was))
