-- What is so of an object whose Plug is on its way: it is no socket, and no end of it was attached.
use Rattle.std.specs.Prelude.{not, ◌≡◌, ◌≢◌, ◌<◌, ◌+◌, ◌==◌, ℕ, zero, suc, Bool, true, false, cond, if◌then◌else◌, List, [], ◌∷◌, ◌++◌, Option, Some, None, All, length, filter, refl}
use Rattle.std.proofs.Common.{arith, sym, ap, ◌∙◌, subst, length-set, length-append}
use Rattle.std.proofs.lemmas.List.{get_or_push}
use Rattle.std.proofs.lemmas.List.Elements.{All-nil, All-cons, All-head, All-tail, All-append, All-weaker}
use Rattle.zq_base.specs.declared.endpoint.Endpoint.{Endpoint}
use Rattle.zq_base.specs.declared.endpoint.Endpoint.TheVariants.{Inproc, Tcp}
use Rattle.zq_base.specs.declared.ids.EndId.{EndId}
use Rattle.spec_control.specs.declared.book.Binding.{Binding}
use Rattle.spec_control.specs.declared.book.Waiting.{Waiting}
use Rattle.spec_control.specs.declared.end.EndCommands.{EndCommands}
use Rattle.spec_control.specs.declared.end.EndCommands.TheVariants.{Nothing, TermAndSeal, Ack, Settle, SettleAndAck}
use Rattle.spec_control.specs.declared.end.Reason.TheVariants.{Closed, BadId, Second, Linger, Link}
use Rattle.spec_control.specs.declared.entry.Did.{Did}
use Rattle.spec_control.specs.declared.entry.Did.TheVariants.{Asked as DidAsk, Delivered, Delimited}
use Rattle.spec_control.specs.declared.letter.Letter.{Letter}
use Rattle.spec_control.specs.declared.letter.Word.{Word}
use Rattle.spec_control.specs.declared.letter.Word.TheVariants.{Own, Plug, TermReq, Term, TermAck, PipeBind, PipeTerm, PipeTermAck, Stop, Reap}
use Rattle.spec_control.specs.declared.object.ObjKind.{ObjKind}
use Rattle.spec_control.specs.declared.object.ObjKind.TheVariants.{Root, Socket as IsSocket, Listener, Session}
use Rattle.spec_control.specs.declared.request.Req.{Req}
use Rattle.spec_control.specs.declared.request.Req.TheVariants.{Socket as MakeSocket, AskTerm, Bind, Connect, Unbind, Disconnect, Close, Accepted, Shaken, AskEnd, AskOver, OutputOver}
use Rattle.spec_control.specs.declared.request.Reply.TheVariants.{Done, Object, Pair, Both, Wait, Asked as WasAsked, Before, Refused}
use Rattle.spec_control.specs.declared.stage.Stage.TheVariants.{Finished}
use Rattle.spec_control.specs.EndpointBook.{is_fulfilled}
use Rattle.spec_control.specs.Register.{fulfilled_by}
use Rattle.spec_control.specs.Place.{Place, Unmade}
use Rattle.spec_control.specs.PairPhase.{PairEvent, Opens, BindCame, Happens, behind_first}
use Rattle.spec_control.specs.Row.{Row, nobody, LinkEvent, OwnComes, PlugComes, IsTold, TermComes, AsksOver, RequestComes, ReapComes, AckComes, RootAsked, StopPut, StopComes, AsksForLink, AsksForLinger, link_after, is_listener, is_socket, is_session, owner_fits}
use Rattle.spec_control.specs.Rows.{PairRow, Rows, obj, pair, with_object, end_place}
use Rattle.spec_control.specs.Control.{Control, commands_in, end_of, id, next_object, next_pair, owner_of, with_value}
use Rattle.spec_control.specs.After.{after, binding_by, owner_or_root, pair_or_none, listener_row, session_row}
use Rattle.spec_control.specs.ControlRun.{Fits, MayAsk}
use Rattle.control_laws.specs.Kept.{Kept, IsUnasked}
use Rattle.control_laws.specs.Move.{Move, LinkMoves, EndMoves, ObjectEnds, ObjectMade, PairDrawn, LetterPut, move_rows, move_boxes, move_letters, link_letters, end_letters, pair_letters, ack_letters, one_letter, put_all, is_named, MayMove, Leads}
use Rattle.control_laws.specs.OwnMoves.{own_moves, request_moves, word_moves, fulfil_moves, connect_moves, having_taken}
use Rattle.control_laws.proofs.ListLemmas.{never, placed, is_here, is_elsewhere, written, is_old, is_new, pushed}
use Rattle.control_laws.proofs.LinkLemmas.{at_owner}
use Rattle.control_laws.proofs.StepLemmas.{inv_of, same_kind}
use Rattle.control_laws.proofs.EndLemmas.{kept_but}
use Rattle.control_laws.proofs.TellLemmas.{rows_of}
use Rattle.control_laws.proofs.TermLemmas.{all_filter}
use Rattle.control_laws.proofs.EventGoLemmas.{event_goes}
use Rattle.control_laws.proofs.SoundLemmas.{ending_there, link_there}
use Rattle.control_laws.proofs.WeighLemmas.{taken_rows}
use Rattle.control_laws.proofs.GrownLemmas.{SameShapes, ShapeOf, grown, same_grown, ungrown}

-- ---- who is there keeps its kind, and its Plug once that came
pub record Keeps (s t : Rows) (j : ℕ) : Type 0 where
  pub there : j < length t.objects
  pub kind : (obj t j).kind ≡ (obj s j).kind
  pub plugged : (obj s j).plugged ≡ true → (obj t j).plugged ≡ true

link_plugged : (event : LinkEvent) (o : Row) → o.plugged ≡ true → (link_after event o).plugged ≡ true
link_plugged OwnComes o h = h
link_plugged PlugComes o h = refl
link_plugged IsTold o h = h
link_plugged TermComes o h = h
link_plugged AsksOver o h = h
link_plugged RequestComes o h = h
link_plugged ReapComes o h = h
link_plugged AckComes o h = h
link_plugged RootAsked o h = h
link_plugged StopPut o h = h
link_plugged StopComes o h = h
link_plugged AsksForLink o h = h
link_plugged AsksForLinger o h = h

written_keeps : (s : Rows) (i : ℕ) (n : Row) (j : ℕ) → i < length s.objects → n.kind ≡ (obj s i).kind → ((obj s i).plugged ≡ true → n.plugged ≡ true) → j < length s.objects → Keeps s (with_object i n s) j
written_keeps s i n j within kind plugged there =
    elim (written s.objects n nobody i j within) [
      | is_here here same ↦ record {
        there = as_long;
        kind = ap (λ (o : Row). o.kind) same ∙ kind ∙ ap (λ (k : ℕ). (obj s k).kind) (sym here);
        plugged = λ h. ap (λ (o : Row). o.plugged) same ∙ plugged (ap (λ (k : ℕ). (obj s k).plugged) (sym here) ∙ h);
      }
      | is_elsewhere same ↦ record { there = as_long; kind = ap (λ (o : Row). o.kind) same; plugged = λ h. ap (λ (o : Row). o.plugged) same ∙ h }
    ]
  where
    as_long : j < length (with_object i n s).objects
    as_long = let same = length-set s.objects i n in omega (arith, same, there)

move_keeps : (m : Move) (s : Rows) (j : ℕ) → MayMove m s → j < length s.objects → Keeps s (move_rows m s) j
move_keeps (LinkMoves i event) s j may there = written_keeps s i (link_after event (obj s i)) j (link_there s i event may) (same_kind event (obj s i)) (link_plugged event (obj s i)) there
move_keeps (EndMoves e event) s j may there = record { there = there; kind = refl; plugged = λ h. h }
move_keeps (ObjectEnds i) s j may there = written_keeps s i (record (obj s i) { stage = Finished }) j (ending_there s i may) refl (λ h. h) there
move_keeps (ObjectMade row) s j may there =
    elim (pushed s.objects row nobody j) [
      | is_old same ↦ record {
        there = let more = length-append s.objects (row ∷ []) in omega (arith, more, there);
        kind = ap (λ (o : Row). o.kind) same;
        plugged = λ h. ap (λ (o : Row). o.plugged) same ∙ h;
      }
      | is_new at now was ↦ absurd (omega (arith, at, there))
    ]
move_keeps (PairDrawn a b) s j may there = record { there = there; kind = refl; plugged = λ h. h }
move_keeps (LetterPut to word) s j may there = record { there = there; kind = refl; plugged = λ h. h }

leads_keep : (ms : List Move) (s : Rows) (boxes : ℕ → List Letter) (d : Control) (j : ℕ) → Leads ms s boxes d → j < length s.objects → Keeps s d.rows j
leads_keep [] s boxes d j h there = subst (λ (r : Rows). Keeps s r j) (sym h.0) (record { there = there; kind = refl; plugged = λ h. h })
leads_keep (m ∷ ms) s boxes d j h there =
    let now = move_keeps m s j h.0 there in
    let later = leads_keep ms (move_rows m s) (move_boxes m s boxes) d j h.1 now.there in
    record { there = later.there; kind = later.kind ∙ now.kind; plugged = λ was. later.plugged (now.plugged was) }

pub event_keeps : {N S : Type 0} (c : Control) (did : Did N S) → Kept c → Fits c did → (j : ℕ) → j < length c.rows.objects → Keeps c.rows (after did c).rows j
event_keeps c did kept fits j there =
    let g = event_goes c did kept fits in
    subst (λ (r : Rows). Keeps r (after did c).rows j) (taken_rows did c)
    (leads_keep g.moves (having_taken did c).rows (having_taken did c).boxes (after did c) j g.leads (subst (λ (r : Rows). j < length r.objects) (sym (taken_rows did c)) there))

-- ---- each socket had its Plug, each PipeBind is for a socket, and each Plug for a listener, or with an end for a session
abbrev pub IsForSocket : Rows → ℕ → Word → Type 0
IsForSocket s to (Own child) = Unit {0}
IsForSocket s to (Plug None) = is_listener (obj s to).kind ≡ true
IsForSocket s to (Plug (Some e)) = is_session (obj s to).kind ≡ true
IsForSocket s to (TermReq child) = Unit {0}
IsForSocket s to Term = Unit {0}
IsForSocket s to (TermAck child) = Unit {0}
IsForSocket s to (PipeBind e peer) = is_socket (obj s to).kind ≡ true
IsForSocket s to (PipeTerm e) = Unit {0}
IsForSocket s to (PipeTermAck e) = Unit {0}
IsForSocket s to Stop = Unit {0}
IsForSocket s to (Reap socket) = Unit {0}

abbrev pub AreForSockets : Rows → List Letter → Type 0
AreForSockets s ls = All (λ l. IsForSocket s l.to.0 l.word) ls

pub record SocketsServe (s : Rows) (boxes : ℕ → List Letter) : Type 0 where
  pub plugged : (i : ℕ) → is_socket (obj s i).kind ≡ true → (obj s i).plugged ≡ true
  pub binds : (m : ℕ) → AreForSockets s (boxes m)

-- who is there is of the same kind
abbrev StayKinds : Rows → Rows → Type 0
StayKinds r s = (test : ObjKind → Bool) → test Root ≡ false → (i : ℕ) → test (obj r i).kind ≡ true → test (obj s i).kind ≡ true

later_for : (r s : Rows) → StayKinds r s → (to : ℕ) (word : Word) → IsForSocket r to word → IsForSocket s to word
later_for r s more to (Own child) is = tt
later_for r s more to (Plug None) is = more is_listener refl to is
later_for r s more to (Plug (Some e)) is = more is_session refl to is
later_for r s more to (TermReq child) is = tt
later_for r s more to Term is = tt
later_for r s more to (TermAck child) is = tt
later_for r s more to (PipeBind e peer) is = more is_socket refl to is
later_for r s more to (PipeTerm e) is = tt
later_for r s more to (PipeTermAck e) is = tt
later_for r s more to Stop is = tt
later_for r s more to (Reap socket) is = tt

all_later : (r s : Rows) → StayKinds r s → (ls : List Letter) → AreForSockets r ls → AreForSockets s ls
all_later r s more ls all = All-weaker (λ l. IsForSocket r l.to.0 l.word) (λ l. IsForSocket s l.to.0 l.word) (λ l is. later_for r s more l.to.0 l.word is) ls all

pub none_for : (s : Rows) → AreForSockets s []
none_for s = All-nil (λ l. IsForSocket s l.to.0 l.word)

one_for : (s : Rows) (to : ℕ) (word : Word) → IsForSocket s to word → AreForSockets s (one_letter to word)
one_for s to word is = All-cons (λ l. IsForSocket s l.to.0 l.word) (record { to = id to; word = word }) [] is (none_for s)

link_for : (s : Rows) (event : LinkEvent) (i : ℕ) (o : Row) → AreForSockets s (link_letters event i o)
link_for s OwnComes i o = none_for s
link_for s PlugComes i o = none_for s
link_for s IsTold i o = one_for s i Term tt
link_for s TermComes i o = none_for s
link_for s AsksOver i o = by (is_socket o.kind)
  where
    by : (b : Bool) → AreForSockets s (one_letter (owner_or_root o.owner) (cond b (Reap (id i)) (TermReq (id i))))
    by true = one_for s (owner_or_root o.owner) (Reap (id i)) tt
    by false = one_for s (owner_or_root o.owner) (TermReq (id i)) tt
link_for s RequestComes i o = none_for s
link_for s ReapComes i o = one_for s i Term tt
link_for s AckComes i o = none_for s
link_for s RootAsked i o = none_for s
link_for s StopPut i o = one_for s i Stop tt
link_for s StopComes i o = none_for s
link_for s AsksForLink i o = none_for s
link_for s AsksForLinger i o = none_for s

commands_for : (s : Rows) (commands : EndCommands) (owner : ℕ) (e : EndId) → AreForSockets s (end_letters commands owner e)
commands_for s Nothing owner e = none_for s
commands_for s TermAndSeal owner e = one_for s owner (PipeTerm _) tt
commands_for s Ack owner e = one_for s owner (PipeTermAck _) tt
commands_for s Settle owner e = none_for s
commands_for s SettleAndAck owner e = one_for s owner (PipeTermAck _) tt

pair_for : (s : Rows) (event : PairEvent) (place : Place) (owner : ℕ) (e : EndId) → AreForSockets s (pair_letters event place owner e)
pair_for s Opens place owner e = none_for s
pair_for s BindCame place owner e = none_for s
pair_for s (Happens event) place owner e = commands_for s (commands_in event place) owner e

ack_for : (s : Rows) (owner : Option ℕ) (i : ℕ) → AreForSockets s (ack_letters owner i)
ack_for s None i = none_for s
ack_for s (Some owner) i = one_for s owner (TermAck (id i)) tt

-- a socket that a move makes needs no Plug, and a command that it puts is for the kind that it is to be for
abbrev MakesSo : Rows → Move → Type 0
MakesSo r (LinkMoves i event) = Unit {0}
MakesSo r (EndMoves e event) = Unit {0}
MakesSo r (ObjectEnds i) = Unit {0}
MakesSo r (ObjectMade row) = is_socket row.kind ≡ true → row.plugged ≡ true
MakesSo r (PairDrawn a b) = Unit {0}
MakesSo r (LetterPut to word) = IsForSocket r to word

abbrev AllMakeSo : Rows → List Move → Type 0
AllMakeSo r [] = Unit {0}
AllMakeSo r (m ∷ ms) = MakesSo r m × AllMakeSo (grown m r) ms

letters_for : (r s t : Rows) → StayKinds r t → (m : Move) → MakesSo r m → AreForSockets t (move_letters m s)
letters_for r s t more (LinkMoves i event) is = link_for t event i (obj s i)
letters_for r s t more (EndMoves e event) is = pair_for t event (end_place (pair s e.pair.0) e.a) _ e
letters_for r s t more (ObjectEnds i) is = ack_for t (obj s i).owner i
letters_for r s t more (ObjectMade row) is = none_for t
letters_for r s t more (PairDrawn a b) is = none_for t
letters_for r s t more (LetterPut to word) is = one_for t to word (later_for r t more to word is)

put_for : (t s : Rows) (ls : List Letter) (boxes : ℕ → List Letter) → AreForSockets t ls → ((m : ℕ) → AreForSockets t (boxes m)) → (m : ℕ) → AreForSockets t (put_all s ls boxes m)
put_for t s [] boxes all so m = so m
put_for t s (l ∷ ls) boxes all so m =
    put_for t s ls (with_value (obj s l.to.0).slot (boxes (obj s l.to.0).slot ++ l ∷ []) boxes) (All-tail (λ x. IsForSocket t x.to.0 x.word) l ls all) now m
  where
    now : (n : ℕ) → AreForSockets t (with_value (obj s l.to.0).slot (boxes (obj s l.to.0).slot ++ l ∷ []) boxes n)
    now n = by (n == (obj s l.to.0).slot)
      where
        by : (b : Bool) → AreForSockets t (if b then boxes (obj s l.to.0).slot ++ l ∷ [] else boxes n)
        by true =
            All-append (λ x. IsForSocket t x.to.0 x.word) (boxes (obj s l.to.0).slot) (l ∷ []) (so (obj s l.to.0).slot)
            (All-cons (λ x. IsForSocket t x.to.0 x.word) l [] (All-head (λ x. IsForSocket t x.to.0 x.word) l ls all) (none_for t))
        by false = so n

stay_kinds : (m : Move) (s : Rows) → MayMove m s → StayKinds s (move_rows m s)
stay_kinds m s may test none i is =
    ap test (move_keeps m s i may (placed (λ (o : Row). not (test o.kind)) s.objects nobody i (ap not none) (ap not is))).kind ∙ is

rows_serve : (r : Rows) (m : Move) (s : Rows) → MayMove m s → MakesSo r m → ((i : ℕ) → is_socket (obj s i).kind ≡ true → (obj s i).plugged ≡ true) → (i : ℕ) → is_socket (obj (move_rows m s) i).kind ≡ true → (obj (move_rows m s) i).plugged ≡ true
rows_serve r (LinkMoves j event) s may is all i socket =
    elim (written s.objects (link_after event (obj s j)) nobody j i (link_there s j event may)) [
      | is_here here same ↦
          ap (λ (o : Row). o.plugged) same
          ∙ link_plugged event (obj s j) (all j (sym (ap is_socket (same_kind event (obj s j))) ∙ sym (ap (λ (o : Row). is_socket o.kind) same) ∙ socket))
      | is_elsewhere same ↦ ap (λ (o : Row). o.plugged) same ∙ all i (sym (ap (λ (o : Row). is_socket o.kind) same) ∙ socket)
    ]
rows_serve r (EndMoves e event) s may is all i socket = all i socket
rows_serve r (ObjectEnds j) s may is all i socket =
    elim (written s.objects (record (obj s j) { stage = Finished }) nobody j i (ending_there s j may)) [
      | is_here here same ↦ ap (λ (o : Row). o.plugged) same ∙ all j (sym (ap (λ (o : Row). is_socket o.kind) same) ∙ socket)
      | is_elsewhere same ↦ ap (λ (o : Row). o.plugged) same ∙ all i (sym (ap (λ (o : Row). is_socket o.kind) same) ∙ socket)
    ]
rows_serve r (ObjectMade row) s may is all i socket =
    elim (pushed s.objects row nobody i) [
      | is_old same ↦ ap (λ (o : Row). o.plugged) same ∙ all i (sym (ap (λ (o : Row). is_socket o.kind) same) ∙ socket)
      | is_new at now was ↦ ap (λ (o : Row). o.plugged) now ∙ is (sym (ap (λ (o : Row). is_socket o.kind) now) ∙ socket)
    ]
rows_serve r (PairDrawn a b) s may is all i socket = all i socket
rows_serve r (LetterPut to word) s may is all i socket = all i socket

leads_serve : (r : Rows) (ms : List Move) (s : Rows) (boxes : ℕ → List Letter) (d : Control) → Leads ms s boxes d → SameShapes r s → AllMakeSo r ms → SocketsServe s boxes → SocketsServe d.rows d.boxes
leads_serve r [] s boxes d h same make serve =
    subst (λ (t : Rows). SocketsServe t d.boxes) (sym h.0) (subst (λ (b : ℕ → List Letter). SocketsServe s b) (sym h.1) serve)
leads_serve r (m ∷ ms) s boxes d h same make serve =
    let stay = stay_kinds m s h.0 in
    let now : StayKinds r (move_rows m s) = λ test none i is. stay test none i (ap (λ (o : ShapeOf). test o.0) (same.shapes i) ∙ is) in
    leads_serve (grown m r) ms (move_rows m s) (move_boxes m s boxes) d h.1 (same_grown m r s h.0 same) make.1 (record {
      plugged = rows_serve r m s h.0 make.0 serve.plugged;
      binds = put_for (move_rows m s) (move_rows m s) (move_letters m s) boxes (letters_for r s (move_rows m s) now m make.0) (λ k. all_later s (move_rows m s) stay (boxes k) (serve.binds k));
    })

-- the moves that an event has of its own tell it
unnamed_make : (r : Rows) (m : Move) → is_named m ≡ false → MakesSo r m
unnamed_make r (LinkMoves i event) h = tt
unnamed_make r (EndMoves e event) h = tt
unnamed_make r (ObjectEnds i) h = tt
unnamed_make r (ObjectMade row) h = absurd (never (sym h))
unnamed_make r (PairDrawn a b) h = tt
unnamed_make r (LetterPut to word) h = absurd (never (sym h))

all_make : (r : Rows) (ms : List Move) → AllMakeSo r (filter is_named ms) → AllMakeSo r ms
all_make r [] own = tt
all_make r (m ∷ ms) own = by (is_named m) refl (λ (q : Rows). all_make q ms) own
  where
    by : (b : Bool) → is_named m ≡ b → ((q : Rows) → AllMakeSo q (filter is_named ms) → AllMakeSo q ms) → AllMakeSo r (cond b (m ∷ filter is_named ms) (filter is_named ms)) → AllMakeSo r (m ∷ ms)
    by true e rest is = (is.0, rest (grown m r) is.1)
    by false e rest is = (unnamed_make r m e, subst (λ (q : Rows). AllMakeSo q ms) (ungrown r m e) (rest r is))

-- ---- of an event
-- who owns an accepted session is a socket
above_zero : (kind : ObjKind) (w : ℕ) → owner_fits kind (Some w) ≡ true → is_session kind ≡ true → w ≢ 0
above_zero Root w fits is zero_is = never is
above_zero (IsSocket kind) w fits is zero_is = never is
above_zero Listener w fits is zero_is = never is
above_zero Session zero fits is zero_is = never fits
above_zero Session (suc n) fits is zero_is = absurd (omega (arith, zero_is))

fulfil_make : (c : Control) (i k : ℕ) (ws : List Waiting) (ps : List PairRow) → All (λ w. IsUnasked c.rows w.waiter.0) ws → AllMakeSo (record { objects = c.rows.objects; pairs = ps }) (fulfil_moves c i k ws)
fulfil_make c i k [] ps all = tt
fulfil_make c i k (w ∷ ws) ps all =
    (tt, (tt, ((All-head (λ x. IsUnasked c.rows x.waiter.0) w ws all).socket, fulfil_make c i (k + 1) ws (ps ++ record { a_owner = w.waiter.0; b_owner = i; a = Unmade; b = Unmade } ∷ []) (All-tail (λ x. IsUnasked c.rows x.waiter.0) w ws all))))

module _ (c : Control) (kept : Kept c) where
  connect_make : (i : ℕ) (at : Endpoint) (held : Option Binding) → c.names.held at ≡ held → AllMakeSo c.rows (connect_moves c i held)
  connect_make i at None is = tt
  connect_make i at (Some binding) is = (tt, (tt, ((kept.names.holders at binding is).socket, tt)))

  shaken_make : (o : ℕ) → is_session (obj c.rows o).kind ≡ true → (obj c.rows o).accepted ≡ true → is_socket (obj c.rows (owner_of c (end_of (pair_or_none (obj c.rows o).pair) false))).kind ≡ true
  shaken_make o session accepted =
      let its = kept.pairs o accepted in
      let row = at_owner (obj c.rows o) ((inv_of (rows_of (kept_but 0 c kept))).fits o) in
      kept.shape.owners o _ its.1 (above_zero (obj c.rows o).kind _ (ap (owner_fits (obj c.rows o).kind) (sym its.1) ∙ row) session)

  request_make : (req : Req) → MayAsk c req → AllMakeSo c.rows (request_moves c req)
  request_make (MakeSocket kind options) may = ((λ h. refl), tt)
  request_make AskTerm may = (tt, tt)
  request_make (Bind o (Inproc name)) may =
      fulfil_make c o.0 (next_pair c) (fulfilled_by (Inproc name) (binding_by o.0 c) c.names) c.rows.pairs
      (all_filter (λ (w : Waiting). IsUnasked c.rows w.waiter.0) (λ (w : Waiting). IsUnasked c.rows w.waiter.0) (is_fulfilled (Inproc name) (binding_by o.0 c)) (λ w is test. is) c.names.waiting kept.names.waiters)
  request_make (Bind o (Tcp address)) may =
      ((λ h. absurd (never h)), (tt, (ap (λ (r : Row). is_listener r.kind) (get_or_push c.rows.objects (listener_row o.0 c) nobody (next_object c) refl), tt)))
  request_make (Connect o (Inproc name)) may = connect_make o.0 (Inproc name) (c.names.held (Inproc name)) refl
  request_make (Connect o (Tcp address)) may =
      ((λ h. absurd (never h)), (tt, (tt, (tt, (ap (λ (r : Row). is_session r.kind) (get_or_push c.rows.objects (session_row o.0 c) nobody (next_object c) refl), tt)))))
  request_make (Unbind o at) may = tt
  request_make (Disconnect o at) may = tt
  request_make (Close o) may = (tt, tt)
  request_make (Accepted o) may = ((λ h. absurd (never h)), (tt, (tt, tt)))
  request_make (Shaken o peer) may = (tt, (shaken_make o.0 may.session may.accepted, tt))
  request_make (AskEnd e Closed) may = tt
  request_make (AskEnd e BadId) may = tt
  request_make (AskEnd e Second) may = tt
  request_make (AskEnd e Linger) may = (tt, tt)
  request_make (AskEnd e Link) may = (tt, tt)
  request_make (AskOver o) may = (tt, tt)
  request_make (OutputOver o) may = tt

  word_make : (at : ℕ) (word : Word) → AllMakeSo c.rows (word_moves at word)
  word_make at (Own child) = (tt, tt)
  word_make at (Plug None) = (tt, tt)
  word_make at (Plug (Some e)) = (tt, (tt, tt))
  word_make at (TermReq child) = (tt, tt)
  word_make at Term = (tt, tt)
  word_make at (TermAck child) = (tt, tt)
  word_make at (PipeBind e peer) = (tt, tt)
  word_make at (PipeTerm e) = (tt, tt)
  word_make at (PipeTermAck e) = (tt, tt)
  word_make at Stop = (tt, tt)
  word_make at (Reap socket) = (tt, tt)

  own_make : {N S : Type 0} (did : Did N S) → Fits c did → AllMakeSo c.rows (own_moves c did)
  own_make (DidAsk req Done h) fits = request_make req fits.may.0
  own_make (DidAsk req (Object o) h) fits = request_make req fits.may.0
  own_make (DidAsk req (Pair p) h) fits = request_make req fits.may.0
  own_make (DidAsk req (Both o p) h) fits = request_make req fits.may.0
  own_make (DidAsk req Wait h) fits = request_make req fits.may.0
  own_make (DidAsk req WasAsked h) fits = request_make req fits.may.0
  own_make (DidAsk req Before h) fits = tt
  own_make (DidAsk req (Refused refusal) h) fits = tt
  own_make (Delivered slot letter h) fits = word_make letter.to.0 letter.word
  own_make (Delimited e h) fits = (tt, tt)

-- a command that was taken is the first of its mailbox
taken_for : {N S : Type 0} (c : Control) (did : Did N S) → SocketsServe c.rows c.boxes → SocketsServe (having_taken did c).rows (having_taken did c).boxes
taken_for c (DidAsk req reply h) serve = serve
taken_for c (Delivered slot letter h) serve = record { plugged = serve.plugged; binds = λ m. by m (m == slot.0) refl }
  where
    behind : (ls : List Letter) → AreForSockets c.rows ls → AreForSockets c.rows (behind_first ls)
    behind [] all = none_for c.rows
    behind (l ∷ ls) all = All-tail (λ x. IsForSocket c.rows x.to.0 x.word) l ls all

    by : (m : ℕ) (b : Bool) → (m == slot.0) ≡ b → AreForSockets c.rows (if b then behind_first (c.boxes slot.0) else c.boxes m)
    by m true e = behind (c.boxes slot.0) (serve.binds slot.0)
    by m false e = serve.binds m
taken_for c (Delimited e h) serve = serve

pub serve_after : {N S : Type 0} (c : Control) (did : Did N S) → Kept c → Fits c did → SocketsServe c.rows c.boxes → SocketsServe (after did c).rows (after did c).boxes
serve_after c did kept fits serve =
    let g = event_goes c did kept fits in
    leads_serve c.rows g.moves (having_taken did c).rows (having_taken did c).boxes (after did c) g.leads (subst (λ (r : Rows). SameShapes c.rows r) (sym (taken_rows did c)) (record { objects = refl; shapes = λ i. refl; pairs = refl }))
    (all_make c.rows g.moves (subst (AllMakeSo c.rows) (sym g.own_are) (own_make c kept did fits))) (taken_for c did serve)
