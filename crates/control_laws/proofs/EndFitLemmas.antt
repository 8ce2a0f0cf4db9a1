-- A session has one end: which it is, its row says.
use Rattle.std.specs.Prelude.{◌≡◌, ◌<◌, ◌+◌, ℕ, zero, suc, Bool, true, false, cond, List, [], ◌∷◌, ◌++◌, Option, Some, None, All, length, filter, refl}
use Rattle.std.proofs.Common.{arith, sym, ap, ◌∙◌, subst, inl, inr}
use Rattle.std.proofs.lemmas.Bool.{cases_eq}
use Rattle.std.proofs.lemmas.List.{get_or_push}
use Rattle.std.proofs.lemmas.List.Elements.{All-head, All-tail}
use Rattle.std.proofs.Math.ListN.{get_or-append}
use Rattle.zq_base.specs.declared.endpoint.Endpoint.{Endpoint}
use Rattle.zq_base.specs.declared.endpoint.Endpoint.TheVariants.{Inproc, Tcp}
use Rattle.spec_control.specs.declared.book.Binding.{Binding}
use Rattle.spec_control.specs.declared.book.Waiting.{Waiting}
use Rattle.spec_control.specs.declared.end.Reason.TheVariants.{Closed, BadId, Second, Linger, Link}
use Rattle.spec_control.specs.declared.entry.Did.{Did}
use Rattle.spec_control.specs.declared.entry.Did.TheVariants.{Asked as DidAsk, Delivered, Delimited}
use Rattle.spec_control.specs.declared.letter.Letter.{Letter}
use Rattle.spec_control.specs.declared.letter.Word.{Word}
use Rattle.spec_control.specs.declared.letter.Word.TheVariants.{Own, Plug, TermReq, Term, TermAck, PipeBind, PipeTerm, PipeTermAck, Stop, Reap}
use Rattle.spec_control.specs.declared.object.ObjKind.{ObjKind}
use Rattle.spec_control.specs.declared.object.ObjKind.TheVariants.{Root, Socket as IsSocket, Listener, Session}
use Rattle.spec_control.specs.declared.request.Req.{Req}
use Rattle.spec_control.specs.declared.request.Req.TheVariants.{Socket as MakeSocket, AskTerm, Bind, Connect, Unbind, Disconnect, Close, Accepted, Shaken, AskEnd, AskOver, OutputOver}
use Rattle.spec_control.specs.declared.request.Reply.TheVariants.{Done, Object, Pair, Both, Wait, Asked as WasAsked, Before, Refused}
use Rattle.spec_control.specs.declared.stage.Stage.TheVariants.{Finished}
use Rattle.spec_control.specs.EndpointBook.{is_fulfilled}
use Rattle.spec_control.specs.Register.{fulfilled_by}
use Rattle.spec_control.specs.Place.{Unmade}
use Rattle.spec_control.specs.Row.{Row, nobody, link_after, is_socket, is_session, owner_fits}
use Rattle.spec_control.specs.Rows.{PairRow, Rows, end_owner, no_pair, obj, pair}
use Rattle.spec_control.specs.Control.{Control, begun, next_object, next_pair}
use Rattle.spec_control.specs.After.{accepted_row, after, binding_by, owner_or_root, session_row}
use Rattle.spec_control.specs.ControlRun.{Fits, IsControlRun, MayAsk, after_all}
use Rattle.control_laws.specs.Kept.{Kept, IsUnasked}
use Rattle.control_laws.specs.Move.{Move, LinkMoves, EndMoves, ObjectEnds, ObjectMade, PairDrawn, LetterPut, move_rows, move_boxes, is_named, MayMove, Leads}
use Rattle.control_laws.specs.OwnMoves.{own_moves, request_moves, word_moves, fulfil_moves, connect_moves, having_taken}
use Rattle.control_laws.proofs.ListLemmas.{never, is_old, is_new, pushed}
use Rattle.control_laws.proofs.LinkLemmas.{at_owner}
use Rattle.control_laws.proofs.StepLemmas.{inv_of, some_object}
use Rattle.control_laws.proofs.EndLemmas.{kept_but}
use Rattle.control_laws.proofs.TellLemmas.{rows_of}
use Rattle.control_laws.proofs.TermLemmas.{all_filter}
use Rattle.control_laws.proofs.EventGoLemmas.{event_goes}
use Rattle.control_laws.proofs.SoundLemmas.{Sound, ending_there, link_there, socket_there, sound_move, sound_of}
use Rattle.control_laws.proofs.RootLemmas.{begun_kept}
use Rattle.control_laws.proofs.RunLemmas.{after_kept}
use Rattle.control_laws.proofs.WeighLemmas.{taken_rows}
use Rattle.spec_control.specs.declared.entry.Item.{Item}
use Rattle.spec_control.specs.declared.entry.Item.TheVariants.{Event, Seen}
use Rattle.control_laws.proofs.GrownLemmas.{SameShapes, ShapeOf, grown, same_grown, shape, same_shape, ungrown, written_owner, written_shape}

-- where it is a session, its end is this one
abbrev pub IsEndOf : ℕ → Bool → ShapeOf → Type 0
IsEndOf k a o = is_session o.0 ≡ true → (o.1.0 ≡ Some k) × (o.1.1 ≡ a)

-- each end is its owner's
abbrev pub EndsFit : Rows → Type 0
EndsFit s = (k : ℕ) (a : Bool) → IsEndOf k a (shape (obj s (end_owner (pair s k) a)))

-- a pair that is drawn is its owners'
abbrev DrawsSo : Rows → Move → Type 0
DrawsSo r (LinkMoves i event) = Unit {0}
DrawsSo r (EndMoves e event) = Unit {0}
DrawsSo r (ObjectEnds i) = Unit {0}
DrawsSo r (ObjectMade row) = Unit {0}
DrawsSo r (PairDrawn a b) = IsEndOf (length r.pairs) true (shape (obj r a)) × IsEndOf (length r.pairs) false (shape (obj r b))
DrawsSo r (LetterPut to word) = Unit {0}

abbrev AllDrawSo : Rows → List Move → Type 0
AllDrawSo r [] = Unit {0}
AllDrawSo r (m ∷ ms) = DrawsSo r m × AllDrawSo (grown m r) ms

move_fits : (m : Move) (r s : Rows) → Sound s → MayMove m s → SameShapes r s → DrawsSo r m → EndsFit s → EndsFit (move_rows m s)
move_fits (LinkMoves j event) r s sound may_so same draws fits k a =
    subst (IsEndOf k a) (sym (written_shape s j (link_after event (obj s j)) (link_there s j event may_so) (same_shape event (obj s j)) (end_owner (pair s k) a))) (fits k a)
move_fits (EndMoves e event) r s sound may_so same draws fits k a =
    subst (λ (i : ℕ). IsEndOf k a (shape (obj s i))) (sym (written_owner s e event may_so.comes k a)) (fits k a)
move_fits (ObjectEnds j) r s sound may_so same draws fits k a =
    subst (IsEndOf k a) (sym (written_shape s j (record (obj s j) { stage = Finished }) (ending_there s j may_so) refl (end_owner (pair s k) a))) (fits k a)
move_fits (ObjectMade row) r s sound may_so same draws fits k a =
    elim (pushed s.objects row nobody (end_owner (pair s k) a)) [
      | is_old e ↦ subst (IsEndOf k a) (sym (ap shape e)) (fits k a)
      | is_new at e was ↦ absurd (let there = sound.ends k a in omega (arith, at, there))
    ]
move_fits (PairDrawn x y) r s sound may_so same draws fits k a =
    elim (pushed s.pairs (record { a_owner = x; b_owner = y; a = Unmade; b = Unmade }) no_pair k) [
      | is_old e ↦ subst (λ (p : PairRow). IsEndOf k a (shape (obj s (end_owner p a)))) (sym e) (fits k a)
      | is_new at e was ↦ subst (λ (p : PairRow). IsEndOf k a (shape (obj s (end_owner p a)))) (sym e) (subst (λ (n : ℕ). IsEndOf n a (shape (obj s (end_owner (record { a_owner = x; b_owner = y; a = Unmade; b = Unmade }) a)))) (sym same.pairs ∙ sym at) (new a))
    ]
  where
    new : (a : Bool) → IsEndOf (length r.pairs) a (shape (obj s (end_owner (record { a_owner = x; b_owner = y; a = Unmade; b = Unmade }) a)))
    new true = subst (IsEndOf (length r.pairs) true) (sym (same.shapes x)) draws.0
    new false = subst (IsEndOf (length r.pairs) false) (sym (same.shapes y)) draws.1
move_fits (LetterPut to word) r s sound may_so same draws fits k a = fits k a

leads_fit : (ms : List Move) (r s : Rows) (boxes : ℕ → List Letter) (d : Control) → Sound s → Leads ms s boxes d → SameShapes r s → AllDrawSo r ms → EndsFit s → EndsFit d.rows
leads_fit [] r s boxes d sound h same draws fits = subst EndsFit (sym h.0) fits
leads_fit (m ∷ ms) r s boxes d sound h same draws fits =
    leads_fit ms (grown m r) (move_rows m s) (move_boxes m s boxes) d (sound_move m s sound h.0) h.1 (same_grown m r s h.0 same) draws.1 (move_fits m r s sound h.0 same draws.0 fits)

-- ---- the moves that an event has of its own tell it
unnamed_draw : (r : Rows) (m : Move) → is_named m ≡ false → DrawsSo r m
unnamed_draw r (LinkMoves i event) h = tt
unnamed_draw r (EndMoves e event) h = tt
unnamed_draw r (ObjectEnds i) h = tt
unnamed_draw r (ObjectMade row) h = tt
unnamed_draw r (PairDrawn a b) h = absurd (never (sym h))
unnamed_draw r (LetterPut to word) h = tt

all_draw : (r : Rows) (ms : List Move) → AllDrawSo r (filter is_named ms) → AllDrawSo r ms
all_draw r [] own = tt
all_draw r (m ∷ ms) own = by (is_named m) refl (λ (q : Rows). all_draw q ms) own
  where
    by : (b : Bool) → is_named m ≡ b → ((q : Rows) → AllDrawSo q (filter is_named ms) → AllDrawSo q ms) → AllDrawSo r (cond b (m ∷ filter is_named ms) (filter is_named ms)) → AllDrawSo r (m ∷ ms)
    by true e rest is = (is.0, rest (grown m r) is.1)
    by false e rest is = (unnamed_draw r m e, subst (λ (q : Rows). AllDrawSo q ms) (ungrown r m e) (rest r is))

-- ---- of an event
no_session : (kind : ObjKind) → is_socket kind ≡ true → is_session kind ≡ false
no_session Root h = absurd (never h)
no_session (IsSocket kind) h = refl
no_session Listener h = absurd (never h)
no_session Session h = absurd (never h)

of_none : (k : ℕ) (a : Bool) (o : Row) → is_session o.kind ≡ false → IsEndOf k a (shape o)
of_none k a o none h = absurd (never (sym none ∙ h))

module _ (c : Control) (kept : Kept c) where
  socket_end : (k : ℕ) (a : Bool) (i : ℕ) → is_socket (obj c.rows i).kind ≡ true → IsEndOf k a (shape (obj c.rows i))
  socket_end k a i socket = of_none k a (obj c.rows i) (no_session (obj c.rows i).kind socket)

  -- of one that is there beside what is made
  beside : (row : Row) (k : ℕ) (a : Bool) (i : ℕ) → i < next_object c → is_session (obj c.rows i).kind ≡ false → IsEndOf k a (shape (obj (record c.rows { objects = c.rows.objects ++ row ∷ [] }) i))
  beside row k a i there none = subst (IsEndOf k a) (sym (ap shape (get_or-append c.rows.objects (row ∷ []) nobody i there))) (of_none k a (obj c.rows i) none)

  root_none : is_session (obj c.rows 0).kind ≡ false
  root_none = by (obj c.rows 0).kind (ap (λ (w : Option ℕ). owner_fits (obj c.rows 0).kind w) (sym kept.shape.root) ∙ at_owner (obj c.rows 0) ((inv_of (rows_of (kept_but 0 c kept))).fits 0))
    where
      by : (k : ObjKind) → owner_fits k None ≡ true → is_session k ≡ false
      by Root f = refl
      by (IsSocket kind) f = refl
      by Listener f = refl
      by Session f = absurd (never f)

  -- who owns an object is no session
  owner_none : (i : ℕ) → (owner_or_root (obj c.rows i).owner < next_object c) × (is_session (obj c.rows (owner_or_root (obj c.rows i).owner)).kind ≡ false)
  owner_none i = by (obj c.rows i).owner refl
    where
      some : 0 < next_object c
      some = some_object c.rows kept.reached

      by : (w : Option ℕ) → (obj c.rows i).owner ≡ w → (owner_or_root w < next_object c) × (is_session (obj c.rows (owner_or_root w)).kind ≡ false)
      by None e = (some, root_none)
      by (Some w) e = (
        (sound_of c kept).owners i w e,
        elim (cases_eq w 0) [
          | inl zero_is ↦ subst (λ (n : ℕ). is_session (obj c.rows n).kind ≡ false) (sym zero_is) root_none
          | inr more ↦ no_session (obj c.rows w).kind (kept.shape.owners i w e more)
        ],
      )

  fulfil_draw : (o k : ℕ) (ws : List Waiting) (ps : List PairRow) → is_socket (obj c.rows o).kind ≡ true → All (λ w. IsUnasked c.rows w.waiter.0) ws → AllDrawSo (record { objects = c.rows.objects; pairs = ps }) (fulfil_moves c o k ws)
  fulfil_draw o k [] ps socket all = tt
  fulfil_draw o k (w ∷ ws) ps socket all = (
    (socket_end (length ps) true w.waiter.0 (All-head (λ x. IsUnasked c.rows x.waiter.0) w ws all).socket, socket_end (length ps) false o socket),
    (tt, (tt, fulfil_draw o (k + 1) ws (ps ++ record { a_owner = w.waiter.0; b_owner = o; a = Unmade; b = Unmade } ∷ []) socket (All-tail (λ x. IsUnasked c.rows x.waiter.0) w ws all))),
  )

  connect_draw : (o : ℕ) (at : Endpoint) (held : Option Binding) → c.names.held at ≡ held → is_socket (obj c.rows o).kind ≡ true → AllDrawSo c.rows (connect_moves c o held)
  connect_draw o at None is socket = tt
  connect_draw o at (Some binding) is socket = ((socket_end (next_pair c) true o socket, socket_end (next_pair c) false binding.holder.0 (kept.names.holders at binding is).socket), (tt, (tt, tt)))

  request_draw : (req : Req) → MayAsk c req → AllDrawSo c.rows (request_moves c req)
  request_draw (MakeSocket kind options) may_so = (tt, tt)
  request_draw AskTerm may_so = (tt, tt)
  request_draw (Bind o (Inproc name)) may_so =
      fulfil_draw o.0 (next_pair c) (fulfilled_by (Inproc name) (binding_by o.0 c) c.names) c.rows.pairs may_so.socket
      (all_filter (λ (w : Waiting). IsUnasked c.rows w.waiter.0) (λ (w : Waiting). IsUnasked c.rows w.waiter.0) (is_fulfilled (Inproc name) (binding_by o.0 c)) (λ w is test. is) c.names.waiting kept.names.waiters)
  request_draw (Bind o (Tcp address)) may_so = (tt, (tt, (tt, tt)))
  request_draw (Connect o (Inproc name)) may_so = connect_draw o.0 (Inproc name) (c.names.held (Inproc name)) refl may_so.socket
  request_draw (Connect o (Tcp address)) may_so =
      (tt, ((beside (session_row o.0 c) (next_pair c) true o.0 (socket_there c.rows o.0 may_so.socket) (no_session (obj c.rows o.0).kind may_so.socket), mine), (tt, (tt, (tt, tt)))))
    where
      mine : IsEndOf (next_pair c) false (shape (obj (record c.rows { objects = c.rows.objects ++ session_row o.0 c ∷ [] }) (next_object c)))
      mine = subst (IsEndOf (next_pair c) false) (sym (ap shape (get_or_push c.rows.objects (session_row o.0 c) nobody (next_object c) refl))) (λ h. (refl, refl))
  request_draw (Unbind o at) may_so = tt
  request_draw (Disconnect o at) may_so = tt
  request_draw (Close o) may_so = (tt, tt)
  request_draw (Accepted o) may_so =
      let owner = owner_none o.0 in
      (tt, ((mine, beside (accepted_row o.0 c) (next_pair c) false (owner_or_root (obj c.rows o.0).owner) owner.0 owner.1), (tt, tt)))
    where
      mine : IsEndOf (next_pair c) true (shape (obj (record c.rows { objects = c.rows.objects ++ accepted_row o.0 c ∷ [] }) (next_object c)))
      mine = subst (IsEndOf (next_pair c) true) (sym (ap shape (get_or_push c.rows.objects (accepted_row o.0 c) nobody (next_object c) refl))) (λ h. (refl, refl))
  request_draw (Shaken o peer) may_so = (tt, (tt, tt))
  request_draw (AskEnd e Closed) may_so = tt
  request_draw (AskEnd e BadId) may_so = tt
  request_draw (AskEnd e Second) may_so = tt
  request_draw (AskEnd e Linger) may_so = (tt, tt)
  request_draw (AskEnd e Link) may_so = (tt, tt)
  request_draw (AskOver o) may_so = (tt, tt)
  request_draw (OutputOver o) may_so = tt

  word_draw : (at : ℕ) (word : Word) → AllDrawSo c.rows (word_moves at word)
  word_draw at (Own child) = (tt, tt)
  word_draw at (Plug None) = (tt, tt)
  word_draw at (Plug (Some e)) = (tt, (tt, tt))
  word_draw at (TermReq child) = (tt, tt)
  word_draw at Term = (tt, tt)
  word_draw at (TermAck child) = (tt, tt)
  word_draw at (PipeBind e peer) = (tt, tt)
  word_draw at (PipeTerm e) = (tt, tt)
  word_draw at (PipeTermAck e) = (tt, tt)
  word_draw at Stop = (tt, tt)
  word_draw at (Reap socket) = (tt, tt)

  own_draw : {N S : Type 0} (did : Did N S) → Fits c did → AllDrawSo c.rows (own_moves c did)
  own_draw (DidAsk req Done h) fits = request_draw req fits.may.0
  own_draw (DidAsk req (Object o) h) fits = request_draw req fits.may.0
  own_draw (DidAsk req (Pair p) h) fits = request_draw req fits.may.0
  own_draw (DidAsk req (Both o p) h) fits = request_draw req fits.may.0
  own_draw (DidAsk req Wait h) fits = request_draw req fits.may.0
  own_draw (DidAsk req WasAsked h) fits = request_draw req fits.may.0
  own_draw (DidAsk req Before h) fits = tt
  own_draw (DidAsk req (Refused refusal) h) fits = tt
  own_draw (Delivered slot letter h) fits = word_draw letter.to.0 letter.word
  own_draw (Delimited e h) fits = (tt, tt)

pub ends_fit_after : {N S : Type 0} (c : Control) (did : Did N S) → Kept c → Fits c did → EndsFit c.rows → EndsFit (after did c).rows
ends_fit_after c did kept fits was =
    let g = event_goes c did kept fits in
    let rows = taken_rows did c in
    leads_fit g.moves c.rows (having_taken did c).rows (having_taken did c).boxes (after did c) (subst Sound (sym rows) (sound_of c kept)) g.leads
    (subst (λ (r : Rows). SameShapes c.rows r) (sym rows) (record { objects = refl; shapes = λ i. refl; pairs = refl }))
    (all_draw c.rows g.moves (subst (AllDrawSo c.rows) (sym g.own_are) (own_draw c kept did fits))) (subst EndsFit (sym rows) was)

pub begun_fit : (workers : ℕ) → EndsFit (begun workers).rows
begun_fit workers zero true h = absurd (never h)
begun_fit workers zero false h = absurd (never h)
begun_fit workers (suc k) true h = absurd (never h)
begun_fit workers (suc k) false h = absurd (never h)

module _ {N S : Type 0} where
  fit_over : (items : List (Item N S)) (c : Control) → Kept c → IsControlRun c items → EndsFit c.rows → EndsFit (after_all items c).rows
  fit_over [] c kept run fit = fit
  fit_over (Event entry ∷ items) c kept run fit = fit_over items (after entry.did c) (after_kept c entry.did kept run.0) run.1 (ends_fit_after c entry.did kept run.0 fit)
  fit_over (Seen sight ∷ items) c kept run fit = fit_over items c kept run.1 fit

  pub ends_fit_run : (workers : ℕ) (items : List (Item N S)) → IsControlRun (begun workers) items → EndsFit (after_all items (begun workers)).rows
  ends_fit_run workers items run = fit_over items (begun workers) (begun_kept workers) run (begun_fit workers)
