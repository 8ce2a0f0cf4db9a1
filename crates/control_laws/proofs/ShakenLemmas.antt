-- The pair of an accepted session is not made before the session says that its handshake is done.
use Rattle.std.specs.Prelude.{◌≡◌, ◌≢◌, ◌<◌, ◌≤◌, ◌+◌, ◌==◌, ◌++◌, ℕ, Bool, true, false, not, List, [], ◌∷◌, Option, Some, None, if◌then◌else◌, slice_index_or, refl}
use Rattle.std.specs.List.{list_any}
use Rattle.std.proofs.Common.{arith, sym, ap, ◌∙◌, subst, inl, inr}
use Rattle.std.proofs.lemmas.Bool.{cases_order, eq-eqb, ne_eqb}
use Rattle.std.proofs.lemmas.List.{get_or_past, get_or_push}
use Rattle.zq_base.specs.declared.endpoint.Endpoint.TheVariants.{Inproc, Tcp}
use Rattle.zq_base.specs.declared.ids.ObjId.{ObjId}
use Rattle.spec_control.specs.declared.end.Reason.TheVariants.{Closed, BadId, Second, Linger, Link}
use Rattle.spec_control.specs.declared.entry.Answered.{Answered}
use Rattle.spec_control.specs.declared.entry.Did.{Did}
use Rattle.spec_control.specs.declared.entry.Did.TheVariants.{Asked, Delivered, Delimited}
use Rattle.spec_control.specs.declared.entry.Item.{Item}
use Rattle.spec_control.specs.declared.entry.Item.TheVariants.{Event, Seen}
use Rattle.spec_control.specs.declared.letter.Word.{Word}
use Rattle.spec_control.specs.declared.letter.Word.TheVariants.{Own, Plug, TermReq, Term, TermAck, PipeBind, PipeTerm, PipeTermAck, Stop, Reap}
use Rattle.zq_base.specs.declared.options.Peer.{Peer}
use Rattle.spec_control.specs.declared.request.Req.{Req}
use Rattle.spec_control.specs.declared.request.Req.TheVariants.{Socket as MakeSocket, AskTerm, Bind, Connect, Unbind, Disconnect, Close, Accepted, Shaken, AskEnd, AskOver, OutputOver}
use Rattle.spec_control.specs.declared.request.Reply.{Reply}
use Rattle.spec_control.specs.declared.request.Reply.TheVariants.{Done, Object, Pair, Both, Wait, Asked as WasAsked, Before, Refused}
use Rattle.spec_control.specs.declared.book.Binding.{Binding}
use Rattle.spec_control.specs.declared.book.Waiting.{Waiting}
use Rattle.spec_control.specs.declared.letter.Letter.{Letter}
use Rattle.spec_control.specs.Register.{fulfilled_by}
use Rattle.spec_control.specs.Place.{Place, Unmade, waiting}
use Rattle.spec_control.specs.PairPhase.{PairEvent, Opens, BindCame, Happens, front_is_bind, may, place_after}
use Rattle.spec_control.specs.Row.{Row, is_session}
use Rattle.spec_control.specs.Rows.{PairRow, Rows, end_half, end_place, no_pair, obj, is_owner, pair, pair_after}
use Rattle.spec_control.specs.Control.{Control, begun, next_object, next_pair}
use Rattle.spec_control.specs.After.{after, binding_by, owner_or_root, pair_or_none}
use Rattle.spec_control.specs.ControlRun.{Fits, IsControlRun, after_all, unless_refused}
use Rattle.spec_control.specs.Has.{made_by}
use Rattle.spec_control.specs.OwnAsks.{Known, known_at_request, known_at_word, known_in, known_over, known_after, unknown}
use Rattle.control_laws.proofs.ListLemmas.{never, is_here, is_elsewhere, written, is_old, is_new, pushed}
use Rattle.control_laws.specs.Kept.{Kept}
use Rattle.control_laws.specs.Move.{Move, LinkMoves, EndMoves, ObjectEnds, ObjectMade, PairDrawn, LetterPut, move_rows, move_boxes, is_named, MayMove, Leads}
use Rattle.control_laws.specs.OwnMoves.{connect_moves, fulfil_moves, having_taken, own_moves, request_moves, word_moves}
use Rattle.control_laws.proofs.EventGoLemmas.{event_goes}
use Rattle.control_laws.proofs.HeldOpenLemmas.{none_some, owned_by}
use Rattle.control_laws.proofs.HeldRowLemmas.{any_named, none_first, none_rest}
use Rattle.control_laws.proofs.PluggedLemmas.{SocketsServe, serve_after}
use Rattle.control_laws.proofs.RootLemmas.{begun_kept}
use Rattle.control_laws.proofs.RowLemmas.{pair_there}
use Rattle.control_laws.proofs.RunLemmas.{after_kept}
use Rattle.control_laws.proofs.UnpluggedLemmas.{serves_run}
use Rattle.control_laws.proofs.WeighLemmas.{taken_rows}
use Rattle.control_laws.proofs.AskedEndLemmas.{event_shape}
use Rattle.control_laws.proofs.GrownLemmas.{ShapeOf}
use Rattle.control_laws.proofs.WorkKindLemmas.{AreKinds, is_there, kinds_after, made_at}
use Rattle.control_laws.proofs.HeldEventLemmas.{or_none}

-- ---- a pair whose number was drawn is not made until its end a is attached
module _ (k : ℕ) where
  abbrev opens_it : PairEvent → ℕ → Bool
  opens_it Opens n = n == k
  opens_it BindCame n = false
  opens_it (Happens event) n = false

  abbrev opens_at : Move → Bool
  opens_at (LinkMoves i event) = false
  opens_at (EndMoves e event) = opens_it event e.pair.0
  opens_at (ObjectEnds i) = false
  opens_at (ObjectMade row) = false
  opens_at (PairDrawn a b) = false
  opens_at (LetterPut to word) = false

  abbrev pub IsUnmade : Rows → Type 0
  IsUnmade s = end_place (pair s k) true ≡ Unmade

  moved_unmade : (event : PairEvent) (a : Bool) (p : PairRow) → may event (end_half p a) (end_half p (not a)) ≡ true → opens_it event k ≡ false → p.a ≡ Unmade → (pair_after event a p).a ≡ Unmade
  moved_unmade Opens a p comes free was = absurd (never (sym free ∙ eq-eqb k k refl))
  moved_unmade BindCame true p comes free was = absurd (never (sym (ap (λ (x : Place). front_is_bind (waiting x p.b)) was) ∙ comes))
  moved_unmade BindCame false p comes free was = was
  moved_unmade (Happens event) true p comes free was = ap (place_after (Happens event)) was
  moved_unmade (Happens event) false p comes free was = was

  move_unmade : (m : Move) (s : Rows) → MayMove m s → opens_at m ≡ false → IsUnmade s → IsUnmade (move_rows m s)
  move_unmade (LinkMoves i event) s may_so free was = was
  move_unmade (EndMoves e event) s may_so free was =
      elim (written s.pairs (pair_after event e.a (pair s e.pair.0)) no_pair e.pair.0 k (pair_there s e.pair.0 e.a event may_so.comes)) [
        | is_here here same ↦
            ap (λ (p : PairRow). p.a) same
            ∙ moved_unmade event e.a (pair s e.pair.0) may_so.comes (ap (opens_it event) here ∙ free) (ap (λ (n : ℕ). (pair s n).a) (sym here) ∙ was)
        | is_elsewhere same ↦ ap (λ (p : PairRow). p.a) same ∙ was
      ]
  move_unmade (ObjectEnds i) s may_so free was = was
  move_unmade (ObjectMade row) s may_so free was = was
  move_unmade (PairDrawn a b) s may_so free was =
      elim (pushed s.pairs (record { a_owner = a; b_owner = b; a = Unmade; b = Unmade }) no_pair k) [
        | is_old same ↦ ap (λ (p : PairRow). p.a) same ∙ was
        | is_new at same gone ↦ ap (λ (p : PairRow). p.a) same
      ]
  move_unmade (LetterPut to word) s may_so free was = was

  lead_unmade : (ms : List Move) (s : Rows) (boxes : ℕ → List Letter) (d : Control) → Leads ms s boxes d → list_any opens_at ms ≡ false → IsUnmade s → IsUnmade d.rows
  lead_unmade [] s boxes d h free was = subst IsUnmade (sym h.0) was
  lead_unmade (m ∷ ms) s boxes d h free was =
      lead_unmade ms (move_rows m s) (move_boxes m s boxes) d h.1 (none_rest (opens_at m) _ free) (move_unmade m s h.0 (none_first (opens_at m) _ free) was)

  opens_named : (m : Move) → is_named m ≡ false → opens_at m ≡ false
  opens_named (LinkMoves i event) h = refl
  opens_named (EndMoves e Opens) h = absurd (never (sym h))
  opens_named (EndMoves e BindCame) h = refl
  opens_named (EndMoves e (Happens event)) h = refl
  opens_named (ObjectEnds i) h = refl
  opens_named (ObjectMade row) h = refl
  opens_named (PairDrawn a b) h = refl
  opens_named (LetterPut to word) h = refl

  event_unmade : {N S : Type 0} (c : Control) (did : Did N S) → Kept c → Fits c did → list_any opens_at (own_moves c did) ≡ false → IsUnmade c.rows → IsUnmade (after did c).rows
  event_unmade c did kept fits free was =
      let g = event_goes c did kept fits in
      lead_unmade g.moves (having_taken did c).rows (having_taken did c).boxes (after did c) g.leads
      (sym (any_named opens_at opens_named g.moves) ∙ ap (list_any opens_at) g.own_are ∙ free) (subst IsUnmade (sym (taken_rows did c)) was)

  -- ---- the pairs that a request makes are new, or that of who says that its handshake is done
  above : (n : ℕ) → k < n → (n == k) ≡ false
  above n less = ne_eqb n k (λ same. omega (arith, less, same))

  fulfil_opens : (c : Control) (o n : ℕ) (ws : List Waiting) → k < n → list_any opens_at (fulfil_moves c o n ws) ≡ false
  fulfil_opens c o n [] less = refl
  fulfil_opens c o n (w ∷ ws) less = or_none (n == k) _ (above n less) (fulfil_opens c o (n + 1) ws (omega (arith, less)))

  connect_opens : (c : Control) (o : ℕ) (held : Option Binding) → k < next_pair c → list_any opens_at (connect_moves c o held) ≡ false
  connect_opens c o None less = refl
  connect_opens c o (Some binding) less = or_none (next_pair c == k) false (above (next_pair c) less) refl

  abbrev shakes_it : Control → Req → Bool
  shakes_it c (MakeSocket kind options) = false
  shakes_it c AskTerm = false
  shakes_it c (Bind o at) = false
  shakes_it c (Connect o at) = false
  shakes_it c (Unbind o at) = false
  shakes_it c (Disconnect o at) = false
  shakes_it c (Close o) = false
  shakes_it c (Accepted o) = false
  shakes_it c (Shaken o peer) = pair_or_none (obj c.rows o.0).pair == k
  shakes_it c (AskEnd e reason) = false
  shakes_it c (AskOver o) = false
  shakes_it c (OutputOver o) = false

  request_opens : (c : Control) (req : Req) → k < next_pair c → shakes_it c req ≡ false → list_any opens_at (request_moves c req) ≡ false
  request_opens c (MakeSocket kind options) less none = refl
  request_opens c AskTerm less none = refl
  request_opens c (Bind o (Inproc name)) less none = fulfil_opens c o.0 (next_pair c) (fulfilled_by (Inproc name) (binding_by o.0 c) c.names) less
  request_opens c (Bind o (Tcp address)) less none = refl
  request_opens c (Connect o (Inproc name)) less none = connect_opens c o.0 (c.names.held (Inproc name)) less
  request_opens c (Connect o (Tcp address)) less none = or_none (next_pair c == k) false (above (next_pair c) less) refl
  request_opens c (Unbind o at) less none = refl
  request_opens c (Disconnect o at) less none = refl
  request_opens c (Close o) less none = refl
  request_opens c (Accepted o) less none = refl
  request_opens c (Shaken o peer) less none = or_none (pair_or_none (obj c.rows o.0).pair == k) false none refl
  request_opens c (AskEnd e Closed) less none = refl
  request_opens c (AskEnd e BadId) less none = refl
  request_opens c (AskEnd e Second) less none = refl
  request_opens c (AskEnd e Linger) less none = refl
  request_opens c (AskEnd e Link) less none = refl
  request_opens c (AskOver o) less none = refl
  request_opens c (OutputOver o) less none = refl

  word_opens : (at : ℕ) (word : Word) → list_any opens_at (word_moves at word) ≡ false
  word_opens at (Own child) = refl
  word_opens at (Plug None) = refl
  word_opens at (Plug (Some e)) = refl
  word_opens at (TermReq child) = refl
  word_opens at Term = refl
  word_opens at (TermAck child) = refl
  word_opens at (PipeBind e peer) = refl
  word_opens at (PipeTerm e) = refl
  word_opens at (PipeTermAck e) = refl
  word_opens at Stop = refl
  word_opens at (Reap socket) = refl

  asked_opens : (c : Control) (req : Req) (reply : Reply) → k < next_pair c → shakes_it c req ≡ false → list_any opens_at (unless_refused reply (request_moves c req)) ≡ false
  asked_opens c req Done less none = request_opens c req less none
  asked_opens c req (Object o) less none = request_opens c req less none
  asked_opens c req (Pair p) less none = request_opens c req less none
  asked_opens c req (Both o p) less none = request_opens c req less none
  asked_opens c req Wait less none = request_opens c req less none
  asked_opens c req WasAsked less none = request_opens c req less none
  asked_opens c req Before less none = refl
  asked_opens c req (Refused refusal) less none = refl

-- ---- of an accepted session that did not say so
abbrev pub ShakenAs : ℕ → Control → Known → Type 0
ShakenAs i c k = k.accepted ≡ true → k.shaken ≡ false → IsUnmade (pair_or_none (obj c.rows i).pair) c.rows

abbrev pair_by : ShapeOf → ℕ
pair_by s = pair_or_none s.1.0

like : (i : ℕ) (d : Control) (k now : Known) → now.accepted ≡ k.accepted → now.shaken ≡ k.shaken → ShakenAs i d k → ShakenAs i d now
like i d k now a s so x y = so (sym a ∙ x) (sym s ∙ y)

if_like : (i : ℕ) (d : Control) (k now : Known) (b : Bool) → now.accepted ≡ k.accepted → now.shaken ≡ k.shaken → ShakenAs i d k → ShakenAs i d (if b then now else k)
if_like i d k now true a s so = like i d k now a s so
if_like i d k now false a s so = so

word_like : (i : ℕ) (d : Control) (word : Word) (left : Bool) (k : Known) → ShakenAs i d k → ShakenAs i d (known_at_word word left k)
word_like i d (Own child) left k so = like i d k (known_at_word (Own child) left k) refl refl so
word_like i d (Plug None) left k so = like i d k (known_at_word (Plug None) left k) refl refl so
word_like i d (Plug (Some e)) left k so = like i d k (known_at_word (Plug (Some e)) left k) refl refl so
word_like i d (TermReq child) left k so = like i d k (known_at_word (TermReq child) left k) refl refl so
word_like i d Term left k so = like i d k (known_at_word Term left k) refl refl so
word_like i d (TermAck child) left k so = like i d k (known_at_word (TermAck child) left k) refl refl so
word_like i d (PipeBind e peer) left k so = like i d k (known_at_word (PipeBind e peer) left k) refl refl so
word_like i d (PipeTerm e) left k so = like i d k (known_at_word (PipeTerm e) left k) refl refl so
word_like i d (PipeTermAck e) left k so = like i d k (known_at_word (PipeTermAck e) left k) refl refl so
word_like i d Stop left k so = like i d k (known_at_word Stop left k) refl refl so
word_like i d (Reap socket) left k so = like i d k (known_at_word (Reap socket) left k) refl refl so

-- the number of the pair of object i
abbrev its : ℕ → Control → ℕ
its i c = pair_or_none (obj c.rows i).pair

-- it is there
within : (i : ℕ) → i ≢ 0 → (c : Control) → Kept c → (obj c.rows i).accepted ≡ true → its i c < next_pair c
within i more c kept is =
    elim (cases_order (its i c) (next_pair c)) [
      | inl same ↦ past (omega (arith, same))
      | inr (inl below) ↦ below
      | inr (inr far) ↦ past (omega (arith, far))
    ]
  where
    past : next_pair c ≤ its i c → its i c < next_pair c
    past far = absurd (more (sym (kept.pairs i is).0 ∙ ap (λ (p : PairRow). p.a_owner) (get_or_past c.rows.pairs (its i c) no_pair far)))

module _ {N S : Type 0} (i : ℕ) (more : i ≢ 0) (c : Control) (kept : Kept c) (serve : SocketsServe c.rows c.boxes) (k : Known) (are : AreKinds c i k) (was : ShakenAs i c k) where
  stays_unmade : (did : Did N S) → Fits c did → ((obj c.rows i).accepted ≡ true → (its i c) < next_pair c → list_any (opens_at (its i c)) (own_moves c did) ≡ false) → ShakenAs i (after did c) k
  stays_unmade did fits free accepted unshaken =
      let so = are.accepted accepted in
      let there = is_there is_session c i refl (are.session so.1).kind in
      subst (λ (n : ℕ). IsUnmade n (after did c).rows) (sym (ap pair_by (event_shape c did kept fits i there)))
      (event_unmade (its i c) c did kept fits (free so.0 (within i more c kept so.0)) (was accepted unshaken))

  asked_stays : (req : Req) (reply : Reply) (h : Answered N S) → Fits c (Asked req reply h) → ((obj c.rows i).accepted ≡ true → shakes_it (its i c) c req ≡ false) → ShakenAs i (after (Asked req reply h) c) k
  asked_stays req reply h fits none = stays_unmade (Asked req reply h) fits (λ is less. asked_opens (its i c) c req reply less (none is))

  -- the session that is accepted
  drawn_now : (o : ObjId) (reply : Reply) (h : Answered N S) → made_by reply ≡ Some i → IsUnmade (next_pair c) (after (let did : Did N S = Asked (Accepted o) reply h in did) c).rows
  drawn_now o Done h e = absurd (none_some e)
  drawn_now o (Object p) h e = drawn
    where
      drawn : (slice_index_or (c.rows.pairs ++ record { a_owner = next_object c; b_owner = owner_or_root (obj c.rows o.0).owner; a = Unmade; b = Unmade } ∷ []) (next_pair c) no_pair).a ≡ Unmade
      drawn = ap (λ (p : PairRow). p.a) (get_or_push c.rows.pairs (record { a_owner = next_object c; b_owner = owner_or_root (obj c.rows o.0).owner; a = Unmade; b = Unmade }) no_pair (next_pair c) refl)
  drawn_now o (Pair p) h e = absurd (none_some e)
  drawn_now o (Both p q) h e = drawn
    where
      drawn : (slice_index_or (c.rows.pairs ++ record { a_owner = next_object c; b_owner = owner_or_root (obj c.rows o.0).owner; a = Unmade; b = Unmade } ∷ []) (next_pair c) no_pair).a ≡ Unmade
      drawn = ap (λ (p : PairRow). p.a) (get_or_push c.rows.pairs (record { a_owner = next_object c; b_owner = owner_or_root (obj c.rows o.0).owner; a = Unmade; b = Unmade }) no_pair (next_pair c) refl)
  drawn_now o Wait h e = absurd (none_some e)
  drawn_now o WasAsked h e = absurd (none_some e)
  drawn_now o Before h e = absurd (none_some e)
  drawn_now o (Refused refusal) h e = absurd (none_some e)

  accepted_shaken : (o : ObjId) (reply : Reply) (h : Answered N S) → Fits c (let did : Did N S = Asked (Accepted o) reply h in did) → ShakenAs i (after (let did : Did N S = Asked (Accepted o) reply h in did) c) (if is_owner i (made_by reply) then record k { session = true; accepted = true } else k)
  accepted_shaken o reply h fits = by (is_owner i (made_by reply)) refl
    where
      by : (b : Bool) → is_owner i (made_by reply) ≡ b → ShakenAs i (after (let did : Did N S = Asked (Accepted o) reply h in did) c) (if b then record k { session = true; accepted = true } else k)
      by true e = λ accepted unshaken.
          let mine = owned_by i (made_by reply) e in
          let made = made_at c kept serve i o reply h fits mine in
          subst (λ (n : ℕ). IsUnmade n (after (let did : Did N S = Asked (Accepted o) reply h in did) c).rows) (sym (ap (λ (r : Row). pair_or_none r.pair) made.1)) (drawn_now o reply h mine)
      by false e = asked_stays (Accepted o) reply h fits (λ is. refl)

  -- who says that (its i c) handshake is done
  shaken_shaken : (o : ObjId) (peer : Peer) (reply : Reply) (h : Answered N S) → Fits c (let did : Did N S = Asked (Shaken o peer) reply h in did) → ShakenAs i (after (let did : Did N S = Asked (Shaken o peer) reply h in did) c) (if o.0 == i then record k { shaken = true } else k)
  shaken_shaken o peer reply h fits = by (o.0 == i) refl
    where
      by : (b : Bool) → (o.0 == i) ≡ b → ShakenAs i (after (let did : Did N S = Asked (Shaken o peer) reply h in did) c) (if b then record k { shaken = true } else k)
      by true e = λ accepted unshaken. absurd (never (sym unshaken))
      by false e = asked_stays (Shaken o peer) reply h fits apart
        where
          apart : (obj c.rows i).accepted ≡ true → (pair_or_none (obj c.rows o.0).pair == (its i c)) ≡ false
          apart is =
              ne_eqb (pair_or_none (obj c.rows o.0).pair) (its i c) (λ same. never (sym e ∙ eq-eqb o.0 i (sym (kept.pairs o.0 fits.may.0.accepted).0 ∙ ap (λ (n : ℕ). (pair c.rows n).a_owner) same ∙ (kept.pairs i is).0)))

  request_shaken : (req : Req) (reply : Reply) (h : Answered N S) → Fits c (Asked req reply h) → ShakenAs i (after (Asked req reply h) c) (known_at_request i req reply k)
  request_shaken (MakeSocket kind options) reply h fits = if_like i (after (Asked (MakeSocket kind options) reply h) c) k (record k { open_socket = true }) (is_owner i (made_by reply)) refl refl (asked_stays (MakeSocket kind options) reply h fits (λ is. refl))
  request_shaken AskTerm reply h fits = asked_stays AskTerm reply h fits (λ is. refl)
  request_shaken (Bind o at) reply h fits = asked_stays (Bind o at) reply h fits (λ is. refl)
  request_shaken (Connect o at) reply h fits = asked_stays (Connect o at) reply h fits (λ is. refl)
  request_shaken (Unbind o at) reply h fits = asked_stays (Unbind o at) reply h fits (λ is. refl)
  request_shaken (Disconnect o at) reply h fits = asked_stays (Disconnect o at) reply h fits (λ is. refl)
  request_shaken (Close o) reply h fits = if_like i (after (Asked (Close o) reply h) c) k (record k { open_socket = false }) (o.0 == i) refl refl (asked_stays (Close o) reply h fits (λ is. refl))
  request_shaken (Accepted o) reply h fits = accepted_shaken o reply h fits
  request_shaken (Shaken o peer) reply h fits = shaken_shaken o peer reply h fits
  request_shaken (AskEnd e reason) reply h fits = asked_stays (AskEnd e reason) reply h fits (λ is. refl)
  request_shaken (AskOver o) reply h fits = if_like i (after (Asked (AskOver o) reply h) c) k (record k { asked_over = true }) (o.0 == i) refl refl (asked_stays (AskOver o) reply h fits (λ is. refl))
  request_shaken (OutputOver o) reply h fits = if_like i (after (Asked (OutputOver o) reply h) c) k (record k { output_left = false }) (o.0 == i) refl refl (asked_stays (OutputOver o) reply h fits (λ is. refl))

  pub shaken_after : (did : Did N S) → Fits c did → ShakenAs i (after did c) (known_in i did k)
  shaken_after (Asked req reply h) fits = request_shaken req reply h fits
  shaken_after (Delivered slot letter h) fits = by (letter.to.0 == i)
    where
      stays : ShakenAs i (after (Delivered slot letter h) c) k
      stays = stays_unmade (Delivered slot letter h) fits (λ is less. word_opens (its i c) letter.to.0 letter.word)

      by : (b : Bool) → ShakenAs i (after (Delivered slot letter h) c) (if b then known_at_word letter.word h.output_left k else k)
      by true = word_like i (after (Delivered slot letter h) c) letter.word h.output_left k stays
      by false = stays
  shaken_after (Delimited e h) fits = stays_unmade (Delimited e h) fits (λ is less. refl)

module _ {N S : Type 0} (i : ℕ) (more : i ≢ 0) where
  shaken_over : (items : List (Item N S)) (c : Control) (k : Known) → Kept c → SocketsServe c.rows c.boxes → IsControlRun c items → AreKinds c i k → ShakenAs i c k → ShakenAs i (after_all items c) (known_over i k items)
  shaken_over [] c k kept serve run are was = was
  shaken_over (Event entry ∷ items) c k kept serve run are was =
      shaken_over items (after entry.did c) (known_in i entry.did k) (after_kept c entry.did kept run.0) (serve_after c entry.did kept run.0 serve) run.1 (kinds_after c kept serve i entry.did run.0 k are) (shaken_after i more c kept serve k are was entry.did run.0)
  shaken_over (Seen sight ∷ items) c k kept serve run are was = shaken_over items c k kept serve run.1 are was

  pub shaken_run : (workers : ℕ) (items : List (Item N S)) → IsControlRun (begun workers) items → ShakenAs i (after_all items (begun workers)) (known_after i items)
  shaken_run workers items run =
      shaken_over items (begun workers) unknown (begun_kept workers) (serves_run workers (let none : List (Item N S) = [] in none) tt).sockets run
      (record { listener = λ h. absurd (never h); session = λ h. absurd (never h); accepted = λ h. absurd (never h) }) (λ h x. absurd (never h))
