-- Who is had was taken in.
use Rattle.std.specs.Prelude.{◌≡◌, ◌<◌, ◌+◌, ◌==◌, ◌||◌, ◌++◌, ℕ, Bool, true, false, List, [], ◌∷◌, Option, Some, None, cond, filter, if◌then◌else◌, length, slice_index_or, refl}
use Rattle.std.specs.List.{list_any}
use Rattle.std.proofs.Common.{arith, sym, ap, ◌∙◌, subst}
use Rattle.std.proofs.lemmas.Bool.{eq-eqb, eqb-true}
use Rattle.std.proofs.lemmas.List.{get_or_push, get_or-set_same}
use Rattle.zq_base.specs.declared.ids.EndId.{EndId}
use Rattle.zq_base.specs.declared.ids.ObjId.{ObjId}
use Rattle.zq_base.specs.declared.ids.SlotId.{SlotId}
use Rattle.zq_base.specs.declared.endpoint.Endpoint.TheVariants.{Inproc, Tcp}
use Rattle.spec_control.specs.declared.book.Binding.{Binding}
use Rattle.spec_control.specs.declared.book.Waiting.{Waiting}
use Rattle.spec_control.specs.declared.end.Reason.TheVariants.{Closed, BadId, Second, Linger, Link}
use Rattle.spec_control.specs.declared.entry.Answered.{Answered}
use Rattle.spec_control.specs.declared.entry.Did.{Did}
use Rattle.spec_control.specs.declared.entry.Did.TheVariants.{Asked, Delivered, Delimited}
use Rattle.spec_control.specs.declared.entry.Item.{Item}
use Rattle.spec_control.specs.declared.entry.Item.TheVariants.{Event, Seen}
use Rattle.spec_control.specs.declared.letter.Letter.{Letter}
use Rattle.spec_control.specs.declared.letter.Word.{Word}
use Rattle.spec_control.specs.declared.letter.Word.TheVariants.{Own, Plug, TermReq, Term, TermAck, PipeBind, PipeTerm, PipeTermAck, Stop, Reap}
use Rattle.spec_control.specs.declared.request.Req.{Req}
use Rattle.spec_control.specs.declared.request.Req.TheVariants.{Socket as MakeSocket, AskTerm, Bind, Connect, Unbind, Disconnect, Close, Accepted, Shaken, AskEnd, AskOver, OutputOver}
use Rattle.spec_control.specs.declared.request.Reply.{Reply}
use Rattle.spec_control.specs.declared.request.Reply.TheVariants.{Done, Object, Pair, Both, Wait, Asked as WasAsked, Before, Refused}
use Rattle.spec_control.specs.declared.stage.Stage.TheVariants.{Finished}
use Rattle.spec_control.specs.Stage.{has_ended, is_alive, is_coming}
use Rattle.spec_control.specs.Row.{Row, nobody, LinkEvent, OwnComes, PlugComes, IsTold, TermComes, AsksOver, RequestComes, ReapComes, AckComes, RootAsked, StopPut, StopComes, AsksForLink, AsksForLinger, link_may, link_after}
use Rattle.spec_control.specs.Rows.{Rows, is_owner, obj}
use Rattle.spec_control.specs.Control.{Control, begun, next_object, next_pair}
use Rattle.spec_control.specs.After.{accepted_row, after, binding_by, socket_row}
use Rattle.spec_control.specs.ControlRun.{Fits, IsControlRun, after_all, unless_refused}
use Rattle.spec_control.specs.Register.{fulfilled_by}
use Rattle.spec_control.specs.Has.{given_up, has_after, has_over, has_then, made_by, taken_by_request, taken_by_word, taken_in}
use Rattle.control_laws.proofs.ListLemmas.{never, right, is_here, is_elsewhere, written, is_old, is_new, placed, pushed}
use Rattle.control_laws.specs.Kept.{Kept}
use Rattle.control_laws.specs.Move.{Move, LinkMoves, EndMoves, ObjectEnds, ObjectMade, PairDrawn, LetterPut, move_rows, move_boxes, is_named, is_named_link, MayMove, Leads}
use Rattle.control_laws.specs.OwnMoves.{connect_moves, fulfil_moves, having_taken, own_moves, request_moves, word_moves}
use Rattle.control_laws.proofs.EventGoLemmas.{event_goes}
use Rattle.control_laws.proofs.GuardLemmas.{may_come}
use Rattle.control_laws.proofs.HeldRowLemmas.{event_row}
use Rattle.control_laws.proofs.HeldOpenLemmas.{made_new, none_some, owned_by, some_is}
use Rattle.control_laws.proofs.PluggedLemmas.{SocketsServe, serve_after}
use Rattle.control_laws.proofs.RootLemmas.{begun_kept, oldest_lives}
use Rattle.control_laws.proofs.RunLemmas.{after_kept}
use Rattle.control_laws.proofs.SoundLemmas.{ending_there, link_there, move_stays}
use Rattle.control_laws.proofs.ThereLemmas.{both_new, event_there, taken_there}
use Rattle.control_laws.proofs.UnpluggedLemmas.{serves_run}
use Rattle.control_laws.proofs.WeighLemmas.{taken_rows}

-- ---- who was taken in stays so
link_plugged : (event : LinkEvent) (o : Row) → o.plugged ≡ true → (link_after event o).plugged ≡ true
link_plugged OwnComes o h = h
link_plugged PlugComes o h = refl
link_plugged IsTold o h = h
link_plugged TermComes o h = h
link_plugged AsksOver o h = h
link_plugged RequestComes o h = h
link_plugged ReapComes o h = h
link_plugged AckComes o h = h
link_plugged RootAsked o h = h
link_plugged StopPut o h = h
link_plugged StopComes o h = h
link_plugged AsksForLink o h = h
link_plugged AsksForLinger o h = h

move_plugged : (m : Move) (s : Rows) (i : ℕ) → MayMove m s → i < length s.objects → (obj s i).plugged ≡ true → (obj (move_rows m s) i).plugged ≡ true
move_plugged (LinkMoves j event) s i may_so there h =
    elim (written s.objects (link_after event (obj s j)) nobody j i (link_there s j event may_so)) [
      | is_here here same ↦ ap (λ (o : Row). o.plugged) same ∙ link_plugged event (obj s j) (subst (λ (n : ℕ). (obj s n).plugged ≡ true) here h)
      | is_elsewhere same ↦ ap (λ (o : Row). o.plugged) same ∙ h
    ]
move_plugged (EndMoves e event) s i may_so there h = h
move_plugged (ObjectEnds j) s i may_so there h =
    elim (written s.objects (record (obj s j) { stage = Finished }) nobody j i (ending_there s j may_so)) [
      | is_here here same ↦ ap (λ (o : Row). o.plugged) same ∙ subst (λ (n : ℕ). (obj s n).plugged ≡ true) here h
      | is_elsewhere same ↦ ap (λ (o : Row). o.plugged) same ∙ h
    ]
move_plugged (ObjectMade row) s i may_so there h =
    elim (pushed s.objects row nobody i) [
      | is_old e ↦ ap (λ (o : Row). o.plugged) e ∙ h
      | is_new at e was ↦ absurd (omega (arith, at, there))
    ]
move_plugged (PairDrawn a b) s i may_so there h = h
move_plugged (LetterPut to word) s i may_so there h = h

lead_plugged : (ms : List Move) (s : Rows) (boxes : ℕ → List Letter) (d : Control) (i : ℕ) → Leads ms s boxes d → i < length s.objects → (obj s i).plugged ≡ true → (obj d.rows i).plugged ≡ true
lead_plugged [] s boxes d i h there is = ap (λ (r : Rows). (obj r i).plugged) h.0 ∙ is
lead_plugged (m ∷ ms) s boxes d i h there is =
    lead_plugged ms (move_rows m s) (move_boxes m s boxes) d i h.1 (move_stays m s i h.0 there).there (move_plugged m s i h.0 there is)

event_plugged : {N S : Type 0} (c : Control) (did : Did N S) → Kept c → Fits c did → (i : ℕ) → i < next_object c → (obj c.rows i).plugged ≡ true → (obj (after did c).rows i).plugged ≡ true
event_plugged c did kept fits i there is =
    let g = event_goes c did kept fits in
    let same = taken_rows did c in
    lead_plugged g.moves (having_taken did c).rows (having_taken did c).boxes (after did c) i g.leads (subst (λ (r : Rows). i < length r.objects) (sym same) there)
    (ap (λ (r : Rows). (obj r i).plugged) same ∙ is)

-- ---- who gets its Plug is
abbrev plugs_it : ℕ → LinkEvent → ℕ → Bool
plugs_it i PlugComes j = i == j
plugs_it i OwnComes j = false
plugs_it i IsTold j = false
plugs_it i TermComes j = false
plugs_it i AsksOver j = false
plugs_it i RequestComes j = false
plugs_it i ReapComes j = false
plugs_it i AckComes j = false
plugs_it i RootAsked j = false
plugs_it i StopPut j = false
plugs_it i StopComes j = false
plugs_it i AsksForLink j = false
plugs_it i AsksForLinger j = false

abbrev plugs_at : ℕ → Move → Bool
plugs_at i (LinkMoves j event) = plugs_it i event j
plugs_at i (EndMoves e event) = false
plugs_at i (ObjectEnds j) = false
plugs_at i (ObjectMade row) = false
plugs_at i (PairDrawn a b) = false
plugs_at i (LetterPut to word) = false

lead_plugs : (ms : List Move) (s : Rows) (boxes : ℕ → List Letter) (d : Control) (i : ℕ) → Leads ms s boxes d → i < length s.objects → list_any (plugs_at i) ms ≡ true → (obj d.rows i).plugged ≡ true
lead_plugs [] s boxes d i h there is = absurd (never is)
lead_plugs (m ∷ ms) s boxes d i h there is = by (plugs_at i m) refl is (lead_plugs ms (move_rows m s) (move_boxes m s boxes) d i h.1 stays)
  where
    stays : i < length (move_rows m s).objects
    stays = (move_stays m s i h.0 there).there

    at_link : (event : LinkEvent) (j : ℕ) → link_may event (obj s j) ≡ true → plugs_it i event j ≡ true → (obj (move_rows (LinkMoves j event) s) i).plugged ≡ true
    at_link PlugComes j may h =
        let same = eqb-true i j h in
        elim (written s.objects (link_after PlugComes (obj s j)) nobody j i (link_there s j PlugComes may)) [
          | is_here here row ↦ ap (λ (o : Row). o.plugged) row
          | is_elsewhere row ↦ ap (λ (n : ℕ). (obj (move_rows (LinkMoves j PlugComes) s) n).plugged) same
              ∙ ap (λ (o : Row). o.plugged) (get_or-set_same s.objects j (link_after PlugComes (obj s j)) nobody (link_there s j PlugComes may))
        ]
    at_link OwnComes j may h = absurd (never h)
    at_link IsTold j may h = absurd (never h)
    at_link TermComes j may h = absurd (never h)
    at_link AsksOver j may h = absurd (never h)
    at_link RequestComes j may h = absurd (never h)
    at_link ReapComes j may h = absurd (never h)
    at_link AckComes j may h = absurd (never h)
    at_link RootAsked j may h = absurd (never h)
    at_link StopPut j may h = absurd (never h)
    at_link StopComes j may h = absurd (never h)
    at_link AsksForLink j may h = absurd (never h)
    at_link AsksForLinger j may h = absurd (never h)

    now : (m : Move) → MayMove m s → plugs_at i m ≡ true → (obj (move_rows m s) i).plugged ≡ true
    now (LinkMoves j event) may h = at_link event j may h
    now (EndMoves e event) may h = absurd (never h)
    now (ObjectEnds j) may h = absurd (never h)
    now (ObjectMade row) may h = absurd (never h)
    now (PairDrawn a b) may h = absurd (never h)
    now (LetterPut to word) may h = absurd (never h)

    by : (b : Bool) → plugs_at i m ≡ b → (b || list_any (plugs_at i) ms) ≡ true → (list_any (plugs_at i) ms ≡ true → (obj d.rows i).plugged ≡ true) → (obj d.rows i).plugged ≡ true
    by true e t rest = lead_plugged ms (move_rows m s) (move_boxes m s boxes) d i h.1 stays (now m h.0 e)
    by false e t rest = rest t

or_false : (b : Bool) → (b || false) ≡ b
or_false true = refl
or_false false = refl

of_named : (i : ℕ) (ms : List Move) → list_any (plugs_at i) (filter is_named ms) ≡ true → list_any (plugs_at i) ms ≡ true
of_named i [] h = h
of_named i (m ∷ ms) h = by (is_named m) h (of_named i ms)
  where
    by : (b : Bool) → list_any (plugs_at i) (cond b (m ∷ filter is_named ms) (filter is_named ms)) ≡ true → (list_any (plugs_at i) (filter is_named ms) ≡ true → list_any (plugs_at i) ms ≡ true) → (plugs_at i m || list_any (plugs_at i) ms) ≡ true
    by true t rest = first (plugs_at i m) t
      where
        first : (a : Bool) → (a || list_any (plugs_at i) (filter is_named ms)) ≡ true → (a || list_any (plugs_at i) ms) ≡ true
        first true x = refl
        first false x = rest x
    by false t rest = later (plugs_at i m) (rest t)
      where
        later : (a : Bool) → list_any (plugs_at i) ms ≡ true → (a || list_any (plugs_at i) ms) ≡ true
        later true x = refl
        later false x = x

word_plugs : (to : ℕ) (end : Option EndId) → list_any (plugs_at to) (word_moves to (Plug end)) ≡ true
word_plugs to None = ap (λ (b : Bool). b || false) (eq-eqb to to refl)
word_plugs to (Some e) = ap (λ (b : Bool). b || false) (eq-eqb to to refl)

module _ {N S : Type 0} (c : Control) (kept : Kept c) where
  plug_plugs : (slot : SlotId) (to : ObjId) (end : Option EndId) (h : Answered N S) → Fits c (Delivered slot (record { to = to; word = Plug end }) h) → to.0 < next_object c → (obj (after (Delivered slot (record { to = to; word = Plug end }) h) c).rows to.0).plugged ≡ true
  plug_plugs slot to end h fits there =
      let did : Did N S = Delivered slot (record { to = to; word = Plug end }) h in
      let g = event_goes c did kept fits in
      let same = taken_rows did c in
      lead_plugs g.moves (having_taken did c).rows (having_taken did c).boxes (after did c) to.0 g.leads (subst (λ (r : Rows). to.0 < length r.objects) (sym same) there)
      (of_named to.0 g.moves (ap (list_any (plugs_at to.0)) g.own_are ∙ word_plugs to.0 end))

-- an object is there, and was taken in
pub record IsIn (c : Control) (i : ℕ) : Type 0 where
  pub there : i < next_object c
  pub plugged : (obj c.rows i).plugged ≡ true

pushed_plugged : (c : Control) (i : ℕ) (row : Row) (d : Control) → d.rows.objects ≡ c.rows.objects ++ row ∷ [] → row.plugged ≡ true → next_object c ≡ i → (obj d.rows i).plugged ≡ true
pushed_plugged c i row d rows is at = ap (λ (os : List Row). (slice_index_or os i nobody).plugged) rows ∙ ap (λ (o : Row). o.plugged) (get_or_push c.rows.objects row nobody i at) ∙ is

module _ {N S : Type 0} (c : Control) (kept : Kept c) (serve : SocketsServe c.rows c.boxes) (i : ℕ) where
  made_plugged : (req : Req) (reply : Reply) (h : Answered N S) → Fits c (Asked req reply h) → taken_by_request req reply ≡ Some i → (obj (after (Asked req reply h) c).rows i).plugged ≡ true
  made_plugged (MakeSocket kind options) reply h fits e = by reply e (made_new (next_object c) _ _ i (ap made_by (sym fits.may.1) ∙ e))
    where
      by : (reply : Reply) → made_by reply ≡ Some i → next_object c ≡ i → (obj (after (Asked (MakeSocket kind options) reply h) c).rows i).plugged ≡ true
      by Done e at = absurd (none_some e)
      by (Object o) e at = pushed_plugged c i (socket_row kind options c) (after (Asked (MakeSocket kind options) (Object o) h) c) refl refl at
      by (Pair p) e at = absurd (none_some e)
      by (Both o p) e at = pushed_plugged c i (socket_row kind options c) (after (Asked (MakeSocket kind options) (Both o p) h) c) refl refl at
      by Wait e at = absurd (none_some e)
      by WasAsked e at = absurd (none_some e)
      by Before e at = absurd (none_some e)
      by (Refused refusal) e at = absurd (none_some e)
  made_plugged AskTerm reply h fits e = absurd (none_some e)
  made_plugged (Bind o at) reply h fits e = absurd (none_some e)
  made_plugged (Connect o at) reply h fits e = absurd (none_some e)
  made_plugged (Unbind o at) reply h fits e = absurd (none_some e)
  made_plugged (Disconnect o at) reply h fits e = absurd (none_some e)
  made_plugged (Close o) reply h fits e = absurd (none_some e)
  made_plugged (Accepted o) reply h fits e = by reply e (both_new (next_object c) (next_pair c) _ i (ap made_by (sym fits.may.1) ∙ e))
    where
      by : (reply : Reply) → made_by reply ≡ Some i → next_object c ≡ i → (obj (after (Asked (Accepted o) reply h) c).rows i).plugged ≡ true
      by Done e at = absurd (none_some e)
      by (Object p) e at = pushed_plugged c i (accepted_row o.0 c) (after (Asked (Accepted o) (Object p) h) c) refl refl at
      by (Pair p) e at = absurd (none_some e)
      by (Both p q) e at = pushed_plugged c i (accepted_row o.0 c) (after (Asked (Accepted o) (Both p q) h) c) refl refl at
      by Wait e at = absurd (none_some e)
      by WasAsked e at = absurd (none_some e)
      by Before e at = absurd (none_some e)
      by (Refused refusal) e at = absurd (none_some e)
  made_plugged (Shaken o peer) reply h fits e = absurd (none_some e)
  made_plugged (AskEnd d reason) reply h fits e = absurd (none_some e)
  made_plugged (AskOver o) reply h fits e = absurd (none_some e)
  made_plugged (OutputOver o) reply h fits e = absurd (none_some e)

  word_plugged : (slot : SlotId) (to : ObjId) (word : Word) (h : Answered N S) → Fits c (Delivered slot (record { to = to; word = word }) h) → taken_by_word to.0 word ≡ Some i → (obj (after (Delivered slot (record { to = to; word = word }) h) c).rows i).plugged ≡ true
  word_plugged slot to (Own child) h fits e = absurd (none_some e)
  word_plugged slot to (Plug end) h fits e =
      let there = placed (λ (o : Row). has_ended o.stage) c.rows.objects nobody to.0 refl (oldest_lives c kept slot.0 to.0 (Plug end) fits.may.behind fits.may.oldest).1 in
      ap (λ (n : ℕ). (obj (after (Delivered slot (record { to = to; word = Plug end }) h) c).rows n).plugged) (sym (some_is e)) ∙ plug_plugs c kept slot to end h fits there
  word_plugged slot to (TermReq child) h fits e = absurd (none_some e)
  word_plugged slot to Term h fits e = absurd (none_some e)
  word_plugged slot to (TermAck child) h fits e = absurd (none_some e)
  word_plugged slot to (PipeBind end peer) h fits e = absurd (none_some e)
  word_plugged slot to (PipeTerm end) h fits e = absurd (none_some e)
  word_plugged slot to (PipeTermAck end) h fits e = absurd (none_some e)
  word_plugged slot to Stop h fits e = absurd (none_some e)
  word_plugged slot to (Reap socket) h fits e =
      let comes = may_come c kept slot.0 fits.may.behind to.0 (Reap socket) fits.may.oldest in
      let there = link_there c.rows socket.0 ReapComes comes.comes in
      let is = right (is_alive (obj c.rows socket.0).stage) _ (right (is_coming (obj c.rows socket.0).request) _ comes.comes) in
      ap (λ (n : ℕ). (obj (after (Delivered slot (record { to = to; word = Reap socket }) h) c).rows n).plugged) (sym (some_is e))
      ∙ event_plugged c (Delivered slot (record { to = to; word = Reap socket }) h) kept fits socket.0 there (serve.plugged socket.0 is)

  taken_plugged : (did : Did N S) → Fits c did → taken_in did ≡ Some i → (obj (after did c).rows i).plugged ≡ true
  taken_plugged (Asked req reply h) fits e = made_plugged req reply h fits e
  taken_plugged (Delivered slot letter h) fits e = word_plugged slot letter.to letter.word h fits e
  taken_plugged (Delimited d h) fits e = absurd (none_some e)

  then_plugged : (did : Did N S) (b : ℕ) (had : Option ℕ) → Fits c did → ((k : ℕ) → had ≡ Some k → IsIn c i) → (k : ℕ) → has_then i (Event (record { by = b; did = did })) had ≡ Some k → IsIn (after did c) i
  then_plugged did b had fits so k e = by (is_owner i (taken_in did)) refl
    where
      rest : (g : Bool) → (if g then None else had) ≡ Some k → IsIn (after did c) i
      rest true x = absurd (none_some x)
      rest false x = (let was = so k x in record { there = event_there c did kept fits i was.there; plugged = event_plugged c did kept fits i was.there was.plugged })

      by : (t : Bool) → is_owner i (taken_in did) ≡ t → IsIn (after did c) i
      by true t = record { there = taken_there c kept i did fits (owned_by i (taken_in did) t); plugged = taken_plugged did fits (owned_by i (taken_in did) t) }
      by false t = rest (is_owner i (given_up did)) (sym (ap (λ (x : Bool). if x then Some b else (if is_owner i (given_up did) then None else had)) t) ∙ e)

module _ {N S : Type 0} (i : ℕ) where
  has_plugged : (items : List (Item N S)) (c : Control) (had : Option ℕ) → Kept c → SocketsServe c.rows c.boxes → IsControlRun c items → ((k : ℕ) → had ≡ Some k → IsIn c i) → (k : ℕ) → has_over i had items ≡ Some k → IsIn (after_all items c) i
  has_plugged [] c had kept serve run so k e = so k e
  has_plugged (Event entry ∷ items) c had kept serve run so k e =
      has_plugged items (after entry.did c) (has_then i (Event entry) had) (after_kept c entry.did kept run.0) (serve_after c entry.did kept run.0 serve) run.1 (then_plugged c kept serve i entry.did entry.by had run.0 so) k e
  has_plugged (Seen sight ∷ items) c had kept serve run so k e = has_plugged items c had kept serve run.1 so k e

-- who is had was taken in
pub had_are_in : {N S : Type 0} (workers : ℕ) (items : List (Item N S)) → IsControlRun (begun workers) items → (i k : ℕ) → has_after i items ≡ Some k → IsIn (after_all items (begun workers)) i
had_are_in {N} {S} workers items run i k e = has_plugged i items (begun workers) None (begun_kept workers) (serves_run workers (let items : List (Item N S) = [] in items) tt).sockets run (λ j x. absurd (none_some x)) k e

-- ---- an object that comes with its Plug is taken in
fulfil_plugs : (i : ℕ) (c : Control) (o k : ℕ) (ws : List Waiting) → list_any (plugs_at i) (fulfil_moves c o k ws) ≡ false
fulfil_plugs i c o k [] = refl
fulfil_plugs i c o k (w ∷ ws) = fulfil_plugs i c o (k + 1) ws

connect_plugs : (i : ℕ) (c : Control) (o : ℕ) (held : Option Binding) → list_any (plugs_at i) (connect_moves c o held) ≡ false
connect_plugs i c o None = refl
connect_plugs i c o (Some binding) = refl

request_plugs : (i : ℕ) (c : Control) (req : Req) → list_any (plugs_at i) (request_moves c req) ≡ false
request_plugs i c (MakeSocket kind options) = refl
request_plugs i c AskTerm = refl
request_plugs i c (Bind o (Inproc name)) = fulfil_plugs i c o.0 (next_pair c) (fulfilled_by (Inproc name) (binding_by o.0 c) c.names)
request_plugs i c (Bind o (Tcp address)) = refl
request_plugs i c (Connect o (Inproc name)) = connect_plugs i c o.0 (c.names.held (Inproc name))
request_plugs i c (Connect o (Tcp address)) = refl
request_plugs i c (Unbind o at) = refl
request_plugs i c (Disconnect o at) = refl
request_plugs i c (Close o) = refl
request_plugs i c (Accepted o) = refl
request_plugs i c (Shaken o peer) = refl
request_plugs i c (AskEnd d Closed) = refl
request_plugs i c (AskEnd d BadId) = refl
request_plugs i c (AskEnd d Second) = refl
request_plugs i c (AskEnd d Linger) = refl
request_plugs i c (AskEnd d Link) = refl
request_plugs i c (AskOver o) = refl
request_plugs i c (OutputOver o) = refl

asked_plugs : (i : ℕ) (c : Control) (req : Req) (reply : Reply) → list_any (plugs_at i) (unless_refused reply (request_moves c req)) ≡ false
asked_plugs i c req Done = request_plugs i c req
asked_plugs i c req (Object o) = request_plugs i c req
asked_plugs i c req (Pair p) = request_plugs i c req
asked_plugs i c req (Both o p) = request_plugs i c req
asked_plugs i c req Wait = request_plugs i c req
asked_plugs i c req WasAsked = request_plugs i c req
asked_plugs i c req Before = refl
asked_plugs i c req (Refused refusal) = refl

word_takes : (i to : ℕ) (word : Word) → list_any (plugs_at i) (word_moves to word) ≡ true → taken_by_word to word ≡ Some i
word_takes i to (Own child) any = absurd (never any)
word_takes i to (Plug None) any = ap (λ (n : ℕ). Some n) (sym (eqb-true i to (sym (or_false (i == to)) ∙ any)))
word_takes i to (Plug (Some e)) any = ap (λ (n : ℕ). Some n) (sym (eqb-true i to (sym (or_false (i == to)) ∙ any)))
word_takes i to (TermReq child) any = absurd (never any)
word_takes i to Term any = absurd (never any)
word_takes i to (TermAck child) any = absurd (never any)
word_takes i to (PipeBind end peer) any = absurd (never any)
word_takes i to (PipeTerm end) any = absurd (never any)
word_takes i to (PipeTermAck end) any = absurd (never any)
word_takes i to Stop any = absurd (never any)
word_takes i to (Reap socket) any = absurd (never any)

plug_takes : {N S : Type 0} (c : Control) (did : Did N S) (i : ℕ) → list_any (plugs_at i) (own_moves c did) ≡ true → taken_in did ≡ Some i
plug_takes c (Asked req reply h) i any = absurd (never (sym (asked_plugs i c req reply) ∙ any))
plug_takes c (Delivered slot letter h) i any = word_takes i letter.to.0 letter.word any
plug_takes c (Delimited e h) i any = absurd (never any)

-- a Plug is a move of its own, and nothing else takes an object in
plug_named : (i : ℕ) (m : Move) → is_named m ≡ false → plugs_at i m ≡ false
plug_named i (LinkMoves j event) none = of event none
  where
    of : (event : LinkEvent) → is_named_link event ≡ false → plugs_it i event j ≡ false
    of PlugComes h = absurd (never (sym h))
    of OwnComes h = refl
    of IsTold h = refl
    of TermComes h = refl
    of AsksOver h = refl
    of RequestComes h = refl
    of ReapComes h = refl
    of AckComes h = refl
    of RootAsked h = refl
    of StopPut h = refl
    of StopComes h = refl
    of AsksForLink h = refl
    of AsksForLinger h = refl
plug_named i (EndMoves e event) none = refl
plug_named i (ObjectEnds j) none = refl
plug_named i (ObjectMade row) none = refl
plug_named i (PairDrawn a b) none = refl
plug_named i (LetterPut to word) none = refl

unplugged_linked : (event : LinkEvent) (o : Row) (i : ℕ) → link_may event o ≡ true → plugs_at i (LinkMoves i event) ≡ false → (link_after event o).plugged ≡ o.plugged
unplugged_linked PlugComes o i may free = absurd (never (sym free ∙ eq-eqb i i refl))
unplugged_linked OwnComes o i may free = refl
unplugged_linked IsTold o i may free = refl
unplugged_linked TermComes o i may free = refl
unplugged_linked AsksOver o i may free = refl
unplugged_linked RequestComes o i may free = refl
unplugged_linked ReapComes o i may free = refl
unplugged_linked AckComes o i may free = refl
unplugged_linked RootAsked o i may free = refl
unplugged_linked StopPut o i may free = refl
unplugged_linked StopComes o i may free = refl
unplugged_linked AsksForLink o i may free = refl
unplugged_linked AsksForLinger o i may free = refl

moved : {N S : Type 0} (c : Control) (did : Did N S) → Kept c → Fits c did → (i : ℕ) → (obj c.rows i).plugged ≡ false → (obj (after did c).rows i).plugged ≡ true → list_any (plugs_at i) (own_moves c did) ≡ true
moved c did kept fits i was now = by (list_any (plugs_at i) (own_moves c did)) refl
  where
    there : i < next_object c
    there = placed (λ (o : Row). o.plugged) c.rows.objects nobody i refl was

    by : (b : Bool) → list_any (plugs_at i) (own_moves c did) ≡ b → b ≡ true
    by true any = refl
    by false none = absurd (never (sym was ∙ sym (event_row (λ (o : Row). o.plugged) plugs_at unplugged_linked (λ o. refl) plug_named c did kept fits i there none) ∙ now))

pub comes_with_plug : {N S : Type 0} (c : Control) (did : Did N S) → Kept c → Fits c did → (i : ℕ) → (obj c.rows i).plugged ≡ false → (obj (after did c).rows i).plugged ≡ true → taken_in did ≡ Some i
comes_with_plug c did kept fits i was now = plug_takes c did i (moved c did kept fits i was now)

-- it came by a Plug
pub by_plug : {N S : Type 0} {X : Type 0} (c : Control) (did : Did N S) → Kept c → Fits c did → (i : ℕ) → (obj c.rows i).plugged ≡ false → (obj (after did c).rows i).plugged ≡ true
    → ((slot : SlotId) (to : ObjId) (end : Option EndId) (h : Answered N S) → did ≡ Delivered slot (record { to = to; word = Plug end }) h → X) → X
by_plug {N} {S} {X} c did kept fits i was now f = of did (moved c did kept fits i was now) f
  where
    word : (slot : SlotId) (to : ObjId) (word : Word) (h : Answered N S) → list_any (plugs_at i) (word_moves to.0 word) ≡ true
        → ((s : SlotId) (t : ObjId) (end : Option EndId) (a : Answered N S) → Delivered slot (record { to = to; word = word }) h ≡ Delivered s (record { to = t; word = Plug end }) a → X) → X
    word slot to (Own child) h any g = absurd (never any)
    word slot to (Plug end) h any g = g slot to end h refl
    word slot to (TermReq child) h any g = absurd (never any)
    word slot to Term h any g = absurd (never any)
    word slot to (TermAck child) h any g = absurd (never any)
    word slot to (PipeBind e peer) h any g = absurd (never any)
    word slot to (PipeTerm e) h any g = absurd (never any)
    word slot to (PipeTermAck e) h any g = absurd (never any)
    word slot to Stop h any g = absurd (never any)
    word slot to (Reap socket) h any g = absurd (never any)

    of : (did : Did N S) → list_any (plugs_at i) (own_moves c did) ≡ true → ((slot : SlotId) (to : ObjId) (end : Option EndId) (h : Answered N S) → did ≡ Delivered slot (record { to = to; word = Plug end }) h → X) → X
    of (Asked req reply h) any g = absurd (never (sym (asked_plugs i c req reply) ∙ any))
    of (Delivered slot letter h) any g = word slot letter.to letter.word h any g
    of (Delimited e h) any g = absurd (never any)
