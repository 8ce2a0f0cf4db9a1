-- An item of an open socket puts no end on its way whose pair was there before, and names no pipe of it.
use Rattle.std.specs.Prelude.{◌≡◌, ◌≤◌, ◌<◌, ◌+◌, ◌==◌, ◌&&◌, ◌||◌, ◌∷◌, [], ℕ, Bool, true, false, cond, if◌then◌else◌, List, None, Option, Some, map, sum_by, refl}
use Rattle.std.specs.List.{list_any}
use Rattle.std.proofs.Common.{arith, sym, ap, ◌∙◌}
use Rattle.std.proofs.lemmas.Bool.{eq-eqb, ne_eqb}
use Rattle.std.proofs.lemmas.List.Sums.{sum_by-append}
use Rattle.zq_base.specs.declared.endpoint.Endpoint.TheVariants.{Inproc, Tcp}
use Rattle.zq_base.specs.declared.ids.EndId.{EndId}
use Rattle.spec_control.specs.declared.book.Binding.{Binding}
use Rattle.spec_control.specs.declared.book.Waiting.{Waiting}
use Rattle.spec_control.specs.declared.end.Reason.{Reason}
use Rattle.spec_control.specs.declared.end.Reason.TheVariants.{Closed, BadId, Second, Linger, Link}
use Rattle.spec_control.specs.declared.entry.Answered.{Answered}
use Rattle.spec_control.specs.declared.entry.Did.{Did}
use Rattle.spec_control.specs.declared.entry.Did.TheVariants.{Asked, Delivered, Delimited}
use Rattle.spec_control.specs.declared.entry.Item.{Item}
use Rattle.spec_control.specs.declared.entry.Item.TheVariants.{Event, Seen}
use Rattle.spec_control.specs.declared.entry.PipeName.{PipeName}
use Rattle.spec_control.specs.declared.object.ObjKind.{ObjKind}
use Rattle.spec_control.specs.declared.object.ObjKind.TheVariants.{Root, Socket, Listener, Session}
use Rattle.spec_control.specs.declared.request.Req.{Req}
use Rattle.spec_control.specs.declared.request.Req.TheVariants.{Socket as MakeSocket, AskTerm, Bind, Connect, Unbind, Disconnect, Close, Accepted, Shaken, AskEnd, AskOver, OutputOver}
use Rattle.spec_control.specs.declared.request.Reply.{Reply}
use Rattle.spec_control.specs.declared.request.Reply.TheVariants.{Done, Object, Pair, Both, Wait, Asked as WasAsked, Before, Refused}
use Rattle.spec_control.specs.Register.{fulfilled_by}
use Rattle.spec_control.specs.Place.{Place, Unmade, Away, At, is_away}
use Rattle.spec_control.specs.PairPhase.{PairEvent, Opens, BindCame, Happens, other_after, place_after}
use Rattle.spec_control.specs.Row.{is_session, is_socket}
use Rattle.spec_control.specs.Rows.{PairRow, Rows, end_owner, end_place, no_pair, obj, pair, pair_after}
use Rattle.spec_control.specs.Control.{Control, end_of, is_end, next_pair, owner_of, same_side}
use Rattle.spec_control.specs.After.{after, binding_by}
use Rattle.spec_control.specs.ControlRun.{Fits, FitsItem, Joins, MayAsk, after_item, all_pipes, bind_joins, connect_joins, request_joins, unless_refused}
use Rattle.spec_control.specs.Names.{name_in, named_in}
use Rattle.control_laws.proofs.ListLemmas.{never, is_here, is_elsewhere, written, is_old, is_new, pushed}
use Rattle.control_laws.proofs.RowLemmas.{pair_there}
use Rattle.control_laws.specs.Kept.{Kept}
use Rattle.control_laws.specs.Move.{Move, LinkMoves, EndMoves, ObjectEnds, ObjectMade, PairDrawn, LetterPut, MayMove, is_named, move_rows}
use Rattle.control_laws.specs.OwnMoves.{connect_moves, fulfil_moves, join_moves, own_moves, reason_moves, request_moves}
use Rattle.control_laws.proofs.EventGoLemmas.{event_goes}
use Rattle.control_laws.proofs.SoundLemmas.{Sound, sound_of}
use Rattle.control_laws.proofs.WeighLemmas.{goes_weigh, sum_of_none}
use Rattle.spec_control.specs.Held.{asker}
use Rattle.socket_laws.specs.Open.{IsOfItem}
use Rattle.control_laws.proofs.AwayLemmas.{away_before, away_in, opening, word_opens}

some_is : {x y : ℕ} → Some x ≡ Some y → x ≡ y
some_is e = Prim.grind arith

-- ---- a socket tells of no handshake
no_session : (k : ObjKind) → is_socket k ≡ true → is_session k ≡ true → ⊥
no_session Root s h = never s
no_session (Socket kind) s h = never h
no_session Listener s h = never s
no_session Session s h = never s

abbrev is_shaken : Req → Bool
is_shaken (MakeSocket kind options) = false
is_shaken AskTerm = false
is_shaken (Bind o at) = false
is_shaken (Connect o at) = false
is_shaken (Unbind o at) = false
is_shaken (Disconnect o at) = false
is_shaken (Close o) = false
is_shaken (Accepted o) = false
is_shaken (Shaken o peer) = true
is_shaken (AskEnd e reason) = false
is_shaken (AskOver o) = false
is_shaken (OutputOver o) = false

not_shaken : (o : ℕ) (c : Control) (req : Req) → MayAsk c req → asker req ≡ Some o → is_socket (obj c.rows o).kind ≡ true → is_shaken req ≡ false
not_shaken o c (MakeSocket kind options) may asks socket = refl
not_shaken o c AskTerm may asks socket = refl
not_shaken o c (Bind x at) may asks socket = refl
not_shaken o c (Connect x at) may asks socket = refl
not_shaken o c (Unbind x at) may asks socket = refl
not_shaken o c (Disconnect x at) may asks socket = refl
not_shaken o c (Close x) may asks socket = refl
not_shaken o c (Accepted x) may asks socket = refl
not_shaken o c (Shaken x peer) may asks socket = absurd (no_session (obj c.rows o).kind socket (ap (λ (n : ℕ). is_session (obj c.rows n).kind) (sym (some_is asks)) ∙ may.session))
not_shaken o c (AskEnd e reason) may asks socket = refl
not_shaken o c (AskOver x) may asks socket = refl
not_shaken o c (OutputOver x) may asks socket = refl

-- ---- the pipes that a request makes
module _ (e : EndId) where
  other_pair : (k : ℕ) (a : Bool) → e.pair.0 < k → is_end e (end_of k a) ≡ false
  other_pair k a less = ap (λ (b : Bool). b && same_side e.a a) (ne_eqb e.pair.0 k (λ is. omega (arith, is, less)))

  -- all are ends of later pairs
  abbrev AreAbove : List Joins → Type 0
  AreAbove [] = Unit {0}
  AreAbove (j ∷ js) = (e.pair.0 < j.end.pair.0) × AreAbove js

  none_among : (js : List Joins) → AreAbove js → list_any (is_end e) (all_pipes js) ≡ false
  none_among [] h = refl
  none_among (j ∷ js) h =
      ap (λ (b : Bool). b || (is_end e (end_of j.end.pair.0 false) || list_any (is_end e) (all_pipes js))) (other_pair j.end.pair.0 true h.0)
      ∙ ap (λ (b : Bool). b || list_any (is_end e) (all_pipes js)) (other_pair j.end.pair.0 false h.0) ∙ none_among js h.1

  binds_above : (c : Control) (k : ℕ) (ws : List Waiting) → e.pair.0 < k → AreAbove (bind_joins c k ws)
  binds_above c k [] h = tt
  binds_above c k (w ∷ ws) h = (h, binds_above c (k + 1) ws (omega (arith, h)))

  connects_above : (c : Control) (held : Option Binding) → e.pair.0 < next_pair c → AreAbove (connect_joins c held)
  connects_above c None h = tt
  connects_above c (Some binding) h = (h, tt)

  joins_above : (c : Control) (req : Req) → is_shaken req ≡ false → e.pair.0 < next_pair c → AreAbove (request_joins c req)
  joins_above c (MakeSocket kind options) plain h = tt
  joins_above c AskTerm plain h = tt
  joins_above c (Bind o (Inproc name)) plain h = binds_above c (next_pair c) (fulfilled_by (Inproc name) (binding_by o.0 c) c.names) h
  joins_above c (Bind o (Tcp address)) plain h = tt
  joins_above c (Connect o (Inproc name)) plain h = connects_above c (c.names.held (Inproc name)) h
  joins_above c (Connect o (Tcp address)) plain h = (h, tt)
  joins_above c (Unbind o at) plain h = tt
  joins_above c (Disconnect o at) plain h = tt
  joins_above c (Close o) plain h = tt
  joins_above c (Accepted o) plain h = tt
  joins_above c (Shaken o peer) plain h = absurd (never (sym plain))
  joins_above c (AskEnd d reason) plain h = tt
  joins_above c (AskOver o) plain h = tt
  joins_above c (OutputOver o) plain h = tt

  unless_above : (reply : Reply) (js : List Joins) → AreAbove js → AreAbove (unless_refused reply js)
  unless_above Done js h = h
  unless_above (Object o) js h = h
  unless_above (Pair p) js h = h
  unless_above (Both o p) js h = h
  unless_above Wait js h = h
  unless_above WasAsked js h = h
  unless_above Before js h = tt
  unless_above (Refused refusal) js h = tt

  unnamed : {N : Type 0} (ns : List (PipeName N)) → list_any (is_end e) (map (λ n. n.pipe) ns) ≡ false → name_in e ns ≡ None
  unnamed [] h = refl
  unnamed {N} (n ∷ ns) h = by (is_end e n.pipe) (list_any (is_end e) (map (λ (x : PipeName N). x.pipe) ns)) (unnamed ns) h
    where
      by : (a b : Bool) → (b ≡ false → name_in e ns ≡ None) → (a || b) ≡ false → (if a then Some n.name else name_in e ns) ≡ None
      by true b f is = absurd (never (sym is))
      by false b f is = f is

  -- no pipe of a pair that was there is named in an item of a socket
  did_unnamed : {N S : Type 0} (o : ℕ) (c : Control) (did : Did N S) (by : ℕ) → is_socket (obj c.rows o).kind ≡ true → Fits c did → IsOfItem o c (Event (record { by = by; did = did })) → e.pair.0 < next_pair c → name_in e (named_in (let item : Item N S = Event (record { by = by; did = did }) in item)) ≡ None
  did_unnamed o c (Asked req reply h) by socket fits of less =
      unnamed h.opened (ap (list_any (is_end e)) fits.answered.opened ∙ none_among (unless_refused reply (request_joins c req)) (unless_above reply (request_joins c req) (joins_above c req (not_shaken o c req fits.may.0 of socket) less)))
  did_unnamed o c (Delivered slot letter h) by socket fits of less = unnamed h.opened (ap (list_any (is_end e)) fits.answered.opened)
  did_unnamed o c (Delimited d h) by socket fits of less = unnamed h.opened (ap (list_any (is_end e)) fits.answered.opened)

  pub item_unnamed : {N S : Type 0} (o : ℕ) (c : Control) (item : Item N S) → is_socket (obj c.rows o).kind ≡ true → FitsItem c item → IsOfItem o c item → e.pair.0 < next_pair c → name_in e (named_in item) ≡ None
  item_unnamed o c (Event entry) socket fits of less = did_unnamed o c entry.did entry.by socket fits of less
  item_unnamed o c (Seen sight) socket fits of less = refl

-- ---- the ends that it puts on their way
at_most : (b : Bool) → cond b 1 0 ≤ 1
at_most true = omega arith
at_most false = omega arith

less_at : (new old : Bool) → new ≡ true → cond new 1 0 ≤ cond old 1 0 → old ≡ true
less_at new true h less = refl
less_at true false h less = absurd (omega (arith, less))
less_at false false h less = h

cond_none : (b : Bool) → ◌≡◌ {A = ℕ} (cond b 0 0) 0
cond_none true = refl
cond_none false = refl

mine_away : (d : EndId) (event : PairEvent) (place : Place) (b : Bool) → cond (is_away (place_after event place) && b) 1 0 ≤ cond (is_away place && b) 1 0 + opening (EndMoves d event)
mine_away d Opens place b = omega arith
mine_away d BindCame place b = omega arith
mine_away d (Happens event) Unmade b = omega arith
mine_away d (Happens event) Away b = omega arith
mine_away d (Happens event) (At state) b = omega arith

theirs_away : (d : EndId) (event : PairEvent) (place : Place) (b : Bool) → cond (is_away (other_after event place) && b) 1 0 ≤ cond (is_away place && b) 1 0 + opening (EndMoves d event)
theirs_away d Opens place b = (let most = at_most b in omega (arith, most))
theirs_away d BindCame place b = omega arith
theirs_away d (Happens event) place b = omega arith

after_away : (d : EndId) (event : PairEvent) (a x : Bool) (n : ℕ) (p : PairRow) →
    cond (is_away (end_place (pair_after event a p) x) && end_owner (pair_after event a p) x == n) 1 0 ≤ cond (is_away (end_place p x) && end_owner p x == n) 1 0 + opening (EndMoves d event)
after_away d event true true n p = mine_away d event p.a (p.a_owner == n)
after_away d event true false n p = theirs_away d event p.b (p.b_owner == n)
after_away d event false true n p = theirs_away d event p.a (p.a_owner == n)
after_away d event false false n p = mine_away d event p.b (p.b_owner == n)

drawn_away : (p : PairRow) (x : Bool) (n : ℕ) → p.a ≡ Unmade → p.b ≡ Unmade → (is_away (end_place p x) && end_owner p x == n) ≡ false
drawn_away p true n a b = ap (λ (place : Place). is_away place && p.a_owner == n) a
drawn_away p false n a b = ap (λ (place : Place). is_away place && p.b_owner == n) b

module _ (e : EndId) (n : ℕ) where
  abbrev away_to : Rows → ℕ
  away_to s = cond (away_in e n (pair s e.pair.0)) 1 0

  -- 1 where a move makes this pair
  abbrev opens_it : Move → ℕ
  opens_it (LinkMoves i event) = 0
  opens_it (EndMoves d event) = cond (d.pair.0 == e.pair.0) (opening (EndMoves d event)) 0
  opens_it (ObjectEnds i) = 0
  opens_it (ObjectMade row) = 0
  opens_it (PairDrawn a b) = 0
  opens_it (LetterPut to word) = 0

  opens_free : (m : Move) → is_named m ≡ false → opens_it m ≡ 0
  opens_free (LinkMoves i event) h = refl
  opens_free (EndMoves d Opens) h = absurd (never (sym h))
  opens_free (EndMoves d BindCame) h = cond_none (d.pair.0 == e.pair.0)
  opens_free (EndMoves d (Happens event)) h = cond_none (d.pair.0 == e.pair.0)
  opens_free (ObjectEnds i) h = refl
  opens_free (ObjectMade row) h = refl
  opens_free (PairDrawn a b) h = refl
  opens_free (LetterPut to word) h = refl

  away_step : (m : Move) (s : Rows) → Sound s → MayMove m s → away_to (move_rows m s) + 0 ≤ away_to s + opens_it m
  away_step (LinkMoves i event) s sound may_so = omega arith
  away_step (EndMoves d event) s sound may_so =
      let now = pair_after event d.a (pair s d.pair.0) in
      elim (written s.pairs now no_pair d.pair.0 e.pair.0 (pair_there s d.pair.0 d.a event may_so.comes)) [
        | is_here here same ↦
            let new = ap {B = ℕ} (λ (p : PairRow). cond (away_in e n p) 1 0) same in
            let was = ap {B = ℕ} (λ (k : ℕ). cond (away_in e n (pair s k)) 1 0) here in
            let less = after_away d event d.a e.a n (pair s d.pair.0) in
            let it = ap {B = ℕ} (λ (b : Bool). cond b (opening (EndMoves d event)) 0) (eq-eqb d.pair.0 e.pair.0 (sym here)) in
            omega (arith, new, was, less, it)
        | is_elsewhere same ↦ let new = ap {B = ℕ} (λ (p : PairRow). cond (away_in e n p) 1 0) same in omega (arith, new)
      ]
  away_step (ObjectEnds i) s sound may_so = omega arith
  away_step (ObjectMade row) s sound may_so = omega arith
  away_step (PairDrawn a b) s sound may_so =
      elim (pushed s.pairs (record { a_owner = a; b_owner = b; a = Unmade; b = Unmade }) no_pair e.pair.0) [
        | is_old same ↦ let new = ap {B = ℕ} (λ (p : PairRow). cond (away_in e n p) 1 0) same in omega (arith, new)
        | is_new last same was ↦
            let new = ap {B = ℕ} (λ (p : PairRow). cond (away_in e n p) 1 0) same in
            let none = ap {B = ℕ} (λ (x : Bool). cond x 1 0) (drawn_away (record { a_owner = a; b_owner = b; a = Unmade; b = Unmade }) e.a n refl refl) in
            omega (arith, new, none)
      ]
  away_step (LetterPut to word) s sound may_so = omega arith

  -- ---- no request of a socket makes a pair that was there
  later_none : (k : ℕ) (a : Bool) → e.pair.0 < k → opens_it (EndMoves (end_of k a) Opens) ≡ 0
  later_none k a less = ap {B = ℕ} (λ (b : Bool). cond b 1 0) (ne_eqb k e.pair.0 (λ is. omega (arith, is, less)))

  join_none : (c : Control) (k a b : ℕ) (a_first : Bool) → e.pair.0 < k → sum_by opens_it (join_moves c k a b a_first) ≡ 0
  join_none c k a b a_first less =
      let all : sum_by opens_it (join_moves c k a b a_first) ≡ 0 + 0 + opens_it (EndMoves (end_of k a_first) Opens) + 0 = refl in
      let none = later_none k a_first less in
      omega (arith, all, none)

  fulfil_none : (c : Control) (o k : ℕ) (ws : List Waiting) → e.pair.0 < k → sum_by opens_it (fulfil_moves c o k ws) ≡ 0
  fulfil_none c o k [] less = refl
  fulfil_none c o k (w ∷ ws) less =
      let both = sum_by-append opens_it (join_moves c k w.waiter.0 o false) (fulfil_moves c o (k + 1) ws) in
      let one = join_none c k w.waiter.0 o false less in
      let others = fulfil_none c o (k + 1) ws (omega (arith, less)) in
      omega (arith, both, one, others)

  connect_none : (c : Control) (o : ℕ) (held : Option Binding) → e.pair.0 < next_pair c → sum_by opens_it (connect_moves c o held) ≡ 0
  connect_none c o None less = refl
  connect_none c o (Some binding) less = join_none c (next_pair c) o binding.holder.0 true less

  reason_none : (r : Reason) (j : ℕ) → sum_by opens_it (reason_moves r j) ≡ 0
  reason_none Closed j = refl
  reason_none BadId j = refl
  reason_none Second j = refl
  reason_none Linger j = refl
  reason_none Link j = refl

  request_none : (c : Control) (req : Req) → is_shaken req ≡ false → e.pair.0 < next_pair c → sum_by opens_it (request_moves c req) ≡ 0
  request_none c (MakeSocket kind options) plain less = refl
  request_none c AskTerm plain less = refl
  request_none c (Bind o (Inproc name)) plain less = fulfil_none c o.0 (next_pair c) (fulfilled_by (Inproc name) (binding_by o.0 c) c.names) less
  request_none c (Bind o (Tcp address)) plain less = refl
  request_none c (Connect o (Inproc name)) plain less = connect_none c o.0 (c.names.held (Inproc name)) less
  request_none c (Connect o (Tcp address)) plain less =
      let all : sum_by opens_it (request_moves c (Connect o (Tcp address))) ≡ 0 + 0 + 0 + 0 + opens_it (EndMoves (end_of (next_pair c) true) Opens) + 0 = refl in
      let none = later_none (next_pair c) true less in
      omega (arith, all, none)
  request_none c (Unbind o at) plain less = refl
  request_none c (Disconnect o at) plain less = refl
  request_none c (Close o) plain less = refl
  request_none c (Accepted o) plain less = refl
  request_none c (Shaken o peer) plain less = absurd (never (sym plain))
  request_none c (AskEnd d reason) plain less = reason_none reason (owner_of c d)
  request_none c (AskOver o) plain less = refl
  request_none c (OutputOver o) plain less = refl

  unless_none : (reply : Reply) (ms : List Move) → sum_by opens_it ms ≡ 0 → sum_by opens_it (unless_refused reply ms) ≡ 0
  unless_none Done ms h = h
  unless_none (Object o) ms h = h
  unless_none (Pair p) ms h = h
  unless_none (Both o p) ms h = h
  unless_none Wait ms h = h
  unless_none WasAsked ms h = h
  unless_none Before ms h = refl
  unless_none (Refused refusal) ms h = refl

  asked_away : {N S : Type 0} (c : Control) (req : Req) (reply : Reply) (h : Answered N S) → Kept c → Fits c (Asked req reply h) → is_shaken req ≡ false → e.pair.0 < next_pair c → away_in e n (pair (after (Asked req reply h) c).rows e.pair.0) ≡ true → away_in e n (pair c.rows e.pair.0) ≡ true
  asked_away {N} {S} c req reply h kept fits plain less is =
      let did : Did N S = Asked req reply h in
      let all = goes_weigh away_to (λ m. 0) opens_it opens_free away_step (own_moves c did) c (after did c) (sound_of c kept) (event_goes c did kept fits) in
      let none = sum_of_none (own_moves c did) in
      let free = unless_none reply (request_moves c req) (request_none c req plain less) in
      less_at (away_in e n (pair (after did c).rows e.pair.0)) (away_in e n (pair c.rows e.pair.0)) is (omega (arith, all, none, free))

  -- an end of a pair that was there is put on its way in no item of a socket
  did_away : {N S : Type 0} (o : ℕ) (c : Control) (did : Did N S) → is_socket (obj c.rows o).kind ≡ true → Kept c → Fits c did → (by : ℕ) → IsOfItem o c (Event (record { by = by; did = did })) → e.pair.0 < next_pair c → away_in e n (pair (after did c).rows e.pair.0) ≡ true → away_in e n (pair c.rows e.pair.0) ≡ true
  did_away o c (Asked req reply h) socket kept fits by of less is = asked_away c req reply h kept fits (not_shaken o c req fits.may.0 of socket) less is
  did_away o c (Delivered slot letter h) socket kept fits by of less is = away_before e n c (Delivered slot letter h) kept fits (word_opens letter.to.0 letter.word) is
  did_away o c (Delimited d h) socket kept fits by of less is = away_before e n c (Delimited d h) kept fits refl is

  pub item_away : {N S : Type 0} (o : ℕ) (c : Control) (item : Item N S) → is_socket (obj c.rows o).kind ≡ true → Kept c → FitsItem c item → IsOfItem o c item → e.pair.0 < next_pair c → away_in e n (pair (after_item item c).rows e.pair.0) ≡ true → away_in e n (pair c.rows e.pair.0) ≡ true
  item_away o c (Event entry) socket kept fits of less is = did_away o c entry.did socket kept fits entry.by of less is
  item_away o c (Seen sight) socket kept fits of less is = is
