-- Which ends are on their way to an object behind an event, and that no pair joins an object with itself.
use Rattle.std.specs.Prelude.{◌≡◌, ◌≢◌, ◌≤◌, ◌+◌, ◌==◌, ◌&&◌, ◌||◌, ◌∷◌, [], ℕ, zero, suc, Bool, true, false, cond, not, List, Option, Some, None, filter, sum_by, refl}
use Rattle.std.proofs.Common.{arith, sym, ap, ◌∙◌, subst}
use Rattle.std.proofs.lemmas.Bool.{eq-eqb, eqb-true}
use Rattle.std.proofs.lemmas.List.Sums.{sum_by-append}
use Rattle.zq_base.specs.declared.endpoint.Endpoint.{Endpoint}
use Rattle.zq_base.specs.declared.endpoint.Endpoint.TheVariants.{Inproc, Tcp}
use Rattle.zq_base.specs.declared.ids.EndId.{EndId}
use Rattle.spec_control.specs.declared.book.Binding.{Binding}
use Rattle.spec_control.specs.declared.book.Waiting.{Waiting}
use Rattle.spec_control.specs.declared.end.Reason.{Reason}
use Rattle.spec_control.specs.declared.end.Reason.TheVariants.{Closed, BadId, Second, Linger, Link}
use Rattle.spec_control.specs.declared.entry.Answered.{Answered}
use Rattle.spec_control.specs.declared.entry.Did.{Did}
use Rattle.spec_control.specs.declared.entry.Did.TheVariants.{Asked, Delivered, Delimited}
use Rattle.spec_control.specs.declared.entry.Item.{Item}
use Rattle.spec_control.specs.declared.entry.Item.TheVariants.{Event, Seen}
use Rattle.spec_control.specs.declared.letter.Word.{Word}
use Rattle.spec_control.specs.declared.letter.Word.TheVariants.{Own, Plug, TermReq, Term, TermAck, PipeBind, PipeTerm, PipeTermAck, Stop, Reap}
use Rattle.spec_control.specs.declared.request.Refusal.TheVariants.{Term as BeforeTerm, BadPair, TooMany}
use Rattle.spec_control.specs.declared.request.Req.{Req}
use Rattle.spec_control.specs.declared.request.Req.TheVariants.{Socket as MakeSocket, AskTerm, Bind, Connect, Unbind, Disconnect, Close, Accepted, Shaken, AskEnd, AskOver, OutputOver}
use Rattle.spec_control.specs.declared.request.Reply.{Reply}
use Rattle.spec_control.specs.declared.request.Reply.TheVariants.{Done, Object, Pair, Both, Wait, Asked as WasAsked, Before, Refused}
use Rattle.spec_control.specs.EndpointBook.{is_fulfilled, is_object, waits_for}
use Rattle.spec_control.specs.Place.{Place, Unmade, Away, At, is_away}
use Rattle.spec_control.specs.PairPhase.{PairEvent, Opens, BindCame, Happens, other_after, place_after}
use Rattle.spec_control.specs.Rows.{PairRow, Rows, end_owner, end_place, no_pair, obj, pair, pair_after, root_alone}
use Rattle.spec_control.specs.Control.{Control, begun, id, next_object, next_pair, owner_of}
use Rattle.spec_control.specs.After.{after, binding_by, kind_of, owner_or_root}
use Rattle.spec_control.specs.ControlRun.{Fits, IsControlRun, after_all, unless_refused}
use Rattle.spec_control.specs.Reply.{connect_reply_at, has_pairs, root_asked, unless}
use Rattle.zq_base.specs.Kind.{fits as fits_kind}
use Rattle.control_laws.proofs.ListLemmas.{never, left, right, is_here, is_elsewhere, written, is_old, is_new, pushed}
use Rattle.control_laws.proofs.RowLemmas.{pair_there}
use Rattle.control_laws.specs.Kept.{Kept}
use Rattle.control_laws.proofs.RootLemmas.{begun_kept}
use Rattle.control_laws.proofs.RunLemmas.{after_kept}
use Rattle.control_laws.specs.Move.{Move, LinkMoves, EndMoves, ObjectEnds, ObjectMade, PairDrawn, LetterPut, MayMove, is_named, move_rows}
use Rattle.control_laws.specs.OwnMoves.{connect_moves, fulfil_moves, having_taken, join_moves, own_moves, reason_moves, request_moves, word_moves}
use Rattle.control_laws.proofs.EventGoLemmas.{event_goes}
use Rattle.control_laws.proofs.SoundLemmas.{Sound, socket_there, sound_of}
use Rattle.control_laws.proofs.WeighLemmas.{goes_weigh, sum_of_none, taken_rows}

at_most : (b : Bool) → cond b 1 0 ≤ 1
at_most true = omega arith
at_most false = omega arith

none_at : (b : Bool) → ◌≡◌ {A = ℕ} (cond b 1 0) 0 → b ≡ false
none_at true h = absurd (omega (arith, h))
none_at false h = refl

less_at : (new old : Bool) → new ≡ true → cond new 1 0 ≤ cond old 1 0 → old ≡ true
less_at new true h less = refl
less_at true false h less = absurd (omega (arith, less))
less_at false false h less = h

pub both_not : (x y i : ℕ) → (x ≡ i → y ≡ i → ⊥) → (x == i && y == i) ≡ false
both_not x y i apart = by (x == i) refl (y == i) refl
  where
    by : (a : Bool) → (x == i) ≡ a → (b : Bool) → (y == i) ≡ b → (a && b) ≡ false
    by true e true f = absurd (apart (eqb-true x i e) (eqb-true y i f))
    by true e false f = refl
    by false e b f = refl

-- ---- an end is on its way to an object
abbrev pub away_in : EndId → ℕ → PairRow → Bool
away_in e n p = is_away (end_place p e.a) && end_owner p e.a == n

abbrev away_to : EndId → ℕ → Rows → ℕ
away_to e n s = cond (away_in e n (pair s e.pair.0)) 1 0

-- a pair is made
abbrev opens : PairEvent → ℕ
opens Opens = 1
opens BindCame = 0
opens (Happens event) = 0

abbrev pub opening : Move → ℕ
opening (LinkMoves i event) = 0
opening (EndMoves e event) = opens event
opening (ObjectEnds i) = 0
opening (ObjectMade row) = 0
opening (PairDrawn a b) = 0
opening (LetterPut to word) = 0

opening_free : (m : Move) → is_named m ≡ false → opening m ≡ 0
opening_free (LinkMoves i event) h = refl
opening_free (EndMoves e Opens) h = absurd (never (sym h))
opening_free (EndMoves e BindCame) h = refl
opening_free (EndMoves e (Happens event)) h = refl
opening_free (ObjectEnds i) h = refl
opening_free (ObjectMade row) h = refl
opening_free (PairDrawn a b) h = refl
opening_free (LetterPut to word) h = refl

mine_away : (event : PairEvent) (place : Place) (b : Bool) → cond (is_away (place_after event place) && b) 1 0 ≤ cond (is_away place && b) 1 0 + opens event
mine_away Opens place b = omega arith
mine_away BindCame place b = omega arith
mine_away (Happens event) Unmade b = omega arith
mine_away (Happens event) Away b = omega arith
mine_away (Happens event) (At state) b = omega arith

theirs_away : (event : PairEvent) (place : Place) (b : Bool) → cond (is_away (other_after event place) && b) 1 0 ≤ cond (is_away place && b) 1 0 + opens event
theirs_away Opens place b = (let most = at_most b in omega (arith, most))
theirs_away BindCame place b = omega arith
theirs_away (Happens event) place b = omega arith

after_away : (event : PairEvent) (a x : Bool) (n : ℕ) (p : PairRow) →
    cond (is_away (end_place (pair_after event a p) x) && end_owner (pair_after event a p) x == n) 1 0 ≤ cond (is_away (end_place p x) && end_owner p x == n) 1 0 + opens event
after_away event true true n p = mine_away event p.a (p.a_owner == n)
after_away event true false n p = theirs_away event p.b (p.b_owner == n)
after_away event false true n p = theirs_away event p.a (p.a_owner == n)
after_away event false false n p = mine_away event p.b (p.b_owner == n)

drawn_away : (p : PairRow) (x : Bool) (n : ℕ) → p.a ≡ Unmade → p.b ≡ Unmade → (is_away (end_place p x) && end_owner p x == n) ≡ false
drawn_away p true n a b = ap (λ (place : Place). is_away place && p.a_owner == n) a
drawn_away p false n a b = ap (λ (place : Place). is_away place && p.b_owner == n) b

module _ (e : EndId) (n : ℕ) where
  away_step : (m : Move) (s : Rows) → Sound s → MayMove m s → away_to e n (move_rows m s) + 0 ≤ away_to e n s + opening m
  away_step (LinkMoves i event) s sound may_so = omega arith
  away_step (EndMoves d event) s sound may_so =
      let now = pair_after event d.a (pair s d.pair.0) in
      elim (written s.pairs now no_pair d.pair.0 e.pair.0 (pair_there s d.pair.0 d.a event may_so.comes)) [
        | is_here here same ↦
            let new = ap {B = ℕ} (λ (p : PairRow). cond (away_in e n p) 1 0) same in
            let was = ap {B = ℕ} (λ (k : ℕ). cond (away_in e n (pair s k)) 1 0) here in
            let less = after_away event d.a e.a n (pair s d.pair.0) in
            omega (arith, new, was, less)
        | is_elsewhere same ↦ let new = ap {B = ℕ} (λ (p : PairRow). cond (away_in e n p) 1 0) same in omega (arith, new)
      ]
  away_step (ObjectEnds i) s sound may_so = omega arith
  away_step (ObjectMade row) s sound may_so = omega arith
  away_step (PairDrawn a b) s sound may_so =
      elim (pushed s.pairs (record { a_owner = a; b_owner = b; a = Unmade; b = Unmade }) no_pair e.pair.0) [
        | is_old same ↦ let new = ap {B = ℕ} (λ (p : PairRow). cond (away_in e n p) 1 0) same in omega (arith, new)
        | is_new last same was ↦
            let new = ap {B = ℕ} (λ (p : PairRow). cond (away_in e n p) 1 0) same in
            let none = ap {B = ℕ} (λ (x : Bool). cond x 1 0) (drawn_away (record { a_owner = a; b_owner = b; a = Unmade; b = Unmade }) e.a n refl refl) in
            omega (arith, new, none)
      ]
  away_step (LetterPut to word) s sound may_so = omega arith

  -- an event that makes no pair puts no end on its way
  pub away_before : {N S : Type 0} (c : Control) (did : Did N S) → Kept c → Fits c did → sum_by opening (own_moves c did) ≡ 0 → away_in e n (pair (after did c).rows e.pair.0) ≡ true → away_in e n (pair c.rows e.pair.0) ≡ true
  away_before c did kept fits free is =
      let rows = taken_rows did c in
      let all = goes_weigh (away_to e n) (λ m. 0) opening opening_free away_step (own_moves c did) (having_taken did c) (after did c) (subst Sound (sym rows) (sound_of c kept)) (event_goes c did kept fits) in
      let none = sum_of_none (own_moves c did) in
      let same = ap (away_to e n) rows in
      less_at (away_in e n (pair (after did c).rows e.pair.0)) (away_in e n (pair c.rows e.pair.0)) is (omega (arith, all, none, same, free))

-- no command makes a pair
pub word_opens : (to : ℕ) (word : Word) → sum_by opening (word_moves to word) ≡ 0
word_opens to (Own child) = refl
word_opens to (Plug None) = refl
word_opens to (Plug (Some e)) = refl
word_opens to (TermReq child) = refl
word_opens to Term = refl
word_opens to (TermAck child) = refl
word_opens to (PipeBind e peer) = refl
word_opens to (PipeTerm e) = refl
word_opens to (PipeTermAck e) = refl
word_opens to Stop = refl
word_opens to (Reap socket) = refl

-- ---- a pair is of two objects
abbrev pub joins_self : ℕ → PairRow → Bool
joins_self i p = p.a_owner == i && p.b_owner == i

module _ (k i : ℕ) where
  abbrev self_at : Rows → ℕ
  self_at s = cond (joins_self i (pair s k)) 1 0

  abbrev drawing : Move → ℕ
  drawing (LinkMoves j event) = 0
  drawing (EndMoves e event) = 0
  drawing (ObjectEnds j) = 0
  drawing (ObjectMade row) = 0
  drawing (PairDrawn a b) = cond (a == i && b == i) 1 0
  drawing (LetterPut to word) = 0

  drawing_free : (m : Move) → is_named m ≡ false → drawing m ≡ 0
  drawing_free (LinkMoves j event) h = refl
  drawing_free (EndMoves e event) h = refl
  drawing_free (ObjectEnds j) h = refl
  drawing_free (ObjectMade row) h = refl
  drawing_free (PairDrawn a b) h = absurd (never (sym h))
  drawing_free (LetterPut to word) h = refl

  after_self : (event : PairEvent) (a : Bool) (p : PairRow) → joins_self i (pair_after event a p) ≡ joins_self i p
  after_self event true p = refl
  after_self event false p = refl

  self_step : (m : Move) (s : Rows) → Sound s → MayMove m s → self_at (move_rows m s) + 0 ≤ self_at s + drawing m
  self_step (LinkMoves j event) s sound may_so = omega arith
  self_step (EndMoves d event) s sound may_so =
      let now = pair_after event d.a (pair s d.pair.0) in
      elim (written s.pairs now no_pair d.pair.0 k (pair_there s d.pair.0 d.a event may_so.comes)) [
        | is_here here same ↦
            let new = ap {B = ℕ} (λ (p : PairRow). cond (joins_self i p) 1 0) same in
            let was = ap {B = ℕ} (λ (j : ℕ). cond (joins_self i (pair s j)) 1 0) here in
            let less = ap {B = ℕ} (λ (b : Bool). cond b 1 0) (after_self event d.a (pair s d.pair.0)) in
            omega (arith, new, was, less)
        | is_elsewhere same ↦ let new = ap {B = ℕ} (λ (p : PairRow). cond (joins_self i p) 1 0) same in omega (arith, new)
      ]
  self_step (ObjectEnds j) s sound may_so = omega arith
  self_step (ObjectMade row) s sound may_so = omega arith
  self_step (PairDrawn a b) s sound may_so =
      elim (pushed s.pairs (record { a_owner = a; b_owner = b; a = Unmade; b = Unmade }) no_pair k) [
        | is_old same ↦ let new = ap {B = ℕ} (λ (p : PairRow). cond (joins_self i p) 1 0) same in omega (arith, new)
        | is_new last same was ↦ let new = ap {B = ℕ} (λ (p : PairRow). cond (joins_self i p) 1 0) same in omega (arith, new)
      ]
  self_step (LetterPut to word) s sound may_so = omega arith

  -- ---- no request makes one of an object with itself
  unless_draws : (reply : Reply) (ms : List Move) → sum_by drawing ms ≡ 0 → sum_by drawing (unless_refused reply ms) ≡ 0
  unless_draws Done ms h = h
  unless_draws (Object o) ms h = h
  unless_draws (Pair p) ms h = h
  unless_draws (Both o p) ms h = h
  unless_draws Wait ms h = h
  unless_draws WasAsked ms h = h
  unless_draws Before ms h = refl
  unless_draws (Refused refusal) ms h = refl

  drawn_none : (a b : ℕ) → (a ≡ i → b ≡ i → ⊥) → drawing (PairDrawn a b) ≡ 0
  drawn_none a b apart = ap {B = ℕ} (λ (x : Bool). cond x 1 0) (both_not a b i apart)

  join_none : (c : Control) (n a b : ℕ) (a_first : Bool) → (a ≡ i → b ≡ i → ⊥) → sum_by drawing (join_moves c n a b a_first) ≡ 0
  join_none c n a b a_first apart =
      let all : sum_by drawing (join_moves c n a b a_first) ≡ 0 + drawing (PairDrawn a b) + 0 + 0 = refl in
      let none = drawn_none a b apart in
      omega (arith, all, none)

  fulfil_none : (c : Control) (o n : ℕ) (at : Endpoint) (ws : List Waiting) → sum_by drawing (fulfil_moves c o n (filter (is_fulfilled at (binding_by o c)) ws)) ≡ 0
  fulfil_none c o n at [] = refl
  fulfil_none c o n at (w ∷ ws) = by (is_fulfilled at (binding_by o c) w) refl (λ m. fulfil_none c o m at ws)
    where
      apart : (is_fulfilled at (binding_by o c) w) ≡ true → w.waiter.0 ≡ i → o ≡ i → ⊥
      apart is mine theirs =
          never (sym (ap not (eq-eqb w.waiter.0 o (mine ∙ sym theirs))) ∙ left (not (w.waiter.0 == o)) _ (right (waits_for at w) _ is))

      by : (b : Bool) → is_fulfilled at (binding_by o c) w ≡ b → ((m : ℕ) → sum_by drawing (fulfil_moves c o m (filter (is_fulfilled at (binding_by o c)) ws)) ≡ 0) →
          sum_by drawing (fulfil_moves c o n (cond b (w ∷ filter (is_fulfilled at (binding_by o c)) ws) (filter (is_fulfilled at (binding_by o c)) ws))) ≡ 0
      by true is rest =
          let both = sum_by-append drawing (join_moves c n w.waiter.0 o false) (fulfil_moves c o (n + 1) (filter (is_fulfilled at (binding_by o c)) ws)) in
          let one = join_none c n w.waiter.0 o false (apart is) in
          let others = rest (n + 1) in
          omega (arith, both, one, others)
      by false is rest = rest n

  -- a connect to a name that the socket holds itself is refused
  refused_none : (reply : Reply) (asked own : Bool) (other : Reply) (ms : List Move) → reply ≡ unless asked BeforeTerm (unless own BadPair other) → (own ≡ false → sum_by drawing ms ≡ 0) → sum_by drawing (unless_refused reply ms) ≡ 0
  refused_none reply true own other ms is none = ap (λ (r : Reply). sum_by drawing (unless_refused r ms)) is
  refused_none reply false true other ms is none = ap (λ (r : Reply). sum_by drawing (unless_refused r ms)) is
  refused_none reply false false other ms is none = unless_draws reply ms (none refl)

  connect_none : (c : Control) (o : ℕ) (held : Option Binding) (reply : Reply) → reply ≡ unless (root_asked c) BeforeTerm (connect_reply_at o held c) → sum_by drawing (unless_refused reply (connect_moves c o held)) ≡ 0
  connect_none c o None reply is = unless_draws reply [] refl
  connect_none c o (Some binding) reply is =
      let unfit = not (fits_kind binding.kind (kind_of (obj c.rows o).kind)) in
      refused_none reply (root_asked c) (is_object binding.holder (id o) || unfit) (unless (not (has_pairs 1 c)) TooMany (Pair (record { 0 = next_pair c }))) (connect_moves c o (Some binding)) is
      (λ none. join_none c (next_pair c) o binding.holder.0 true (λ mine theirs. never (sym (first (binding.holder.0 == o) unfit none) ∙ eq-eqb binding.holder.0 o (theirs ∙ sym mine))))
    where
      first : (a b : Bool) → (a || b) ≡ false → a ≡ false
      first true b h = h
      first false b h = refl

  module _ (c : Control) (kept : Kept c) (more : i ≢ 0) where
    owned : (listener : ℕ) (w : Option ℕ) → (obj c.rows listener).owner ≡ w → next_object c ≡ i → owner_or_root w ≡ i → ⊥
    owned listener None is mine theirs = more (sym theirs)
    owned listener (Some w) is mine theirs =
        let there = socket_there c.rows w (kept.shape.owners listener w is (λ none. more (sym theirs ∙ none))) in
        absurd (omega (arith, there, mine, theirs))

    request_none : {N S : Type 0} (req : Req) (reply : Reply) (h : Answered N S) → Fits c (Asked req reply h) → sum_by drawing (own_moves c (let did : Did N S = Asked req reply h in did)) ≡ 0
    request_none (MakeSocket kind options) reply h fits = unless_draws reply (request_moves c (MakeSocket kind options)) refl
    request_none AskTerm reply h fits = unless_draws reply (request_moves c AskTerm) refl
    request_none (Bind o (Inproc name)) reply h fits = unless_draws reply (request_moves c (Bind o (Inproc name))) (fulfil_none c o.0 (next_pair c) (Inproc name) c.names.waiting)
    request_none (Bind o (Tcp address)) reply h fits = unless_draws reply (request_moves c (Bind o (Tcp address))) refl
    request_none (Connect o (Inproc name)) reply h fits =
        connect_none c o.0 (c.names.held (Inproc name)) reply fits.may.1
    request_none (Connect o (Tcp address)) reply h fits =
        let all : sum_by drawing (request_moves c (Connect o (Tcp address))) ≡ 0 + 0 + drawing (PairDrawn o.0 (next_object c)) + 0 + 0 + 0 = refl in
        let none = drawn_none o.0 (next_object c) (λ mine theirs. (let there = socket_there c.rows o.0 fits.may.0.socket in omega (arith, there, mine, theirs))) in
        unless_draws reply (request_moves c (Connect o (Tcp address))) (omega (arith, all, none))
    request_none (Unbind o at) reply h fits = unless_draws reply (request_moves c (Unbind o at)) refl
    request_none (Disconnect o at) reply h fits = unless_draws reply (request_moves c (Disconnect o at)) refl
    request_none (Close o) reply h fits = unless_draws reply (request_moves c (Close o)) refl
    request_none (Accepted o) reply h fits =
        let all : sum_by drawing (request_moves c (Accepted o)) ≡ 0 + 0 + drawing (PairDrawn (next_object c) (owner_or_root (obj c.rows o.0).owner)) + 0 = refl in
        let none = drawn_none (next_object c) (owner_or_root (obj c.rows o.0).owner) (owned o.0 (obj c.rows o.0).owner refl) in
        unless_draws reply (request_moves c (Accepted o)) (omega (arith, all, none))
    request_none (Shaken o peer) reply h fits = unless_draws reply (request_moves c (Shaken o peer)) refl
    request_none (AskEnd e reason) reply h fits = unless_draws reply (request_moves c (AskEnd e reason)) (by reason (owner_of c e))
      where
        by : (r : Reason) (j : ℕ) → sum_by drawing (reason_moves r j) ≡ 0
        by Closed j = refl
        by BadId j = refl
        by Second j = refl
        by Linger j = refl
        by Link j = refl
    request_none (AskOver o) reply h fits = unless_draws reply (request_moves c (AskOver o)) refl
    request_none (OutputOver o) reply h fits = unless_draws reply (request_moves c (OutputOver o)) refl

    word_draws : (to : ℕ) (word : Word) → sum_by drawing (word_moves to word) ≡ 0
    word_draws to (Own child) = refl
    word_draws to (Plug None) = refl
    word_draws to (Plug (Some e)) = refl
    word_draws to (TermReq child) = refl
    word_draws to Term = refl
    word_draws to (TermAck child) = refl
    word_draws to (PipeBind e peer) = refl
    word_draws to (PipeTerm e) = refl
    word_draws to (PipeTermAck e) = refl
    word_draws to Stop = refl
    word_draws to (Reap socket) = refl

    event_none : {N S : Type 0} (did : Did N S) → Fits c did → sum_by drawing (own_moves c did) ≡ 0
    event_none (Asked req reply h) fits = request_none req reply h fits
    event_none (Delivered slot letter h) fits = word_draws letter.to.0 letter.word
    event_none (Delimited e h) fits = refl

    self_after : {N S : Type 0} (did : Did N S) → Fits c did → joins_self i (pair c.rows k) ≡ false → joins_self i (pair (after did c).rows k) ≡ false
    self_after did fits free =
        let rows = taken_rows did c in
        let all = goes_weigh self_at (λ m. 0) drawing drawing_free self_step (own_moves c did) (having_taken did c) (after did c) (subst Sound (sym rows) (sound_of c kept)) (event_goes c did kept fits) in
        let none = sum_of_none (own_moves c did) in
        let same = ap self_at rows in
        let gains = event_none did fits in
        let was = ap {B = ℕ} (λ (b : Bool). cond b 1 0) free in
        none_at (joins_self i (pair (after did c).rows k)) (omega (arith, all, none, same, gains, was))

  self_over : {N S : Type 0} (items : List (Item N S)) (c : Control) → Kept c → i ≢ 0 → IsControlRun c items → joins_self i (pair c.rows k) ≡ false → joins_self i (pair (after_all items c).rows k) ≡ false
  self_over [] c kept more run free = free
  self_over (Event entry ∷ items) c kept more run free = self_over items (after entry.did c) (after_kept c entry.did kept run.0) more run.1 (self_after c kept more entry.did run.0 free)
  self_over (Seen sight ∷ items) c kept more run free = self_over items c kept more run.1 free

  begun_pair : (j : ℕ) → (pair root_alone j).a_owner ≡ 0
  begun_pair zero = refl
  begun_pair (suc j) = refl

  pub pairs_are_apart : {N S : Type 0} (workers : ℕ) (items : List (Item N S)) → IsControlRun (begun workers) items → i ≢ 0 → joins_self i (pair (after_all items (begun workers)).rows k) ≡ false
  pairs_are_apart workers items run more =
      self_over items (begun workers) (begun_kept workers) more run (both_not (pair root_alone k).a_owner (pair root_alone k).b_owner i (λ mine theirs. more (sym mine ∙ begun_pair k)))
