-- What the making of a bind's pairs leads to in the control state, and that it is what the bind's event says.
use Rattle.std.specs.Prelude.{◌≡◌, ◌<◌, ◌≤◌, ◌+◌, ◌++◌, ◌∷◌, [], ℕ, true, false, List, All, drop, length, map, slice_index_or, sum_by, refl}
use Rattle.std.proofs.Common.{arith, sym, ap, ◌∙◌, subst}
use Rattle.std.proofs.lemmas.List.{append-nil, append_assoc, length_push}
use Rattle.std.proofs.lemmas.List.Elements.{All-cons, All-head, All-nil, All-tail}
use Rattle.std.proofs.lemmas.List.Sums.{sum_by-cons}
use Rattle.zq_base.specs.declared.attached.Attached.{Attached}
use Rattle.zq_base.specs.declared.endpoint.Endpoint.{Endpoint}
use Rattle.zq_base.specs.declared.ids.EndId.{EndId}
use Rattle.zq_base.specs.declared.ids.ObjId.{ObjId}
use Rattle.spec_control.specs.declared.book.Waiting.{Waiting}
use Rattle.spec_control.specs.declared.letter.Word.{Word}
use Rattle.spec_control.specs.declared.letter.Word.TheVariants.{PipeBind}
use Rattle.spec_control.specs.Hold.{fulfil}
use Rattle.spec_control.specs.Stage.{was_asked}
use Rattle.spec_control.specs.Row.{Row, nobody}
use Rattle.spec_control.specs.Rows.{obj, of_ends, bind_waits}
use Rattle.spec_control.specs.After.{Answers, fulfil_all}
use Rattle.spec_control.specs.Control.{Control, draws, end_of, greet, next_pair, open_pair, owner_of, place_of}
use Rattle.ctl_state.specs.Stands.{holds_by}
use Rattle.ctl_moves.specs.Joined.{Attaches, IsFresh}
use Rattle.ctl_moves.proofs.PairLemmas.{Greeted, drawn_owner, greeted, opened_binds, opened_mine, opened_there, opened_within, pair_attaches}
use Rattle.ctl_moves.specs.declared.batch.Drawn.{Drawn}
use Rattle.ctl_moves.specs.Batch.{AreNumbered, first_of, row_of}
use Rattle.ctl_moves.specs.Pairing.{bind_for, fulfilled, fulfilled_all, pair_made}
use Rattle.ctl_moves.proofs.GrowLemmas.{made_grows}

-- ---- attached one after the other
attached_on : (c d f : Control) (o : ℕ) (e : EndId) (es : List EndId) → e.pair.0 < length d.rows.pairs → length c.rows.pairs ≤ length d.rows.pairs → Attaches c d o (e ∷ []) → Attaches d f o es → Attaches c f o (e ∷ es)
attached_on c d f o e es within more first last = record {
  attached = last.attached ∙ ap (λ (xs : List EndId). xs ++ es) first.attached ∙ append_assoc c.attached (e ∷ []) es;
  places = λ x less. last.places x (omega (arith, less, more)) ∙ first.places x less;
  owners = λ x less. last.owners x (omega (arith, less, more)) ∙ first.owners x less;
  reasons = λ x less. last.reasons x (omega (arith, less, more)) ∙ first.reasons x less;
  theirs = All-cons (λ x. owner_of f x ≡ o) e es (last.owners e within ∙ All-head (λ x. owner_of d x ≡ o) e [] first.theirs) last.theirs;
  fresh = All-cons (λ x. IsFresh (place_of f x)) e es (subst IsFresh (sym (last.places e within)) (All-head (λ x. IsFresh (place_of d x)) e [] first.fresh)) last.fresh;
}

attached_none : (c : Control) (o : ℕ) → Attaches c c o []
attached_none c o = record {
  attached = sym (append-nil c.attached);
  places = λ x less. refl;
  owners = λ x less. refl;
  reasons = λ x less. refl;
  theirs = All-nil (λ x. owner_of c x ≡ o);
  fresh = All-nil (λ x. IsFresh (place_of c x));
}

-- a pair made between these sockets, with this number, answer and identity
abbrev made_of : Endpoint → Control → (b f n : ℕ) → Attached → List ℕ → Control
made_of at c b f n answer id = holds_by (fulfil at n) b (greet answer (end_of n false) (open_pair (end_of n false) (PipeBind (end_of n true) id) (draws b f c)))

module _ {N O I : Type 0} where
  -- what pairs that were made leave: their first ends are attached to one object, and the others' binds are on their way
  pub record AreMade (c d : Control) (i : ℕ) (ds : List (Drawn N O I)) : Type 0 where
    pub attaches : Attaches c d i (map first_of ds)
    pub objects : d.rows.objects ≡ c.rows.objects
    pub struck : (e : EndId) → d.struck e ≡ c.struck e
    pub many : length d.rows.pairs ≡ length c.rows.pairs + length ds
    pub binds : (j : ℕ) → sum_by (of_ends bind_waits j) d.rows.pairs ≤ sum_by (of_ends bind_waits j) c.rows.pairs + sum_by (bind_for j) ds

  module _ (at : Endpoint) (c : Control) (d : Drawn N O I) (number : d.pair.0 ≡ next_pair c) where
    abbrev now : Control
    now = draws d.o.last.0 d.o.first.0 c

    abbrev first : EndId
    first = first_of d

    abbrev bind : Word
    bind = PipeBind (end_of d.pair.0 true) d.identity

    pub made_objects : (fulfilled at d c).rows.objects ≡ c.rows.objects
    made_objects = (made_grows d.answer first bind now).objects

    pub made_next : next_pair (fulfilled at d c) ≡ next_pair c + 1
    made_next = (made_grows d.answer first bind now).many ∙ length_push c.rows.pairs (row_of d)

    module _ (i : ℕ) (mine : d.o.first.0 ≡ i) (unasked : was_asked (obj c.rows i).stage ≡ false) (unstruck : c.struck (first_of d) ≡ false) where
      was_greeted : Greeted (first_of d) (open_pair (first_of d) (PipeBind (end_of d.pair.0 true) d.identity) (draws d.o.last.0 d.o.first.0 c)) (pair_made d c)
      was_greeted =
          greeted first (open_pair first bind now) (opened_there c d.o.last.0 d.o.first.0 first number bind) (opened_within c d.o.last.0 d.o.first.0 first number bind)
          (ap (λ (n : ℕ). was_asked (obj c.rows n).stage) (opened_mine c d.o.last.0 d.o.first.0 first number bind ∙ mine) ∙ unasked) unstruck d.answer

      pub one_made : AreMade c (fulfilled at d c) i (d ∷ [])
      one_made = record {
        attaches = record {
          attached = attached.attached;
          places = attached.places;
          owners = attached.owners;
          reasons = attached.reasons;
          theirs = attached.theirs;
          fresh = attached.fresh;
        };
        objects = made_objects;
        struck = (made_grows d.answer first bind now).struck;
        many = made_next;
        binds = λ j.
            (let less = was_greeted.binds j in
            let one = opened_binds c d.o.last.0 d.o.first.0 first number bind j in
            let all = sum_by-cons (bind_for j) d [] in
            omega (arith, less, one, all));
      }
        where
          attached : Attaches c (pair_made d c) i (first_of d ∷ [])
          attached = subst (λ (n : ℕ). Attaches c (pair_made d c) n (first ∷ [])) mine (pair_attaches c d.o.last.0 d.o.first.0 first number bind (pair_made d c) was_greeted)

  pub all_made : (at : Endpoint) (ds : List (Drawn N O I)) (c : Control) (i : ℕ) → AreNumbered (next_pair c) ds → All (λ d. d.o.first.0 ≡ i) ds → was_asked (obj c.rows i).stage ≡ false →
      ((e : EndId) → next_pair c ≤ e.pair.0 → c.struck e ≡ false) → AreMade c (fulfilled_all at ds c) i ds
  all_made at [] c i numbers mine unasked unstruck = record { attaches = attached_none c i; objects = refl; struck = λ e. refl; many = omega arith; binds = λ j. omega arith }
  all_made at (d ∷ ds) c i numbers mine unasked unstruck =
      let number = numbers.0 in
      let one = one_made at c d numbers.0 i (All-head (λ (x : Drawn N O I). x.o.first.0 ≡ i) d ds mine) unasked (unstruck (first_of d) (omega (arith, number))) in
      let next = made_next at c d numbers.0 in
      let rest = all_made at ds (fulfilled at d c) i (subst (λ (n : ℕ). AreNumbered n ds) (sym next) numbers.1) (All-tail (λ (x : Drawn N O I). x.o.first.0 ≡ i) d ds mine)
      (ap (λ (os : List Row). was_asked (slice_index_or os i nobody).stage) one.objects ∙ unasked) (λ e past. one.struck e ∙ unstruck e (omega (arith, past, next))) in
      record {
        attaches = attached_on c (fulfilled at d c) (fulfilled_all at ds (fulfilled at d c)) i (first_of d) (map first_of ds) (omega (arith, number, next)) (omega (arith, next)) one.attaches rest.attaches;
        objects = rest.objects ∙ one.objects;
        struck = λ e. rest.struck e ∙ one.struck e;
        many = (let more = rest.many in omega (arith, more, next));
        binds = λ j.
            (let first_binds = one.binds j in
            let rest_binds = rest.binds j in
            let head = sum_by-cons (bind_for j) d [] in
            let all = sum_by-cons (bind_for j) d ds in
            omega (arith, first_binds, rest_binds, head, all));
      }

  -- ---- as the event says
  -- these pairs are with the sockets of these connects
  abbrev pub AreFor : List Waiting → List (Drawn N O I) → Type 0
  AreFor [] [] = Unit {0}
  AreFor [] (d ∷ ds) = ⊥
  AreFor (w ∷ ws) [] = ⊥
  AreFor (w ∷ ws) (d ∷ ds) = (d.o.last ≡ w.waiter) × AreFor ws ds

  pub are_for : (ws : List Waiting) (ds : List (Drawn N O I)) → map (λ d. d.o.last) ds ≡ map (λ w. w.waiter) ws → AreFor ws ds
  are_for [] [] same = tt
  are_for [] (d ∷ ds) same = let many = ap (λ (xs : List ObjId). length xs) same in omega (arith, many)
  are_for (w ∷ ws) [] same = let many = ap (λ (xs : List ObjId). length xs) same in omega (arith, many)
  are_for (w ∷ ws) (d ∷ ds) same = (ap (λ (xs : List ObjId). slice_index_or xs 0 d.o.last) same, are_for ws ds (ap (λ (xs : List ObjId). drop 1 xs) same))

  pub fulfil_is : (at : Endpoint) (i : ℕ) (h : Answers) (ws : List Waiting) (ds : List (Drawn N O I)) (c : Control) → AreFor ws ds → AreNumbered (next_pair c) ds → All (λ d. d.o.first.0 ≡ i) ds →
      All (λ d. d.identity ≡ (obj c.rows i).options.id) ds → All (λ d. h.kind (first_of d) ≡ d.answer) ds → fulfil_all i at ws h c ≡ fulfilled_all at ds c
  fulfil_is at i h [] [] c are numbers mine ids kinds = refl
  fulfil_is at i h [] (d ∷ ds) c are numbers mine ids kinds = absurd are
  fulfil_is at i h (w ∷ ws) [] c are numbers mine ids kinds = absurd are
  fulfil_is at i h (w ∷ ws) (d ∷ ds) c are numbers mine ids kinds =
      ap (fulfil_all i at ws h) step
      ∙ fulfil_is at i h ws ds (fulfilled at d c) are.1 (subst (λ (n : ℕ). AreNumbered n ds) (sym (made_next at c d numbers.0)) numbers.1) (All-tail (λ (x : Drawn N O I). x.o.first.0 ≡ i) d ds mine)
      (subst (λ (os : List Row). All (λ (x : Drawn N O I). x.identity ≡ (slice_index_or os i nobody).options.id) ds) (sym (made_objects at c d numbers.0)) (All-tail (λ (x : Drawn N O I). x.identity ≡ (obj c.rows i).options.id) d ds ids))
      (All-tail (λ (x : Drawn N O I). h.kind (first_of x) ≡ x.answer) d ds kinds)
    where
      step : made_of at c w.waiter.0 i (next_pair c) (h.kind (end_of (next_pair c) false)) (obj c.rows (owner_of (draws w.waiter.0 i c) (end_of (next_pair c) false))).options.id ≡ fulfilled at d c
      step =
          ap (λ (n : ℕ). made_of at c w.waiter.0 i n (h.kind (end_of n false)) (obj c.rows (owner_of (draws w.waiter.0 i c) (end_of n false))).options.id) (sym numbers.0)
          ∙ ap (λ (a : Attached). made_of at c w.waiter.0 i d.pair.0 a (obj c.rows (owner_of (draws w.waiter.0 i c) (end_of d.pair.0 false))).options.id) (All-head (λ (x : Drawn N O I). h.kind (first_of x) ≡ x.answer) d ds kinds)
          ∙ ap (λ (n : ℕ). made_of at c w.waiter.0 i d.pair.0 d.answer (obj c.rows n).options.id) (drawn_owner c w.waiter.0 i (end_of d.pair.0 false) numbers.0)
          ∙ ap (λ (id : List ℕ). made_of at c w.waiter.0 i d.pair.0 d.answer id) (sym (All-head (λ (x : Drawn N O I). x.identity ≡ (obj c.rows i).options.id) d ds ids))
          ∙ ap (λ (x : ObjId). made_of at c x.0 i d.pair.0 d.answer d.identity) (sym are.0)
          ∙ ap (λ (n : ℕ). made_of at c d.o.last.0 n d.pair.0 d.answer d.identity) (sym (All-head (λ (x : Drawn N O I). x.o.first.0 ≡ i) d ds mine))
