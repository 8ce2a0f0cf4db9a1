-- What is so of the rows after each step, where a row or a pair is written or added, and where an object ends.
use Rattle.std.specs.Prelude.{◌≡◌, ◌<◌, ◌≤◌, ◌&&◌, ℕ, Bool, true, false, not, cond, List, [], ◌∷◌, ◌++◌, length, Option, Some, None, sum_by, slice_index_or, refl}
use Rattle.std.proofs.Common.{arith, sym, ap, ◌∙◌, subst, inl, inr}
use Rattle.std.proofs.lemmas.List.{get_or_past}
use Rattle.std.proofs.lemmas.List.Sums.{get_or-le-sum_by}
use Rattle.std.proofs.lemmas.Bool.{cases_order, eq-eqb}
use Rattle.spec_control.specs.declared.stage.Stage.{Stage}
use Rattle.spec_control.specs.declared.stage.Stage.TheVariants.{Alive, Told, Ending, Finished, Cleared}
use Rattle.spec_control.specs.declared.stage.Use.{Use}
use Rattle.spec_control.specs.Stage.{has_ended, is_cleared, is_coming}
use Rattle.spec_control.specs.Place.{Place, Unmade}
use Rattle.spec_control.specs.PairPhase.{Phase, Drawn, Opened, OpenedAsked, OpenedSeen, FirstGone, LastOne, Over, place_in, half}
use Rattle.spec_control.specs.Row.{Row, nobody, stage_fits, link_fits, is_over}
use Rattle.spec_control.specs.Rows.{PairRow, Rows, no_pair, obj, pair, with_object, with_pair, end_place, end_owner, end_half, IsInPhase, is_owner, of_child, of_ends, own_waits, ack_at, ack_waits, lives_noted, bind_waits, end_waits, MayEnd}
use Rattle.control_laws.specs.Reached.{is_past}
use Rattle.control_laws.proofs.ListLemmas.{never, clash, right, is_old, is_new, pushed, is_here as here_is, is_elsewhere, written, placed}
use Rattle.control_laws.proofs.LinkLemmas.{some_is, at_stage, half_of, seen, place_is}

-- what an object that has ended leaves behind: nothing
pub record Closed (s : Rows) (i : ℕ) : Type 0 where
  pub children : (c : ℕ) → (obj s c).owner ≡ Some i → is_over (obj s c) ≡ true
  pub ends : (k : ℕ) (a : Bool) → end_owner (pair s k) a ≡ i → is_past (end_half (pair s k) a) ≡ true

-- what is so of the rows after each step
pub record Inv (s : Rows) : Type 0 where
  pub fits : (c : ℕ) → link_fits (obj s c) ≡ true
  pub phases : (k : ℕ) → IsInPhase (pair s k)
  pub closed : (i : ℕ) → has_ended (obj s i).stage ≡ true → Closed s i

-- a row is set to one of the same owner, whose link was not over
pub set_object : (s : Rows) (c : ℕ) (o : Row) → Inv s → is_over (obj s c) ≡ false → o.owner ≡ (obj s c).owner → link_fits o ≡ true →
    (has_ended o.stage ≡ true → Closed s c) → Inv (with_object c o s)
set_object s c o inv busy owner fits ends = record { fits = all_fit; phases = inv.phases; closed = λ i h. record { children = kids i (was_closed i h); ends = (was_closed i h).ends } }
  where
    there : c < length s.objects
    there = placed is_over s.objects nobody c refl busy

    all_fit : (i : ℕ) → link_fits (obj (with_object c o s) i) ≡ true
    all_fit i =
        elim (written s.objects o nobody c i there) [
          | here_is here same ↦ ap link_fits same ∙ fits
          | is_elsewhere same ↦ ap link_fits same ∙ inv.fits i
        ]

    was_closed : (i : ℕ) → has_ended (obj (with_object c o s) i).stage ≡ true → Closed s i
    was_closed i h =
        elim (written s.objects o nobody c i there) [
          | here_is here same ↦ subst (λ (n : ℕ). Closed s n) (sym here) (ends (sym (ap (λ (w : Row). has_ended w.stage) same) ∙ h))
          | is_elsewhere same ↦ inv.closed i (sym (ap (λ (w : Row). has_ended w.stage) same) ∙ h)
        ]

    kids : (i : ℕ) → Closed s i → (d : ℕ) → (obj (with_object c o s) d).owner ≡ Some i → is_over (obj (with_object c o s) d) ≡ true
    kids i closed d owned =
        elim (written s.objects o nobody c d there) [
          | here_is here same ↦ absurd (clash (is_over (obj s c)) (closed.children c (sym owner ∙ sym (ap (λ (w : Row). w.owner) same) ∙ owned)) busy)
          | is_elsewhere same ↦ ap is_over same ∙ closed.children d (sym (ap (λ (w : Row). w.owner) same) ∙ owned)
        ]

-- an object is added under an owner that has not ended
pub push_object : (s : Rows) (w : ℕ) (o : Row) → Inv s → has_ended (obj s w).stage ≡ false → o.owner ≡ Some w → link_fits o ≡ true →
    has_ended o.stage ≡ false → Inv (record s { objects = s.objects ++ o ∷ [] })
push_object s w o inv unended owner fits lives = record { fits = all_fit; phases = inv.phases; closed = λ i h. record { children = kids i (was_ended i h); ends = (inv.closed i (was_ended i h)).ends } }
  where
    new : Rows
    new = record s { objects = s.objects ++ o ∷ [] }

    all_fit : (i : ℕ) → link_fits (obj new i) ≡ true
    all_fit i =
        elim (pushed s.objects o nobody i) [
          | is_old same ↦ ap link_fits same ∙ inv.fits i
          | is_new at same was ↦ ap link_fits same ∙ fits
        ]

    was_ended : (i : ℕ) → has_ended (obj new i).stage ≡ true → has_ended (obj s i).stage ≡ true
    was_ended i h =
        elim (pushed s.objects o nobody i) [
          | is_old same ↦ sym (ap (λ (v : Row). has_ended v.stage) same) ∙ h
          | is_new at same was ↦ ap (λ (v : Row). has_ended v.stage) was
        ]

    kids : (i : ℕ) → has_ended (obj s i).stage ≡ true → (d : ℕ) → (obj new d).owner ≡ Some i → is_over (obj new d) ≡ true
    kids i h d owned =
        elim (pushed s.objects o nobody d) [
          | is_old same ↦ ap is_over same ∙ (inv.closed i h).children d (sym (ap (λ (v : Row). v.owner) same) ∙ owned)
          | is_new at same was ↦ absurd (clash (has_ended (obj s i).stage) h (subst (λ (n : ℕ). has_ended (obj s n).stage ≡ false) (some_is w i (sym owner ∙ sym (ap (λ (v : Row). v.owner) same) ∙ owned)) unended))
        ]

-- a pair is set to one of the same owners, an end of which was not past, and whose ends that were past are
pub set_pair : (s : Rows) (k : ℕ) (p : PairRow) → Inv s → k < length s.pairs → IsInPhase p → ((x : Bool) → end_owner p x ≡ end_owner (pair s k) x) →
    ((x : Bool) → has_ended (obj s (end_owner p x)).stage ≡ true → is_past (end_half (pair s k) x) ≡ true → is_past (end_half p x) ≡ true) → Inv (with_pair k p s)
set_pair s k p inv there phase owners stay = record { fits = inv.fits; phases = phases; closed = λ i h. record { children = (inv.closed i h).children; ends = ends i h (inv.closed i h) } }
  where
    phases : (j : ℕ) → IsInPhase (pair (with_pair k p s) j)
    phases j =
        elim (written s.pairs p no_pair k j there) [
          | here_is here same ↦ subst IsInPhase (sym same) phase
          | is_elsewhere same ↦ subst IsInPhase (sym same) (inv.phases j)
        ]

    ends : (i : ℕ) → has_ended (obj s i).stage ≡ true → Closed s i → (j : ℕ) (x : Bool) → end_owner (pair (with_pair k p s) j) x ≡ i → is_past (end_half (pair (with_pair k p s) j) x) ≡ true
    ends i h closed j x owned =
        elim (written s.pairs p no_pair k j there) [
          | here_is here same ↦
              let mine = sym (ap (λ (q : PairRow). end_owner q x) same) ∙ owned in
              ap (λ (q : PairRow). is_past (end_half q x)) same ∙ stay x (subst (λ (n : ℕ). has_ended (obj s n).stage ≡ true) (sym mine) h) (closed.ends k x (sym (owners x) ∙ mine))
          | is_elsewhere same ↦ ap (λ (q : PairRow). is_past (end_half q x)) same ∙ closed.ends j x (sym (ap (λ (q : PairRow). end_owner q x) same) ∙ owned)
        ]

-- a pair's number is drawn
pub push_pair : (s : Rows) (p : PairRow) → Inv s → p.a ≡ Unmade → p.b ≡ Unmade → Inv (record s { pairs = s.pairs ++ p ∷ [] })
push_pair s p inv a_is b_is = record { fits = inv.fits; phases = phases; closed = λ i h. record { children = (inv.closed i h).children; ends = ends i h } }
  where
    new : Rows
    new = record s { pairs = s.pairs ++ p ∷ [] }

    phases : (j : ℕ) → IsInPhase (pair new j)
    phases j =
        elim (pushed s.pairs p no_pair j) [
          | is_old same ↦ subst IsInPhase (sym same) (inv.phases j)
          | is_new at same was ↦ subst IsInPhase (sym same) (record { phase = Drawn; first = true; a_is = a_is; b_is = b_is })
        ]

    past : (x : Bool) → is_past (end_half p x) ≡ true
    past true = ap is_past (half_of _ _ Unmade Unmade a_is b_is)
    past false = ap is_past (half_of _ _ Unmade Unmade b_is a_is)

    ends : (i : ℕ) → has_ended (obj s i).stage ≡ true → (j : ℕ) (x : Bool) → end_owner (pair new j) x ≡ i → is_past (end_half (pair new j) x) ≡ true
    ends i h j x owned =
        elim (pushed s.pairs p no_pair j) [
          | is_old same ↦ ap (λ (q : PairRow). is_past (end_half q x)) same ∙ (inv.closed i h).ends j x (sym (ap (λ (q : PairRow). end_owner q x) same) ∙ owned)
          | is_new at same was ↦ ap (λ (q : PairRow). is_past (end_half q x)) same ∙ past x
        ]

-- where nothing is counted, nothing is there
one_is_not : ◌≡◌ {A = ℕ} 1 0 → ⊥
one_is_not h = omega arith

at_most : (m n : ℕ) → m ≤ n → n ≡ 0 → m ≡ 0
at_most m n h e = omega arith

noted_is : (b : Bool) → ◌≡◌ {A = ℕ} (cond b 0 1) 0 → b ≡ true
noted_is true h = refl
noted_is false h = absurd (one_is_not h)

over_is : (s : Stage) (n p : Bool) (r t : Use) → stage_fits s n p r t ≡ true → n ≡ true → ack_at s ≡ 0 → ◌≡◌ {A = ℕ} (cond n (cond (has_ended s) 0 1) 0) 0 →
    (is_cleared s && (n && not (is_coming r))) ≡ true
over_is Alive true p r t f e a l = absurd (one_is_not l)
over_is Alive false p r t f e a l = absurd (never e)
over_is Told n p r t f e a l = absurd (one_is_not a)
over_is Ending n p r t f e a l = absurd (one_is_not a)
over_is Finished n p r t f e a l = absurd (one_is_not a)
over_is Cleared n p r t f e a l = right (not (is_coming t)) _ (right p _ f)

pub half_past : (p : Phase) (r : Bool) → bind_waits (place_in p r) ≡ 0 → end_waits (place_in p r) ≡ 0 → is_past (half p r) ≡ true
half_past Drawn r b e = refl
half_past FirstGone true b e = refl
half_past LastOne true b e = refl
half_past Over true b e = refl
half_past Over false b e = refl
half_past Opened false b e = absurd (one_is_not b)
half_past OpenedAsked false b e = absurd (one_is_not b)
half_past OpenedSeen false b e = absurd (one_is_not b)
half_past _ true b e = absurd (one_is_not e)
half_past _ false b e = absurd (one_is_not e)

-- one child's part of a sum over the children
child_part : (f : Row → ℕ) (objects : List Row) (i d : ℕ) → (slice_index_or objects d nobody).owner ≡ Some i → d < length objects →
    sum_by (of_child f i) objects ≡ 0 → f (slice_index_or objects d nobody) ≡ 0
child_part f objects i d owned there none =
    let o = slice_index_or objects d nobody in
    let part = get_or-le-sum_by (of_child f i) objects d nobody there in
    let mine = ap (λ (w : Option ℕ). cond (is_owner i w) (f o) 0) owned ∙ ap (λ (b : Bool). cond b (f o) 0) (eq-eqb i i refl) in
    sym mine ∙ at_most _ _ part none

-- one end's part of a sum over the ends
ends_part : (f : Place → ℕ) (pairs : List PairRow) (i k : ℕ) (a : Bool) → end_owner (slice_index_or pairs k no_pair) a ≡ i → k < length pairs →
    sum_by (of_ends f i) pairs ≡ 0 → f (end_place (slice_index_or pairs k no_pair) a) ≡ 0
ends_part f pairs i k a owned there none = by a owned
  where
    p : PairRow
    p = slice_index_or pairs k no_pair

    total : of_ends f i p ≡ 0
    total = at_most _ _ (get_or-le-sum_by (of_ends f i) pairs k no_pair there) none

    by : (x : Bool) → end_owner p x ≡ i → f (end_place p x) ≡ 0
    by true e =
        let mine = ap (λ (b : Bool). cond b (f p.a) 0) (eq-eqb p.a_owner i e) in
        omega (arith, mine, total)
    by false e =
        let mine = ap (λ (b : Bool). cond b (f p.b) 0) (eq-eqb p.b_owner i e) in
        omega (arith, mine, total)

pub none_is_some : (i : ℕ) → None ≡ Some i → ⊥
none_is_some i h = Prim.grind arith

pub has_owner : (objects : List Row) (i d : ℕ) → (slice_index_or objects d nobody).owner ≡ Some i → d < length objects
has_owner objects i d owned =
    elim (cases_order d (length objects)) [
      | inl same ↦ absurd (none_is_some i (sym (ap (λ (o : Row). o.owner) (get_or_past objects d nobody (omega (arith, same)))) ∙ owned))
      | inr (inl below) ↦ below
      | inr (inr above) ↦ absurd (none_is_some i (sym (ap (λ (o : Row). o.owner) (get_or_past objects d nobody (omega (arith, above)))) ∙ owned))
    ]

pub none_past : (x : Bool) → is_past (end_half no_pair x) ≡ true
none_past true = refl
none_past false = refl

-- an object whose counts are level leaves nothing behind
pub may_end_closed : (s : Rows) (i : ℕ) → Inv s → MayEnd s i → Closed s i
may_end_closed s i inv m = record { children = kids; ends = ends }
  where
    owns : sum_by (of_child own_waits i) s.objects ≡ 0
    owns = at_most _ _ (omega arith) m.level

    binds : sum_by (of_ends bind_waits i) s.pairs ≡ 0
    binds = at_most _ _ (omega arith) m.level

    acks : sum_by (of_child ack_waits i) s.objects ≡ 0
    acks = at_most _ _ (omega arith) m.nothing_owed

    attached : sum_by (of_ends end_waits i) s.pairs ≡ 0
    attached = at_most _ _ (omega arith) m.nothing_owed

    kids : (d : ℕ) → (obj s d).owner ≡ Some i → is_over (obj s d) ≡ true
    kids d owned =
        let there = has_owner s.objects i d owned in
        let o = obj s d in
        over_is o.stage o.noted o.plugged o.request o.stop (at_stage o (inv.fits d))
        (noted_is o.noted (child_part own_waits s.objects i d owned there owns))
        (child_part ack_waits s.objects i d owned there acks)
        (child_part lives_noted s.objects i d owned there m.no_child)

    ends : (k : ℕ) (a : Bool) → end_owner (pair s k) a ≡ i → is_past (end_half (pair s k) a) ≡ true
    ends k a owned =
        elim (cases_order k (length s.pairs)) [
          | inl same ↦ past (omega (arith, same))
          | inr (inl below) ↦
              let v = seen (pair s k) (inv.phases k) a in
              let here = place_is _ _ v.mine in
              ap is_past v.mine ∙ half_past v.phase v.first (sym (ap bind_waits here) ∙ ends_part bind_waits s.pairs i k a owned below binds) (sym (ap end_waits here) ∙ ends_part end_waits s.pairs i k a owned below attached)
          | inr (inr above) ↦ past (omega (arith, above))
        ]
      where
        past : length s.pairs ≤ k → is_past (end_half (pair s k) a) ≡ true
        past h = ap (λ (q : PairRow). is_past (end_half q a)) (get_or_past s.pairs k no_pair h) ∙ none_past a
