-- The places of the ends that a socket holds among all its places.
use Rattle.std.specs.Prelude.{slice_index_or}
use Rattle.std.proofs.Common.{◌≡◌, ◌<◌, ◌≤◌, ◌∙◌, ◌+◌, ◌-◌, ℕ, zero, suc, Bool, true, false, List, [], ◌∷◌, drop, length, refl, sym, ap, true≢false, if◌then◌else◌, ◌&&◌, arith}
use Rattle.zq_base.specs.declared.ids.EndId.{EndId}
use Rattle.spec_control.specs.Place.{At}
use Rattle.spec_run.specs.OpenSocket.{awaits_delimiter}
use Rattle.end_table.specs.declared.table.Place.{Place}
use Rattle.line_socket.specs.Readers.{held_places, readers_in, reads_on}

-- ---- lists

-- behind one more
pub drop_next : {X : Type 0} (xs ys : List X) (k : ℕ) (y : X) → drop k xs ≡ y ∷ ys → drop (k + 1) xs ≡ ys
drop_next [] ys zero y h = absurd (let n = ap length h in omega (arith, n))
drop_next [] ys (suc k) y h = absurd (let n = ap length h in omega (arith, n))
drop_next {X = X} (x ∷ xs) ys zero y h = tail_eq h where
  tail_eq : {a b : X} {us vs : List X} → a ∷ us ≡ b ∷ vs → us ≡ vs
  tail_eq e = Prim.grind arith
drop_next (x ∷ xs) ys (suc k) y h = let q : suc k + 1 ≡ suc (k + 1) = omega arith in ap (λ (m : ℕ). drop m (x ∷ xs)) q ∙ drop_next xs ys k y h

-- what stands there, and the rest behind it
pub drop_there : {X : Type 0} (xs : List X) (k : ℕ) (x : X) → k < length xs → x ≡ slice_index_or xs k x → drop k xs ≡ x ∷ drop (k + 1) xs
drop_there [] k x lt e = absurd (omega (arith, lt))
drop_there (y ∷ xs) zero x lt e = ap (λ z. z ∷ xs) (sym e)
drop_there (y ∷ xs) (suc k) x lt e = let q : suc k + 1 ≡ suc (k + 1) = omega arith in drop_there xs k x (omega (arith, lt)) e ∙ ap (λ (m : ℕ). x ∷ drop m (y ∷ xs)) (sym q)

pub drop_all : {X : Type 0} (xs : List X) (k : ℕ) → length xs ≤ k → drop k xs ≡ []
drop_all [] zero le = refl
drop_all [] (suc k) le = refl
drop_all (x ∷ xs) zero le = absurd (omega (arith, le))
drop_all (x ∷ xs) (suc k) le = drop_all xs k (omega (arith, le))

drop_none : {X : Type 0} (k : ℕ) → ◌≡◌ {A = List X} (drop k []) []
drop_none zero = refl
drop_none (suc k) = refl

-- some stand there
pub drop_within : {X : Type 0} (xs ys : List X) (k : ℕ) (y : X) → drop k xs ≡ y ∷ ys → k < length xs
drop_within [] ys zero y h = absurd (let n = ap length h in omega (arith, n))
drop_within [] ys (suc k) y h = absurd (let n = ap length h in omega (arith, n))
drop_within (x ∷ xs) ys zero y h = omega arith
drop_within (x ∷ xs) ys (suc k) y h = let r = drop_within xs ys k y h in omega (arith, r)

-- one more or none
pub one_more : (b : Bool) (many at now : ℕ) → now ≡ (if b then many + 1 else many) → many ≤ at → now ≤ at + 1
one_more true many at now is le = omega (arith, is, le)
one_more false many at now is le = omega (arith, is, le)

module _ {N I : Type 0} where
  held_first : (p : Place N I) (ps : List (Place N I)) (b : Bool) → p.held ≡ b → held_places (p ∷ ps) ≡ (if b then p ∷ held_places ps else held_places ps)
  held_first p ps b is = ap (λ (y : Bool). if y then p ∷ held_places ps else held_places ps) is

  -- one place on
  pub held_goes : (ps : List (Place N I)) (at many : ℕ) (p : Place N I) → at < length ps → p ≡ slice_index_or ps at p → drop many (held_places ps) ≡ held_places (drop at ps) →
      drop (if p.held then many + 1 else many) (held_places ps) ≡ held_places (drop (at + 1) ps)
  held_goes ps at many p lt e same = by p.held refl where
    there : held_places (drop at ps) ≡ held_places (p ∷ drop (at + 1) ps)
    there = ap held_places (drop_there ps at p lt e)

    by : (b : Bool) → p.held ≡ b → drop (if p.held then many + 1 else many) (held_places ps) ≡ held_places (drop (at + 1) ps)
    by true is =
        ap (λ (y : Bool). drop (if y then many + 1 else many) (held_places ps)) is
        ∙ drop_next (held_places ps) (held_places (drop (at + 1) ps)) many p (same ∙ there ∙ held_first p (drop (at + 1) ps) true is)
    by false is = ap (λ (y : Bool). drop (if y then many + 1 else many) (held_places ps)) is ∙ same ∙ there ∙ held_first p (drop (at + 1) ps) false is

  -- and so many are left
  pub left_goes : (ps : List (Place N I)) (at left many : ℕ) (p : Place N I) → at < length ps → p ≡ slice_index_or ps at p → 0 < left → drop left (held_places (drop at ps)) ≡ drop many (held_places ps) →
      drop (if p.held then left - 1 else left) (held_places (drop (at + 1) ps)) ≡ drop many (held_places ps)
  left_goes ps at left many p lt e some same = by p.held refl where
    there : held_places (drop at ps) ≡ held_places (p ∷ drop (at + 1) ps)
    there = ap held_places (drop_there ps at p lt e)

    one_less : (k : ℕ) (qs : List (Place N I)) → 0 < k → drop (k - 1) qs ≡ drop k (p ∷ qs)
    one_less zero qs lt = absurd (omega (arith, lt))
    one_less (suc k) qs lt = let q : suc k - 1 ≡ k = omega arith in ap (λ (m : ℕ). drop m qs) q

    by : (b : Bool) → p.held ≡ b → drop (if p.held then left - 1 else left) (held_places (drop (at + 1) ps)) ≡ drop many (held_places ps)
    by true is =
        ap (λ (y : Bool). drop (if y then left - 1 else left) (held_places (drop (at + 1) ps))) is
        ∙ one_less left (held_places (drop (at + 1) ps)) some ∙ ap (drop left) (sym (there ∙ held_first p (drop (at + 1) ps) true is)) ∙ same
    by false is =
        ap (λ (y : Bool). drop (if y then left - 1 else left) (held_places (drop (at + 1) ps))) is
        ∙ ap (drop left) (sym (there ∙ held_first p (drop (at + 1) ps) false is)) ∙ same

  -- none are left at the end of the places
  pub left_none : (ps : List (Place N I)) (at left many : ℕ) → length ps ≤ at → drop left (held_places (drop at ps)) ≡ drop many (held_places ps) → held_places (drop at ps) ≡ drop many (held_places ps)
  left_none ps at left many le same =
      let none = drop_all ps at le in
      ap held_places none ∙ sym (drop_none left) ∙ ap (λ (qs : List (Place N I)). drop left (held_places qs)) (sym none) ∙ same

  -- those that read on are among those that are held
  pub readers_held : (ps : List (Place N I)) → readers_in (held_places ps) ≡ readers_in ps
  readers_held [] = refl
  readers_held (p ∷ ps) = by (readers_held ps) p.held refl where
    by : readers_in (held_places ps) ≡ readers_in ps → (b : Bool) → p.held ≡ b → readers_in (held_places (p ∷ ps)) ≡ readers_in (p ∷ ps)
    by rest true is = ap readers_in (held_first p ps true is) ∙ ap (λ (l : List EndId). if reads_on p then p.end ∷ l else l) rest
    by rest false is =
        ap readers_in (held_first p ps false is) ∙ rest
        ∙ sym (ap (λ (y : Bool). if y then p.end ∷ readers_in ps else readers_in ps) (unread p.held is))
      where
        unread : (b : Bool) → b ≡ false → (b && awaits_delimiter (At p.state)) ≡ false
        unread false h = refl
        unread true h = absurd (true≢false h)

  pub readers_behind : (ps : List (Place N I)) (many k : ℕ) → held_places (drop k ps) ≡ drop many (held_places ps) → readers_in (drop many (held_places ps)) ≡ readers_in (drop k ps)
  readers_behind ps many k same = ap readers_in (sym same) ∙ readers_held (drop k ps)

  -- ---- one that reads on

  pub reader_place : (ps : List (Place N I)) (k : ℕ) (e : EndId) → readers_in (drop k ps) ≡ e ∷ readers_in (drop (k + 1) ps) → (p : Place N I) × (drop k ps ≡ p ∷ drop (k + 1) ps) × (p.held ≡ true)
  reader_place [] zero e h = absurd (let n = ap length h in omega (arith, n))
  reader_place [] (suc k) e h = absurd (let n = ap length h in omega (arith, n))
  reader_place (x ∷ xs) zero e h = by x.held refl where
    by : (b : Bool) → x.held ≡ b → (p : Place N I) × (x ∷ xs ≡ p ∷ xs) × (p.held ≡ true)
    by true is = (x, refl, is)
    by false is =
        let same = sym (ap (λ (y : Bool). if y && awaits_delimiter (At x.state) then x.end ∷ readers_in xs else readers_in xs) is) ∙ h in
        absurd (let n = ap length same in omega (arith, n))
  reader_place (x ∷ xs) (suc k) e h =
      let q : suc k + 1 ≡ suc (k + 1) = omega arith in
      let r = reader_place xs k e (h ∙ ap (λ (m : ℕ). e ∷ readers_in (drop m (x ∷ xs))) q) in
      (r.0, r.1 ∙ ap (λ (m : ℕ). r.0 ∷ drop m (x ∷ xs)) (sym q), r.2)

  -- by how many are held before it
  pub ranked_same : (ps : List (Place N I)) (k many : ℕ) → drop many (held_places ps) ≡ held_places (drop k ps) → readers_in (drop many (held_places ps)) ≡ readers_in (drop k ps)
  ranked_same ps k many same = readers_behind ps many k (sym same)

  pub ranked_reads : (ps : List (Place N I)) (k many : ℕ) (e : EndId) → readers_in (drop k ps) ≡ e ∷ readers_in (drop (k + 1) ps) → drop many (held_places ps) ≡ held_places (drop k ps) →
      readers_in (drop many (held_places ps)) ≡ e ∷ readers_in (drop (many + 1) (held_places ps))
  ranked_reads ps k many e reads same =
      let r = reader_place ps k e reads in
      let next = drop_next (held_places ps) (held_places (drop (k + 1) ps)) many r.0 (same ∙ ap held_places r.1 ∙ held_first r.0 (drop (k + 1) ps) true r.2) in
      ranked_same ps k many same ∙ reads ∙ ap (λ (l : List EndId). e ∷ l) (sym (ranked_same ps (k + 1) (many + 1) next))
