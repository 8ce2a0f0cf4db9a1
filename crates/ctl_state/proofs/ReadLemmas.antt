-- What is read of a list of which one element was written.
use Rattle.std.specs.Prelude.{◌≡◌, ◌≢◌, ◌<◌, ◌≤◌, ◌+◌, ◌==◌, ◌⊎◌, ℕ, Bool, cond, List, [], ◌∷◌, ◌++◌, length, slice_index_or, slice_set}
use Rattle.std.proofs.Common.{arith, sym, ap, ◌∙◌, subst, inl, inr, length-append}
use Rattle.std.proofs.lemmas.Bool.{cases_eq, cases_lt, cases_order, eq-eqb, ne_eqb}
use Rattle.std.proofs.lemmas.List.{get_or-set_same, get_or-set_other, set_past, get_or_past, get_or_push, get_or_append_left}

-- what a write leaves as it is, is read as before
pub read_kept : {X Y : Type 0} (g : X → Y) (xs : List X) (i j : ℕ) (x d : X) → g x ≡ g (slice_index_or xs i d) →
    g (slice_index_or (slice_set xs i x) j d) ≡ g (slice_index_or xs j d)
read_kept {X = X} g xs i j x d same =
    elim (cases_eq j i) [
      | inl e ↦ subst (λ (n : ℕ). g (slice_index_or (slice_set xs i x) n d) ≡ g (slice_index_or xs n d)) (sym e) (here (cases_lt i (length xs)))
      | inr other ↦ ap g (get_or-set_other xs i j x d other)
    ]
  where
    here : (i < length xs) ⊎ (length xs ≤ i) → g (slice_index_or (slice_set xs i x) i d) ≡ g (slice_index_or xs i d)
    here (inl below) = ap g (get_or-set_same xs i x d below) ∙ same
    here (inr past) = ap (λ (ys : List X). g (slice_index_or ys i d)) (set_past xs i x past)

-- an element that is not what stands for the rest has a place
pub placed_where : {X Y : Type 0} (g : X → Y) (xs : List X) (i : ℕ) (d : X) → (g (slice_index_or xs i d) ≡ g d → ⊥) → i < length xs
placed_where g xs i d h =
    elim (cases_order i (length xs)) [
      | inl same ↦ absurd (h (ap g (get_or_past xs i d (omega (arith, same)))))
      | inr (inl below) ↦ below
      | inr (inr above) ↦ absurd (h (ap g (get_or_past xs i d (omega (arith, above)))))
    ]

-- a number that a write raises by n at its place
pub read_more : {X : Type 0} (g : X → ℕ) (xs : List X) (i j : ℕ) (x d : X) (n : ℕ) → i < length xs → g x ≡ g (slice_index_or xs i d) + n →
    g (slice_index_or (slice_set xs i x) j d) ≡ g (slice_index_or xs j d) + cond (i == j) n 0
read_more g xs i j x d n there e =
    elim (cases_eq j i) [
      | inl same ↦
          let a = ap (λ (k : ℕ). g (slice_index_or (slice_set xs i x) k d)) same ∙ ap g (get_or-set_same xs i x d there) in
          let b = ap (λ (k : ℕ). g (slice_index_or xs k d)) same in
          let c : cond (i == j) n 0 ≡ n = ap {B = ℕ} (λ (t : Bool). cond t n 0) (eq-eqb i j (sym same)) in
          omega (arith, a, b, c, e)
      | inr other ↦
          let a = ap g (get_or-set_other xs i j x d other) in
          let c : cond (i == j) n 0 ≡ 0 = ap {B = ℕ} (λ (t : Bool). cond t n 0) (ne_eqb i j (λ h. other (sym h))) in
          omega (arith, a, c)
    ]

-- and one that it lowers by 1
pub read_less : {X : Type 0} (g : X → ℕ) (xs : List X) (i j : ℕ) (x d : X) → i < length xs → g x + 1 ≡ g (slice_index_or xs i d) →
    g (slice_index_or (slice_set xs i x) j d) + cond (i == j) 1 0 ≡ g (slice_index_or xs j d)
read_less g xs i j x d there e =
    elim (cases_eq j i) [
      | inl same ↦
          let a = ap (λ (k : ℕ). g (slice_index_or (slice_set xs i x) k d)) same ∙ ap g (get_or-set_same xs i x d there) in
          let b = ap (λ (k : ℕ). g (slice_index_or xs k d)) same in
          let c : ◌≡◌ {A = ℕ} (cond (i == j) 1 0) 1 = ap {B = ℕ} (λ (t : Bool). cond t 1 0) (eq-eqb i j (sym same)) in
          omega (arith, a, b, c, e)
      | inr other ↦
          let a = ap g (get_or-set_other xs i j x d other) in
          let c : ◌≡◌ {A = ℕ} (cond (i == j) 1 0) 0 = ap {B = ℕ} (λ (t : Bool). cond t 1 0) (ne_eqb i j (λ h. other (sym h))) in
          omega (arith, a, c)
    ]

-- reads behind a push, of what the new element and the default may show
pub pushed_read : {X Y Z : Type 0} (g : X → Z) (f : Y → Z) (xs : List X) (ys : List Y) (x d : X) (y e : Y) (j : ℕ) → length xs ≡ length ys →
    g x ≡ f y → g d ≡ f e → g (slice_index_or xs j d) ≡ f (slice_index_or ys j e) → g (slice_index_or (xs ++ x ∷ []) j d) ≡ f (slice_index_or (ys ++ y ∷ []) j e)
pushed_read g f xs ys x d y e j same new old h =
    elim (cases_order j (length xs)) [
      | inl is ↦ ap g (get_or_push xs x d j (sym is)) ∙ new ∙ sym (ap f (get_or_push ys y e j (sym (is ∙ same))))
      | inr (inl below) ↦ ap g (get_or_append_left xs (x ∷ []) d j below) ∙ h ∙ sym (ap f (get_or_append_left ys (y ∷ []) e j (subst (λ (n : ℕ). j < n) same below)))
      | inr (inr above) ↦ ap g (get_or_past (xs ++ x ∷ []) j d (omega (arith, above, length-append xs (x ∷ []))))
          ∙ old ∙ sym (ap f (get_or_past (ys ++ y ∷ []) j e (omega (arith, above, same, length-append ys (y ∷ [])))))
    ]

-- one more element that shows what the default does
pub pushed_same : {X Z : Type 0} (g : X → Z) (xs : List X) (x d : X) (j : ℕ) → g x ≡ g d → g (slice_index_or (xs ++ x ∷ []) j d) ≡ g (slice_index_or xs j d)
pushed_same g xs x d j same =
    elim (cases_order j (length xs)) [
      | inl is ↦ ap g (get_or_push xs x d j (sym is)) ∙ same ∙ sym (ap g (get_or_past xs j d (omega (arith, is))))
      | inr (inl below) ↦ ap g (get_or_append_left xs (x ∷ []) d j below)
      | inr (inr above) ↦ ap g (get_or_past (xs ++ x ∷ []) j d (omega (arith, above, length-append xs (x ∷ [])))) ∙ sym (ap g (get_or_past xs j d (omega (arith, above))))
    ]

-- one more element is read at its place alone
pub pushed_other : {X : Type 0} (xs : List X) (x d : X) (j : ℕ) → j ≢ length xs → slice_index_or (xs ++ x ∷ []) j d ≡ slice_index_or xs j d
pushed_other xs x d j other =
    elim (cases_order j (length xs)) [
      | inl is ↦ absurd (other is)
      | inr (inl below) ↦ get_or_append_left xs (x ∷ []) d j below
      | inr (inr above) ↦ get_or_past (xs ++ x ∷ []) j d (omega (arith, above, length-append xs (x ∷ []))) ∙ sym (get_or_past xs j d (omega (arith, above)))
    ]
