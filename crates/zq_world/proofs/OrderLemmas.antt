-- In a drawn order each worker comes once.
use Rattle.std.proofs.Common.{◌≡◌, ◌≢◌, ◌≤◌, ◌<◌, ◌+◌, ℕ, zero, suc, List, [], ◌∷◌, ◌++◌, Bool, true, false, Option, Some, None, take, drop, get_or, take-append-drop, length, refl, sym, ap, ◌∙◌, arith, inl, inr}
use Rattle.std.specs.Prelude.{◌==◌, nat_lt, slice_get, if◌then◌else◌}
use Rattle.std.specs.List.{range_with_len, remove}
use Rattle.std.proofs.lemmas.List.{take_more}
use Rattle.std.proofs.lemmas.Bool.{eq-eqb, ne_eqb, eqb-true, eqb-false, ltb-true, ltb-false}
use Rattle.spec_run.specs.Turn.{next_number, choice, Chooses, IsOrder}
use Rattle.zq_world.specs.Turning.{times}

pub times_it : (w v : ℕ) (vs : List ℕ) → v ≡ w → times w (v ∷ vs) ≡ times w vs + 1
times_it w v vs same = ap (λ (b : Bool). if b then times w vs + 1 else times w vs) (eq-eqb v w same)

pub times_not : (w v : ℕ) (vs : List ℕ) → v ≢ w → times w (v ∷ vs) ≡ times w vs
times_not w v vs other = ap (λ (b : Bool). if b then times w vs + 1 else times w vs) (ne_eqb v w other)

times_both : (w v : ℕ) (xs ys : List ℕ) (n : ℕ) → times w xs ≡ times w ys + n → times w (v ∷ xs) ≡ times w (v ∷ ys) + n
times_both w v xs ys n e = by (v == w) refl
  where
    by : (b : Bool) → (v == w) ≡ b → times w (v ∷ xs) ≡ times w (v ∷ ys) + n
    by true is = let x = times_it w v xs (eqb-true v w is) in let y = times_it w v ys (eqb-true v w is) in omega (arith, x, y, e)
    by false is = let x = times_not w v xs (eqb-false v w is) in let y = times_not w v ys (eqb-false v w is) in omega (arith, x, y, e)

pub times-append : (w : ℕ) (xs ys : List ℕ) → times w (xs ++ ys) ≡ times w xs + times w ys
times-append w [] ys = omega arith
times-append w (x ∷ xs) ys = times_both w x (xs ++ ys) xs (times w ys) (times-append w xs ys)

some_is : {X : Type 0} (x y : X) → ◌≡◌ {A = Option X} (Some x) (Some y) → x ≡ y
some_is x y e = cc

no_more : {X : Type 0} (x : X) → ◌≡◌ {A = Option X} None (Some x) → ⊥
no_more x e = cc

times-remove : (w : ℕ) (left : List ℕ) (k v : ℕ) → slice_get left k ≡ Some v → times w left ≡ times w (v ∷ remove left k)
times-remove w [] k v e = elim (no_more v e) [ ]
times-remove w (x ∷ left) zero v e = ap (λ u. times w (u ∷ left)) (some_is x v e)
times-remove w (x ∷ left) (suc k) v e = swap (times_both w x left (v ∷ remove left k) 0 (let h = times-remove w left k v e in omega (arith, h)))
  where
    two : (u : ℕ) (xs : List ℕ) → times w (u ∷ xs) ≡ times w (u ∷ []) + times w xs
    two u xs = times-append w (u ∷ []) xs

    swap : times w (x ∷ left) ≡ times w (x ∷ v ∷ remove left k) + 0 → times w (x ∷ left) ≡ times w (v ∷ x ∷ remove left k)
    swap h =
        let a = two x (v ∷ remove left k) in let b = two v (remove left k) in let c = two v (x ∷ remove left k) in let d = two x (remove left k) in
        omega (arith, h, a, b, c, d)

times-chosen : (w x : ℕ) (left order : List ℕ) (after : ℕ) → Chooses x left order after → times w order ≡ times w left
times-chosen w x left [] after (none, same) = ap (times w) (sym none)
times-chosen w x left (v ∷ order) after (here, rest) =
    let h = times-chosen w (next_number x) (remove left (choice (next_number x) (length left))) order after rest in
    let one = times_both w v order (remove left (choice (next_number x) (length left))) 0 (omega (arith, h)) in
    let all = times-remove w left (choice (next_number x) (length left)) v here in
    omega (arith, one, all)

times_below : (w a n : ℕ) → w < a → times w (range_with_len a n) ≡ 0
times_below w a zero lt = refl
times_below w a (suc n) lt = times_not w a (range_with_len (a + 1) n) (λ e. omega (arith, e, lt)) ∙ times_below w (a + 1) n (omega (arith, lt))

times_among : (w a n : ℕ) → a ≤ w → w < a + n → times w (range_with_len a n) ≡ 1
times_among w a zero le lt = elim (never le lt) [ ]
  where
    never : a ≤ w → w < a + 0 → ⊥
    never f g = omega (arith, f, g)
times_among w a (suc n) le lt = by (a == w) refl (λ f g. times_among w (a + 1) n f g)
  where
    by : (b : Bool) → (a == w) ≡ b → (a + 1 ≤ w → w < (a + 1) + n → times w (range_with_len (a + 1) n) ≡ 1) → times w (range_with_len a (suc n)) ≡ 1
    by true e rest = let same = eqb-true a w e in let one = times_it w a (range_with_len (a + 1) n) same in let none = times_below w (a + 1) n (omega (arith, same)) in omega (arith, one, none)
    by false e rest = let other = eqb-false a w e in times_not w a (range_with_len (a + 1) n) other ∙ rest (omega (arith, le, other)) (omega (arith, lt))

times_past : (w a n : ℕ) → a + n ≤ w → times w (range_with_len a n) ≡ 0
times_past w a zero le = refl
times_past w a (suc n) le = times_not w a (range_with_len (a + 1) n) (λ e. omega (arith, e, le)) ∙ times_past w (a + 1) n (omega (arith, le))

times_order : (w seed x : ℕ) (workers order : List ℕ) (after : ℕ) → IsOrder seed x workers order after → times w order ≡ times w workers
times_order w seed x workers order after (inl h) = ap (times w) h.1
times_order w seed x workers order after (inr h) = times-chosen w x workers order after h.1

-- each worker comes once, and nobody else
pub each_once : (w n seed x : ℕ) (order : List ℕ) (after : ℕ) → IsOrder seed x (range_with_len 0 n) order after → w < n → times w order ≡ 1
each_once w n seed x order after h lt = times_order w seed x (range_with_len 0 n) order after h ∙ times_among w 0 n (omega arith) (omega (arith, lt))

pub no_others : (w n seed x : ℕ) (order : List ℕ) (after : ℕ) → IsOrder seed x (range_with_len 0 n) order after → n ≤ w → times w order ≡ 0
no_others w n seed x order after h past = times_order w seed x (range_with_len 0 n) order after h ∙ times_past w 0 n (omega (arith, past))

pub at_most_once : (w n seed x : ℕ) (order : List ℕ) (after : ℕ) → IsOrder seed x (range_with_len 0 n) order after → times w order ≤ 1
at_most_once w n seed x order after h = by (nat_lt w n) refl
  where
    by : (b : Bool) → nat_lt w n ≡ b → times w order ≤ 1
    by true e = let one = each_once w n seed x order after h (ltb-true w n e) in omega (arith, one)
    by false e = let none = times_order w seed x (range_with_len 0 n) order after h in let past = times_past w 0 n (let f = ltb-false w n e in omega (arith, f)) in omega (arith, none, past)

-- one that comes once does not come before its place
pub not_before : (w : ℕ) (before order rest : List ℕ) → order ≡ (before ++ w ∷ []) ++ rest → times w order ≤ 1 → times w before ≡ 0
not_before w before order rest whole once =
    let all = ap (times w) whole in
    let a = times-append w (before ++ w ∷ []) rest in
    let b = times-append w before (w ∷ []) in
    let c = times_it w w [] refl in
    let d : times w [] ≡ 0 = refl in
    omega (arith, all, a, b, c, d, once)

-- a list cut at a place
pub cut_at : {X : Type 0} (xs : List X) (i : ℕ) (d : X) → i < length xs → xs ≡ (take i xs ++ get_or xs i d ∷ []) ++ drop (i + 1) xs
cut_at xs i d lt = sym (ap (λ l. l ++ drop (i + 1) xs) (sym (take_more xs i d lt)) ∙ take-append-drop (i + 1) xs)
