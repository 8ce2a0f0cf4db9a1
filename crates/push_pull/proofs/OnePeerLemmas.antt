-- A list of at most one place has one order, and stays so short without a place.
use Rattle.std.proofs.Common.{◌≡◌, ◌≤◌, ◌==◌, ℕ, zero, suc, Bool, true, false, not, cond, List, [], ◌∷◌, length, refl, ap, arith, IsPermutation}
use Rattle.std.specs.Prelude.{Contains}
use Rattle.std.proofs.lemmas.List.{nil_from_length}
use Rattle.std.proofs.lemmas.List.Sorted.{length_permutation, Contains-permutation}
use Rattle.msg_pipe.specs.Turns.{without_place}

the_one : (x y : ℕ) → Contains (y ∷ []) x → y ≡ x
the_one x y (zero, within, is) = is
the_one x y (suc k, within, is) = absurd (omega (arith, within))

pub one_order : (xs ys : List ℕ) → length xs ≤ 1 → IsPermutation xs ys → ys ≡ xs
one_order [] ys few same = nil_from_length ys (let l = length_permutation [] ys same in omega (arith, l))
one_order (x ∷ []) [] few same = absurd (let l = length_permutation (x ∷ []) [] same in omega (arith, l))
one_order (x ∷ []) (y ∷ []) few same = ap (λ z. z ∷ []) (the_one x y (Contains-permutation (x ∷ []) (y ∷ []) x same (0, omega arith, refl)))
one_order (x ∷ []) (y ∷ z ∷ ys) few same = absurd (let l = length_permutation (x ∷ []) (y ∷ z ∷ ys) same in omega (arith, l))
one_order (x ∷ y ∷ xs) ys few same = absurd (omega (arith, few))

pub shorter : (place : ℕ) (xs : List ℕ) → length (without_place place xs) ≤ length xs
shorter place [] = omega arith
shorter place (x ∷ xs) = by (not (x == place)) (shorter place xs)
  where
    by : (b : Bool) → length (without_place place xs) ≤ length xs → length (cond b (x ∷ without_place place xs) (without_place place xs)) ≤ length (x ∷ xs)
    by true le = omega (arith, le)
    by false le = omega (arith, le)
