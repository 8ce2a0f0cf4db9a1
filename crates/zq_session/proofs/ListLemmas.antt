-- What a list contains.
use Rattle.std.proofs.Common.{◌≡◌, ◌<◌, ℕ, zero, suc, List, [], ◌∷◌, ◌++◌, length, get_or, refl, ◌∙◌, inl, inr, arith, length-append}
use Rattle.std.specs.Prelude.{◌⊎◌, Contains}
use Rattle.std.proofs.lemmas.List.{get_or_append_left}

in_append : {A : Type 0} (xs ys : List A) (z : A) (k : ℕ) → k < length (xs ++ ys) → get_or (xs ++ ys) k z ≡ z → Contains xs z ⊎ Contains ys z
in_append [] ys z k l e = inr (k, l, e)
in_append (x ∷ xs) ys z zero l e = inl (0, omega arith, e)
in_append (x ∷ xs) ys z (suc k) l e =
    elim (in_append xs ys z k (omega (arith, l, length-append (x ∷ xs) ys, length-append xs ys)) e) as (λ _. Contains (x ∷ xs) z ⊎ Contains ys z) [
      | inl c ↦ inl (suc c.0, omega (arith, c.1), c.2)
      | inr c ↦ inr c
    ]

pub in_either : {A : Type 0} (xs ys : List A) (z : A) → Contains (xs ++ ys) z → Contains xs z ⊎ Contains ys z
in_either xs ys z c = in_append xs ys z c.0 c.1 c.2

pub in_left : {A : Type 0} (xs ys : List A) (z : A) → Contains xs z → Contains (xs ++ ys) z
in_left xs ys z c = (c.0, omega (arith, c.1, length-append xs ys), get_or_append_left xs ys z c.0 c.1 ∙ c.2)

pub in_right : {A : Type 0} (xs ys : List A) (z : A) → Contains ys z → Contains (xs ++ ys) z
in_right [] ys z c = c
in_right (x ∷ xs) ys z c = let k = in_right xs ys z c in (suc k.0, omega (arith, k.1, length-append (x ∷ xs) ys, length-append xs ys), k.2)

pub in_one : {A : Type 0} (x z : A) (k : ℕ) → k < length (x ∷ []) → get_or (x ∷ []) k z ≡ z → x ≡ z
in_one x z zero l e = e
in_one x z (suc k) l e = absurd (omega (arith, l))

pub the_one : {A : Type 0} (x : A) → Contains (x ∷ []) x
the_one x = (0, omega arith, refl)

pub in_none : {A X : Type 0} (z : A) → Contains [] z → X
in_none z c = absurd (omega (arith, c.1))
