-- The first of a list that passes a test, and what is left without it.
use Rattle.std.proofs.Common.{◌≡◌, ◌∙◌, ℕ, ◌+◌, ◌<◌, suc, Bool, true, false, cond, not, ◌||◌, List, [], ◌∷◌, length, None, Some, refl, sym, ap, subst, one-add, arith, nat_lt}
use Rattle.std.proofs.lemmas.Bool.Decides.{nat_tests, Decides-ltb}
use Rattle.std.proofs.lemmas.Option.{cond_some}
use Rattle.std.specs.List.{list_any, remove, position, position_or_len}
use Rattle.spec_control.specs.EndpointBook.{without_first}

module _ {X : Type 0} (test : X → Bool) where
  -- to remove the first that passes
  remove-first : (xs : List X) (i : ℕ) → i ≡ position_or_len test xs → i < length xs → remove xs i ≡ without_first test xs
  remove-first [] i e h = absurd (omega arith)
  remove-first (x ∷ xs) i e h = by (test x) i e h (remove-first xs (position_or_len test xs) refl)
    where
      by : (b : Bool) (i : ℕ) → i ≡ cond (not b) (1 + position_or_len test xs) 0 → i < length (x ∷ xs)
          → (position_or_len test xs < length xs → remove xs (position_or_len test xs) ≡ without_first test xs)
          → remove (x ∷ xs) i ≡ cond b xs (x ∷ without_first test xs)
      by true i e h rest = subst (λ k. remove (x ∷ xs) k ≡ xs) (sym e) refl
      by false i e h rest =
          subst (λ k. remove (x ∷ xs) k ≡ x ∷ without_first test xs) (sym (e ∙ one-add (position_or_len test xs)))
          (ap (λ l. x ∷ l) (rest (omega (arith, e, h))))

  -- one passes where the first that does is within the list
  any_within : (xs : List X) → list_any test xs ≡ nat_lt (position_or_len test xs) (length xs)
  any_within [] = refl
  any_within (x ∷ xs) = by (test x) (any_within xs)
    where
      first_within : (n : ℕ) → true ≡ nat_lt 0 (suc n)
      first_within n = grind (arith, nat_tests)

      one_later : (m n : ℕ) → nat_lt m n ≡ nat_lt (1 + m) (suc n)
      one_later m n = grind (arith, nat_tests)

      by : (b : Bool) → list_any test xs ≡ nat_lt (position_or_len test xs) (length xs)
          → (b || list_any test xs) ≡ nat_lt (cond (not b) (1 + position_or_len test xs) 0) (length (x ∷ xs))
      by true rest = first_within (length xs)
      by false rest = rest ∙ one_later (position_or_len test xs) (length xs)

  -- where the first that passes is found, one does
  pub any_found : (xs : List X) (i : ℕ) → Some i ≡ position test xs → list_any test xs ≡ true
  any_found xs i e = any_within xs ∙ (cond_some _ _ _ (sym e)).0

  -- and it can be removed there
  pub remove-position : (xs : List X) (i : ℕ) → Some i ≡ position test xs → remove xs i ≡ without_first test xs
  remove-position xs i e =
      let found = cond_some (nat_lt (position_or_len test xs) (length xs)) (position_or_len test xs) i (sym e) in
      let within = (Decides-ltb (position_or_len test xs) (length xs)).0 found.0 in
      remove-first xs i (sym found.1) (subst (λ k. k < length xs) found.1 within)

  -- where none is found, none passes
  pub none_found : (xs : List X) → None ≡ position test xs → list_any test xs ≡ false
  none_found xs e = any_within xs ∙ by (nat_lt (position_or_len test xs) (length xs)) e
    where
      by : (b : Bool) → None ≡ cond b (Some (position_or_len test xs)) None → b ≡ false
      by true e = cc
      by false e = refl
