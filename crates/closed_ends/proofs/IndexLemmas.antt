-- The place of a socket by its number once one more came.
use Rattle.std.proofs.Common.{◌≡◌, ◌||◌, ◌∙◌, ◌+◌, ℕ, suc, Bool, true, false, cond, not, List, [], ◌∷◌, ◌++◌, None, Some, length, length-append, refl, sym, ap, arith, nat_lt, nat_eq, eqb-true}
use Rattle.std.specs.Prelude.{position}
use Rattle.std.specs.List.{list_any, position_or_len}
use Rattle.std.proofs.lemmas.Bool.{eq-eqb}
use Rattle.std.proofs.lemmas.Bool.Decides.{nat_tests}
use Rattle.closed_ends.specs.declared.sockets.ClosedSocket.{ClosedSocket}
use Rattle.closed_ends.specs.Has.{is_socket}
use Rattle.closed_ends.proofs.ListLemmas.{never}

module _ {X : Type 0} (test : X → Bool) where
  later : (m n : ℕ) → nat_lt (1 + m) (suc n) ≡ nat_lt m n
  later m n = grind (arith, nat_tests)

  bounded : (xs : List X) → list_any test xs ≡ false → position_or_len test xs ≡ length xs
  bounded [] none = refl
  bounded (x ∷ xs) none = by (test x) none (bounded xs)
    where
      by : (b : Bool) → (b || list_any test xs) ≡ false → (list_any test xs ≡ false → position_or_len test xs ≡ length xs) → cond (not b) (1 + position_or_len test xs) 0 ≡ suc (length xs)
      by true k rest = never k
      by false k rest = let r = rest k in omega (arith, r)

  -- where the one that came is the first that passes
  first_last : (xs : List X) (y : X) → list_any test xs ≡ false → test y ≡ true → position_or_len test (xs ++ y ∷ []) ≡ length xs
  first_last [] y none is = ap (λ (b : Bool). cond (not b) 1 0) is
  first_last (x ∷ xs) y none is = by (test x) none (λ k. first_last xs y k is)
    where
      by : (b : Bool) → (b || list_any test xs) ≡ false → (list_any test xs ≡ false → position_or_len test (xs ++ y ∷ []) ≡ length xs) → cond (not b) (1 + position_or_len test (xs ++ y ∷ [])) 0 ≡ suc (length xs)
      by true k rest = never k
      by false k rest = let r = rest k in omega (arith, r)

  pub came_first : (xs : List X) (y : X) → list_any test xs ≡ false → test y ≡ true → position test (xs ++ y ∷ []) ≡ Some (length xs)
  came_first xs y none is =
      ap (λ (n : ℕ). cond (nat_lt n (length (xs ++ y ∷ []))) (Some n) None) (first_last xs y none is)
      ∙ ap (λ (b : Bool). cond b (Some (length xs)) None) (less (length xs) (length (xs ++ y ∷ [])) (length-append xs (y ∷ [])))
    where
      less : (m n : ℕ) → n ≡ m + 1 → nat_lt m n ≡ true
      less m n e = grind (arith, nat_tests, e)

  -- and where it doesn't pass
  both_places : (xs : List X) (y : X) → test y ≡ false → nat_lt (position_or_len test (xs ++ y ∷ [])) (length (xs ++ y ∷ [])) ≡ nat_lt (position_or_len test xs) (length xs)
  both_places [] y off = ap (λ (b : Bool). nat_lt (cond (not b) 1 0) 1) off
  both_places (x ∷ xs) y off = by (test x) (both_places xs y off)
    where
      zeros : (m n : ℕ) → nat_lt 0 (suc m) ≡ nat_lt 0 (suc n)
      zeros m n = grind (arith, nat_tests)

      by : (b : Bool) → nat_lt (position_or_len test (xs ++ y ∷ [])) (length (xs ++ y ∷ [])) ≡ nat_lt (position_or_len test xs) (length xs)
          → nat_lt (cond (not b) (1 + position_or_len test (xs ++ y ∷ [])) 0) (suc (length (xs ++ y ∷ []))) ≡ nat_lt (cond (not b) (1 + position_or_len test xs) 0) (suc (length xs))
      by true rest = zeros (length (xs ++ y ∷ [])) (length xs)
      by false rest = later (position_or_len test (xs ++ y ∷ [])) (length (xs ++ y ∷ [])) ∙ rest ∙ sym (later (position_or_len test xs) (length xs))

  same_first : (xs : List X) (y : X) → test y ≡ false → nat_lt (position_or_len test xs) (length xs) ≡ true → position_or_len test (xs ++ y ∷ []) ≡ position_or_len test xs
  same_first [] y off some = never (sym some)
  same_first (x ∷ xs) y off some = by (test x) some (same_first xs y off)
    where
      by : (b : Bool) → nat_lt (cond (not b) (1 + position_or_len test xs) 0) (suc (length xs)) ≡ true → (nat_lt (position_or_len test xs) (length xs) ≡ true → position_or_len test (xs ++ y ∷ []) ≡ position_or_len test xs)
          → cond (not b) (1 + position_or_len test (xs ++ y ∷ [])) 0 ≡ cond (not b) (1 + position_or_len test xs) 0
      by true k rest = refl
      by false k rest = ap (λ (n : ℕ). 1 + n) (rest (sym (later (position_or_len test xs) (length xs)) ∙ k))

  pub came_other : (xs : List X) (y : X) → test y ≡ false → position test (xs ++ y ∷ []) ≡ position test xs
  came_other xs y off =
      ap (λ (b : Bool). cond b (Some (position_or_len test (xs ++ y ∷ []))) None) (both_places xs y off)
      ∙ by (nat_lt (position_or_len test xs) (length xs)) refl
    where
      by : (b : Bool) → nat_lt (position_or_len test xs) (length xs) ≡ b → cond b (Some (position_or_len test (xs ++ y ∷ []))) None ≡ cond b (Some (position_or_len test xs)) None
      by true some = ap (λ (n : ℕ). Some n) (same_first xs y off some)
      by false none = refl

module _ {N O I : Type 0} where
  -- by numbers
  pub position_added : (n : ℕ) (ss : List (ClosedSocket N O I)) (s : ClosedSocket N O I) → list_any (is_socket s.number.0) ss ≡ false → position (is_socket n) (ss ++ s ∷ []) ≡ cond (nat_eq s.number.0 n) (Some (length ss)) (position (is_socket n) ss)
  position_added n ss s new = by (nat_eq s.number.0 n) refl
    where
      by : (b : Bool) → nat_eq s.number.0 n ≡ b → position (is_socket n) (ss ++ s ∷ []) ≡ cond b (Some (length ss)) (position (is_socket n) ss)
      by true same =
          let is : s.number.0 ≡ n = eqb-true s.number.0 n same in
          came_first (is_socket n) ss s (ap (λ (m : ℕ). list_any (is_socket m) ss) (sym is) ∙ new) (eq-eqb n s.number.0 (sym is))
      by false other = came_other (is_socket n) ss s (off (is_socket n s) refl)
        where
          off : (b : Bool) → is_socket n s ≡ b → b ≡ false
          off true h = never (sym (eq-eqb s.number.0 n (sym (eqb-true n s.number.0 h))) ∙ other)
          off false h = refl
