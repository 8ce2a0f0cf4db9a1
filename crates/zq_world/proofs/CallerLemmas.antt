-- Where the callers of some calls never fall, these did the same in the order of making and caller by caller.
use Rattle.std.proofs.Common.{◌≡◌, ◌≢◌, ◌≤◌, ◌<◌, ◌+◌, ℕ, zero, suc, List, [], ◌∷◌, ◌++◌, Bool, true, false, map, refl, sym, ap, subst, ◌∙◌, arith, append_assoc}
use Rattle.std.specs.Prelude.{◌==◌, filter, flat_map}
use Rattle.std.specs.List.{AllByRecursion, range_with_len}
use Rattle.std.proofs.lemmas.Bool.{eqb-true, eqb-false}
use Rattle.std.proofs.lemmas.Grind.{flat_map-append}
use Rattle.spec_run.specs.InTurns.{NeverFall}
use Rattle.zq_world.specs.Piece.{Piece}

lower : (a b : ℕ) (xs : List ℕ) → a ≤ b → NeverFall b xs → NeverFall a xs
lower a b [] le h = tt
lower a b (x ∷ xs) le h = (let f = h.0 in omega (arith, f, le), h.1)

module _ {N S : Type 0} where
  -- the calls of one caller, and of so many from this one on, one caller behind another
  abbrev pub by_one : ℕ → List (Piece N S) → List (Piece N S)
  by_one w pieces = filter (λ x. x.by == w) pieces

  abbrev pub by_callers : (k m : ℕ) → List (Piece N S) → List (Piece N S)
  by_callers k m pieces = flat_map (λ w. by_one w pieces) (range_with_len k m)

  -- the callers of the calls that pass a test
  abbrev pub callers : (Piece N S → Bool) → List (Piece N S) → List ℕ
  callers test pieces = map (λ x. x.by) (filter test pieces)

  pub one_here : (w : ℕ) (x : Piece N S) (xs : List (Piece N S)) → x.by ≡ w → by_one w (x ∷ xs) ≡ x ∷ by_one w xs
  one_here w x xs e = by (x.by == w) refl
    where
      by : (b : Bool) → (x.by == w) ≡ b → by_one w (x ∷ xs) ≡ x ∷ by_one w xs
      by true f = rw f refl
      by false f = absurd (eqb-false x.by w f e)

  pub one_else : (w : ℕ) (x : Piece N S) (xs : List (Piece N S)) → x.by ≢ w → by_one w (x ∷ xs) ≡ by_one w xs
  one_else w x xs e = by (x.by == w) refl
    where
      by : (b : Bool) → (x.by == w) ≡ b → by_one w (x ∷ xs) ≡ by_one w xs
      by true f = absurd (e (eqb-true x.by w f))
      by false f = rw f refl

  test_here : (test : Piece N S → Bool) (x : Piece N S) (xs : List (Piece N S)) → test x ≡ true → callers test (x ∷ xs) ≡ x.by ∷ callers test xs
  test_here test x xs e = rw e refl

  test_else : (test : Piece N S → Bool) (x : Piece N S) (xs : List (Piece N S)) → test x ≡ false → callers test (x ∷ xs) ≡ callers test xs
  test_else test x xs e = rw e refl

module _ {N S X : Type 0} (f : Piece N S → List X) (test : Piece N S → Bool) (none : (x : Piece N S) → test x ≡ false → f x ≡ []) where
  -- a call by a lower caller than all that pass
  none_below : (b w : ℕ) (xs : List (Piece N S)) → NeverFall b (callers test xs) → w < b → flat_map f (by_one w xs) ≡ []
  none_below b w [] rise lt = refl
  none_below b w (x ∷ xs) rise lt = by (test x) refl (x.by == w) refl (λ h. none_below b w xs h lt)
    where
      by : (c : Bool) → test x ≡ c → (d : Bool) → (x.by == w) ≡ d → (NeverFall b (callers test xs) → flat_map f (by_one w xs) ≡ []) → flat_map f (by_one w (x ∷ xs)) ≡ []
      by true e true g rest = absurd (never ((subst (NeverFall b) (test_here test x xs e) rise).0) (eqb-true x.by w g))
        where
          never : b ≤ x.by → x.by ≡ w → ⊥
          never le same = omega (arith, le, same, lt)
      by true e false g rest =
          let h = subst (NeverFall b) (test_here test x xs e) rise in
          ap (flat_map f) (one_else w x xs (eqb-false x.by w g)) ∙ rest (lower b x.by (callers test xs) h.0 h.1)
      by false e true g rest =
          ap (flat_map f) (one_here w x xs (eqb-true x.by w g)) ∙ ap (λ l. l ++ flat_map f (by_one w xs)) (none x e) ∙ rest (subst (NeverFall b) (test_else test x xs e) rise)
      by false e false g rest =
          ap (flat_map f) (one_else w x xs (eqb-false x.by w g)) ∙ rest (subst (NeverFall b) (test_else test x xs e) rise)

  more_of : (k m : ℕ) (xs : List (Piece N S)) → flat_map f (by_callers k (suc m) xs) ≡ flat_map f (by_one k xs) ++ flat_map f (by_callers (k + 1) m xs)
  more_of k m xs = flat_map-append f (by_one k xs) (by_callers (k + 1) m xs)

  -- a call that did nothing of this is not seen
  unseen : (k m : ℕ) (x : Piece N S) (xs : List (Piece N S)) → f x ≡ [] → flat_map f (by_callers k m (x ∷ xs)) ≡ flat_map f (by_callers k m xs)
  unseen k zero x xs e = refl
  unseen k (suc m) x xs e =
      more_of k m (x ∷ xs) ∙ ap (λ l. l ++ flat_map f (by_callers (k + 1) m (x ∷ xs))) (one (x.by == k) refl)
      ∙ ap (λ l. flat_map f (by_one k xs) ++ l) (unseen (k + 1) m x xs e) ∙ sym (more_of k m xs)
    where
      one : (b : Bool) → (x.by == k) ≡ b → flat_map f (by_one k (x ∷ xs)) ≡ flat_map f (by_one k xs)
      one true g = ap (flat_map f) (one_here k x xs (eqb-true x.by k g)) ∙ ap (λ l. l ++ flat_map f (by_one k xs)) e
      one false g = ap (flat_map f) (one_else k x xs (eqb-false x.by k g))

  -- nor one of a caller that is not among these
  passed : (k m : ℕ) (x : Piece N S) (xs : List (Piece N S)) → x.by < k → flat_map f (by_callers k m (x ∷ xs)) ≡ flat_map f (by_callers k m xs)
  passed k zero x xs lt = refl
  passed k (suc m) x xs lt =
      more_of k m (x ∷ xs) ∙ ap (λ l. flat_map f l ++ flat_map f (by_callers (k + 1) m (x ∷ xs))) (one_else k x xs (λ e. omega (arith, e, lt)))
      ∙ ap (λ l. flat_map f (by_one k xs) ++ l) (passed (k + 1) m x xs (omega (arith, lt))) ∙ sym (more_of k m xs)

  -- the first call is the first of its caller, and callers below it did nothing of this
  put_first : (k m : ℕ) (x : Piece N S) (xs : List (Piece N S)) → k ≤ x.by → x.by < k + m → NeverFall x.by (callers test xs)
      → flat_map f (by_callers k m (x ∷ xs)) ≡ f x ++ flat_map f (by_callers k m xs)
  put_first k zero x xs le lt rise = absurd (never le lt)
    where
      never : k ≤ x.by → x.by < k + 0 → ⊥
      never g h = omega (arith, g, h)
  put_first k (suc m) x xs le lt rise = more_of k m (x ∷ xs) ∙ by (x.by == k) refl (λ g h. put_first (k + 1) m x xs g h rise)
    where
      rest : List X
      rest = flat_map f (by_callers (k + 1) m xs)

      by : (b : Bool) → (x.by == k) ≡ b → (k + 1 ≤ x.by → x.by < (k + 1) + m → flat_map f (by_callers (k + 1) m (x ∷ xs)) ≡ f x ++ rest)
          → flat_map f (by_one k (x ∷ xs)) ++ flat_map f (by_callers (k + 1) m (x ∷ xs)) ≡ f x ++ flat_map f (by_callers k (suc m) xs)
      by true e more =
          let same = eqb-true x.by k e in
          ap (λ l. flat_map f l ++ flat_map f (by_callers (k + 1) m (x ∷ xs))) (one_here k x xs same)
          ∙ append_assoc (f x) (flat_map f (by_one k xs)) (flat_map f (by_callers (k + 1) m (x ∷ xs)))
          ∙ ap (λ l. f x ++ (flat_map f (by_one k xs) ++ l)) (passed (k + 1) m x xs (omega (arith, same)))
          ∙ ap (λ l. f x ++ l) (sym (more_of k m xs))
      by false e more =
          let other = eqb-false x.by k e in
          ap (λ l. flat_map f l ++ flat_map f (by_callers (k + 1) m (x ∷ xs))) (one_else k x xs other)
          ∙ ap (λ l. l ++ flat_map f (by_callers (k + 1) m (x ∷ xs))) (none_below x.by k xs rise (omega (arith, le, other)))
          ∙ more (omega (arith, le, other)) (omega (arith, lt))
          ∙ ap (λ l. f x ++ (l ++ rest)) (sym (none_below x.by k xs rise (omega (arith, le, other))))
          ∙ ap (λ l. f x ++ l) (sym (more_of k m xs))

  pub same_by_callers : (m a : ℕ) (xs : List (Piece N S)) → NeverFall a (callers test xs) → AllByRecursion (λ x. x.by < m) xs → flat_map f xs ≡ flat_map f (by_callers 0 m xs)
  same_by_callers m a [] rise few = sym (nothing 0 m)
    where
      nothing : (k n : ℕ) → flat_map f (by_callers k n []) ≡ []
      nothing k zero = refl
      nothing k (suc n) = more_of k n [] ∙ nothing (k + 1) n
  same_by_callers m a (x ∷ xs) rise few = by (test x) refl (λ c h. same_by_callers m c xs h few.1)
    where
      by : (b : Bool) → test x ≡ b → ((c : ℕ) → NeverFall c (callers test xs) → flat_map f xs ≡ flat_map f (by_callers 0 m xs)) → flat_map f (x ∷ xs) ≡ flat_map f (by_callers 0 m (x ∷ xs))
      by true e rest =
          let h = subst (NeverFall a) (test_here test x xs e) rise in
          ap (λ l. f x ++ l) (rest x.by h.1) ∙ sym (put_first 0 m x xs (omega arith) (let below = few.0 in omega (arith, below)) h.1)
      by false e rest =
          ap (λ l. l ++ flat_map f xs) (none x e) ∙ rest a (subst (NeverFall a) (test_else test x xs e) rise)
          ∙ sym (unseen 0 m x xs (none x e))
