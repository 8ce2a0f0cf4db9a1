-- Places and rows by number, after one of them changed.
use Rattle.std.proofs.Common.{◌≡◌, ◌≢◌, ◌∙◌, ℕ, zero, suc, ◌<◌, nat_lt, Bool, true, false, cond, List, [], ◌∷◌, length, set, Option, Some, None, refl, ap, arith}
use Rattle.std.proofs.lemmas.Bool.Decides.{nat_tests}
use Rattle.std.proofs.lemmas.List.Sums.{position_or_len_is}
use Rattle.std.specs.List.{AllPairs}
use Rattle.std.specs.Prelude.{Box, position, slice_index_or}
use Rattle.std.specs.declared.alloc.Global.{Global}
use Rattle.zq_base.specs.declared.ids.EndId.{EndId}
use Rattle.end_table.specs.declared.row.EndRow.{EndRow}
use Rattle.end_table.specs.Rows.{Rows, unboxed, row_at}
use Rattle.end_table.specs.declared.table.Place.{Place}
use Rattle.end_table.specs.Places.{IsOnce, is_of, place_at}

-- one that passes is the first, where no two pass
pub found_first : {X : Type 0} (test : X → Bool) (xs : List X) (k : ℕ) (d : X) → AllPairs (λ x y. test y ≡ true → test x ≡ false) xs → k < length xs → test (slice_index_or xs k d) ≡ true → position test xs ≡ Some k
found_first test xs k d pairs within is =
    let less : nat_lt k (length xs) ≡ true = grind (arith, nat_tests, within) in
    ap (λ (n : ℕ). cond (nat_lt n (length xs)) (Some n) None) (position_or_len_is test xs k d (omega (arith, within)) (λ j before. pairs j k d before within is) (λ _. is))
    ∙ ap (λ (b : Bool). cond b (Some k) None) less

module _ {O I : Type 0} where
  pub row_there : (rows : Rows O I) (k : ℕ) (x : Option (Box (EndRow O I) Global)) → k < length rows → row_at (set rows k x) k ≡ unboxed x
  row_there [] k x lt = absurd (omega arith)
  row_there (r ∷ rs) zero x lt = refl
  row_there (r ∷ rs) (suc k) x lt = row_there rs k x (omega arith)

  pub row_else : (rows : Rows O I) (k j : ℕ) (x : Option (Box (EndRow O I) Global)) → j ≢ k → row_at (set rows k x) j ≡ row_at rows j
  row_else [] k j x ne = refl
  row_else (r ∷ rs) zero zero x ne = absurd (ne refl)
  row_else (r ∷ rs) zero (suc j) x ne = refl
  row_else (r ∷ rs) (suc k) zero x ne = refl
  row_else (r ∷ rs) (suc k) (suc j) x ne = row_else rs k j x (λ e. ne (ap suc e))

  -- what the code finds at a place
  pub row_found : (rows : Rows O I) (k : ℕ) (x : Option (Box (EndRow O I) Global)) → k < length rows → x ≡ slice_index_or rows k x → unboxed x ≡ row_at rows k
  row_found [] k x lt e = absurd (omega arith)
  row_found (y ∷ ys) zero x lt e = ap unboxed e
  row_found (y ∷ ys) (suc k) x lt e = row_found ys k x (omega arith) e

module _ {N I : Type 0} where
  pub place_there : (ps : List (Place N I)) (k : ℕ) (p q : Place N I) → place_at ps k ≡ Some p → place_at (set ps k q) k ≡ Some q
  place_there [] k p q h = cc
  place_there (x ∷ xs) zero p q h = refl
  place_there (x ∷ xs) (suc k) p q h = place_there xs k p q h

  pub place_else : (ps : List (Place N I)) (k j : ℕ) (q : Place N I) → j ≢ k → place_at (set ps k q) j ≡ place_at ps j
  place_else [] k j q ne = refl
  place_else (x ∷ xs) zero zero q ne = absurd (ne refl)
  place_else (x ∷ xs) zero (suc j) q ne = refl
  place_else (x ∷ xs) (suc k) zero q ne = refl
  place_else (x ∷ xs) (suc k) (suc j) q ne = place_else xs k j q (λ e. ne (ap suc e))

  pub place_within : (ps : List (Place N I)) (k : ℕ) (p : Place N I) → place_at ps k ≡ Some p → k < length ps
  place_within [] k p h = cc
  place_within (x ∷ xs) zero p h = omega arith
  place_within (x ∷ xs) (suc k) p h = let r = place_within xs k p h in omega (arith, r)

  -- what the code finds at a place
  pub place_found : (ps : List (Place N I)) (k : ℕ) (p x : Place N I) → place_at ps k ≡ Some p → x ≡ slice_index_or ps k x → x ≡ p
  place_found [] k p x h e = cc
  place_found (y ∷ ys) zero p x h e = cc
  place_found (y ∷ ys) (suc k) p x h e = place_found ys k p x h e

  pub place_of_index : (ps : List (Place N I)) (k : ℕ) (d : Place N I) → k < length ps → place_at ps k ≡ Some (slice_index_or ps k d)
  place_of_index [] k d lt = absurd (omega (arith, lt))
  place_of_index (x ∷ xs) zero d lt = refl
  place_of_index (x ∷ xs) (suc k) d lt = place_of_index xs k d (omega (arith, lt))

  -- no two places hold the end
  pub once_in_pairs : (e : EndId) (ps : List (Place N I)) → IsOnce e ps → AllPairs (λ p q. is_of e q ≡ true → is_of e p ≡ false) ps
  once_in_pairs e ps once i j d less within is =
      once i j (slice_index_or ps i d) (slice_index_or ps j d) (λ same. absurd (omega (arith, less, same))) (place_of_index ps i d (omega (arith, less, within))) (place_of_index ps j d within) is
