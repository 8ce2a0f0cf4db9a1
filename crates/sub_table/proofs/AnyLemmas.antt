-- Lists by what is in them.
use Rattle.std.proofs.Common.{◌≡◌, ◌∙◌, ℕ, Bool, true, false, cond, ◌<◌, ◌||◌, ◌&&◌, filter, List, [], ◌∷◌, Some, nat_eq, nat_lt, refl, sym, ap, arith}
use Rattle.std.proofs.lemmas.Bool.{ltb-true}
use Rattle.std.proofs.lemmas.Map.Views.{exact_unsigned_eq}
use Rattle.std.specs.Cmp.{nat_eq_equiv}
use Rattle.std.specs.List.{list_any, AllByRecursion}
use Rattle.std.specs.List.Sorted.{IsStrictlySortedBy}
use Rattle.std.specs.Map.{keys_of, lookup}
use Rattle.std.specs.Option.{is_some}
use Rattle.std.specs.Ordering.{nat_cmp}
use Rattle.std.specs.declared.cmp.Ordering.TheVariants.{Less, Equal, Greater}
use Rattle.spec_pattern.specs.Topics.{Subscribers}
use Rattle.sub_table.specs.View.{is_peer}

clash : false ≡ true → ⊥
clash e = cc

-- two tests that follow from one another are one
pub both_ways : (a b : Bool) → (a ≡ true → b ≡ true) → (b ≡ true → a ≡ true) → a ≡ b
both_ways true b there back = sym (there refl)
both_ways false true there back = back refl
both_ways false false there back = refl

or_true : (b : Bool) → (b || true) ≡ true
or_true true = refl
or_true false = refl

module _ {K : Type 0} (eq : K → K → Bool) where
  -- one that passes stands in the list
  pub any_gives : ((x : K) → eq x x ≡ true) → (test : K → Bool) (xs : List K) → list_any test xs ≡ true → (x : K) × (list_any (eq x) xs ≡ true) × (test x ≡ true)
  any_gives itself test [] h = absurd (clash h)
  any_gives itself test (x ∷ xs) h = by (test x) refl h (λ r. any_gives itself test xs r)
    where
      by : (b : Bool) → test x ≡ b → (b || list_any test xs) ≡ true
          → (list_any test xs ≡ true → (y : K) × (list_any (eq y) xs ≡ true) × (test y ≡ true))
          → (y : K) × (list_any (eq y) (x ∷ xs) ≡ true) × (test y ≡ true)
      by true is h rest = (x, ap (λ b. b || list_any (eq x) xs) (itself x), is)
      by false is h rest = let r = rest h in (r.0, ap (λ b. eq r.0 x || b) r.1 ∙ or_true (eq r.0 x), r.2)

  -- one that stands in the list and passes
  pub any_at : ((x y : K) → eq x y ≡ true → x ≡ y) → (test : K → Bool) (xs : List K) (x : K) → list_any (eq x) xs ≡ true → test x ≡ true → list_any test xs ≡ true
  any_at exact test [] x there is = there
  any_at exact test (y ∷ xs) x there is = by (eq x y) refl there (test y) refl (λ r. any_at exact test xs x r is)
    where
      by : (b : Bool) → eq x y ≡ b → (b || list_any (eq x) xs) ≡ true → (c : Bool) → test y ≡ c
          → (list_any (eq x) xs ≡ true → list_any test xs ≡ true) → (c || list_any test xs) ≡ true
      by b same there true here rest = refl
      by true same there false here rest = absurd (clash (sym here ∙ sym (ap test (exact x y same)) ∙ is))
      by false same there false here rest = rest there

-- a peer with a row is one of the peers
pub row_is_key : (q : ℕ) (es : Subscribers ℕ) → is_some (lookup (nat_eq q) es) ≡ is_peer (keys_of es) q
row_is_key q [] = refl
row_is_key q (e ∷ es) = by (nat_eq q e.0) (row_is_key q es)
  where
    by : (b : Bool) → is_some (lookup (nat_eq q) es) ≡ is_peer (keys_of es) q → is_some (cond b (Some e.1) (lookup (nat_eq q) es)) ≡ (b || is_peer (keys_of es) q)
    by true rest = refl
    by false rest = rest

-- ---- numbers that rise

nat_cmp_less : (x y : ℕ) → nat_cmp x y ≡ Less → x < y
nat_cmp_less x y h = by (nat_lt x y) refl (nat_eq x y) h
  where
    by : (a : Bool) → nat_lt x y ≡ a → (b : Bool) → cond a Less (cond b Equal Greater) ≡ Less → x < y
    by true below b h = ltb-true x y below
    by false below true h = absurd (cc)
    by false below false h = absurd (cc)

beyond : (x q : ℕ) (xs : List ℕ) → AllByRecursion (λ y. nat_cmp x y ≡ Less) xs → is_peer xs q ≡ true → x < q
beyond x q [] up there = absurd (clash there)
beyond x q (y ∷ xs) up there = by (nat_eq q y) refl there (λ r. beyond x q xs up.1 r)
  where
    by : (b : Bool) → nat_eq q y ≡ b → (b || is_peer xs q) ≡ true → (is_peer xs q ≡ true → x < q) → x < q
    by true same there rest = let e : q ≡ y = exact_unsigned_eq q y same in let l : x < y = nat_cmp_less x y up.0 in omega arith
    by false other there rest = rest there

heads_meet : (x y : ℕ) (xs ys : List ℕ) → AllByRecursion (λ z. nat_cmp x z ≡ Less) xs → AllByRecursion (λ z. nat_cmp y z ≡ Less) ys
    → is_peer (y ∷ ys) x ≡ true → is_peer (x ∷ xs) y ≡ true → x ≡ y
heads_meet x y xs ys up down there back = by (nat_eq x y) refl there (nat_eq y x) refl back
  where
    by : (a : Bool) → nat_eq x y ≡ a → (a || is_peer ys x) ≡ true → (b : Bool) → nat_eq y x ≡ b → (b || is_peer xs y) ≡ true → x ≡ y
    by true same there b is back = exact_unsigned_eq x y same
    by false other there true same back = sym (exact_unsigned_eq y x same)
    by false other there false is back =
        let l : y < x = beyond y x ys down there in
        let k : x < y = beyond x y xs up back in
        absurd (omega arith)

behind : (x q : ℕ) (xs : List ℕ) → AllByRecursion (λ z. nat_cmp x z ≡ Less) xs → is_peer xs q ≡ true → nat_eq q x ≡ false
behind x q xs up there = by (nat_eq q x) refl
  where
    by : (b : Bool) → nat_eq q x ≡ b → nat_eq q x ≡ false
    by true same = let e : q ≡ x = exact_unsigned_eq q x same in let l : x < q = beyond x q xs up there in absurd (omega arith)
    by false other = other

-- two lists of numbers that rise are one where they have the same numbers
pub sorted_same : (xs ys : List ℕ) → IsStrictlySortedBy nat_cmp xs → IsStrictlySortedBy nat_cmp ys → ((q : ℕ) → is_peer xs q ≡ is_peer ys q) → xs ≡ ys
unfolding IsStrictlySortedBy
sorted_same [] [] up down same = refl
sorted_same [] (y ∷ ys) up down same = absurd (clash (same y ∙ ap (λ b. b || is_peer ys y) (nat_eq_equiv.refl y)))
sorted_same (x ∷ xs) [] up down same = absurd (clash (sym (same x) ∙ ap (λ b. b || is_peer xs x) (nat_eq_equiv.refl x)))
sorted_same (x ∷ xs) (y ∷ ys) up down same =
    let e : x ≡ y =
    heads_meet x y xs ys up.0 down.0 (sym (same x) ∙ ap (λ b. b || is_peer xs x) (nat_eq_equiv.refl x)) (same y ∙ ap (λ b. b || is_peer ys y) (nat_eq_equiv.refl y)) in
    let rest : xs ≡ ys =
    sorted_same xs ys up.1 down.1 (λ q. both_ways (is_peer xs q) (is_peer ys q)
    (λ h. sym (ap (λ b. b || is_peer ys q) (ap (nat_eq q) (sym e) ∙ behind x q xs up.0 h)) ∙ sym (same q) ∙ ap (λ b. nat_eq q x || b) h ∙ or_true (nat_eq q x))
    (λ h. sym (ap (λ b. b || is_peer xs q) (ap (nat_eq q) e ∙ behind y q ys down.0 h)) ∙ same q ∙ ap (λ b. nat_eq q y || b) h ∙ or_true (nat_eq q y))) in
    λ i. e i ∷ rest i

-- a filter by what is in it
pub is_peer-filter : (test : ℕ → Bool) (xs : List ℕ) (q : ℕ) → is_peer (filter test xs) q ≡ (is_peer xs q && test q)
is_peer-filter test [] q = refl
is_peer-filter test (x ∷ xs) q = by (test x) refl (nat_eq q x) refl (is_peer-filter test xs q)
  where
    by : (a : Bool) → test x ≡ a → (b : Bool) → nat_eq q x ≡ b → is_peer (filter test xs) q ≡ (is_peer xs q && test q)
        → is_peer (cond a (x ∷ filter test xs) (filter test xs)) q ≡ ((b || is_peer xs q) && test q)
    by true is true same rest = ap (λ b. b || is_peer (filter test xs) q) same ∙ sym (ap test (exact_unsigned_eq q x same) ∙ is)
    by true is false other rest = ap (λ b. b || is_peer (filter test xs) q) other ∙ rest
    by false is true same rest = rest ∙ ap (λ b. is_peer xs q && b) no ∙ and_false (is_peer xs q) ∙ sym no
      where
        no : test q ≡ false
        no = ap test (exact_unsigned_eq q x same) ∙ is

        and_false : (b : Bool) → (b && false) ≡ false
        and_false true = refl
        and_false false = refl
    by false is false other rest = rest
