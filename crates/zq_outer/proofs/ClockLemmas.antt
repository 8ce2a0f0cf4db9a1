-- A clock is read once more.
use Rattle.std.proofs.Common.{◌≡◌, ◌≤◌, ◌<◌, ◌+◌, ℕ, zero, suc, List, [], ◌∷◌, ◌++◌, length, Option, Some, None, refl, sym, ap, ◌∙◌, arith, length-append}
use Rattle.std.specs.Prelude.{IfSome, slice_get}
use Rattle.zq_outer.specs.Readings.{ClockAt, last_of, ReadsClock}

some_same : (a b : ℕ) → ◌≡◌ {A = Option ℕ} (Some a) (Some b) → a ≡ b
some_same a b e = cc

not_some : (a : ℕ) → ◌≡◌ {A = Option ℕ} None (Some a) → ⊥
not_some a e = cc

-- none is below the one before it
abbrev Rise : ℕ → List ℕ → Type 0
Rise last readings = (n x y : ℕ) → slice_get (last ∷ readings) n ≡ Some x → slice_get readings n ≡ Some y → x ≤ y

rise_more : (last r : ℕ) (rs : List ℕ) → Rise last rs → last_of last rs ≤ r → Rise last (rs ++ r ∷ [])
rise_more last r [] rise le zero x y is next = let a = some_same last x is in let b = some_same r y next in omega (arith, le, a, b)
rise_more last r [] rise le (suc n) x y is next = absurd (not_some y next)
rise_more last r (q ∷ rs) rise le zero x y is next = rise 0 x y is next
rise_more last r (q ∷ rs) rise le (suc n) x y is next = rise_more q r rs (λ m a b. rise (suc m) a b) le n x y is next

last_more : (last r : ℕ) (rs : List ℕ) → last_of last (rs ++ r ∷ []) ≡ r
last_more last r [] = refl
last_more last r (q ∷ rs) = last_more q r rs

-- those that were told are those that came
abbrev Told : (ℕ → Option ℕ) → List ℕ → Type 0
Told to_come readings = (n x : ℕ) → n < length readings → to_come n ≡ Some x → slice_get readings n ≡ Some x

told_more : (to_come : ℕ → Option ℕ) (r : ℕ) (rs : List ℕ) → Told to_come rs → ((x : ℕ) → to_come (length rs) ≡ Some x → r ≡ x) → Told to_come (rs ++ r ∷ [])
told_more to_come r [] told one zero x lt is = ap Some (one x is)
told_more to_come r [] told one (suc n) x lt is = absurd (never lt)
  where
    never : suc n < length (r ∷ []) → ⊥
    never e = omega (arith, e)
told_more to_come r (q ∷ rs) told one zero x lt is = told 0 x (omega arith) is
told_more to_come r (q ∷ rs) told one (suc n) x lt is =
    told_more (λ m. to_come (suc m)) r rs (λ m y less same. told (suc m) y (omega (arith, less)) same) one n x (omega (arith, lt)) is

pub reads_none : (c : ClockAt) → ReadsClock c [] c
reads_none c = record {
  rising = λ n x y is next. absurd (not_some y next);
  last_is = refl;
  told = λ n x lt is. absurd (never n lt);
  next = λ n. ap c.to_come (all n);
}
  where
    never : (n : ℕ) → n < 0 → ⊥
    never n e = omega (arith, e)

    all : (n : ℕ) → n ≡ n + length {A = ℕ} []
    all n = omega arith

-- what a clock tells of one reading
reads_so : (a b c : ClockAt) (rs : List ℕ) (r : ℕ) → ReadsClock a rs b → c.last ≡ r → b.last ≤ r → ((x : ℕ) → b.to_come 0 ≡ Some x → r ≡ x) → ((n : ℕ) → c.to_come n ≡ b.to_come (n + 1))
    → ReadsClock a (rs ++ r ∷ []) c
reads_so a b c rs r reads is later told next = record {
  rising = rise_more a.last r rs reads.rising (let e = reads.last_is in omega (arith, e, later));
  last_is = is ∙ sym (last_more a.last r rs);
  told = told_more a.to_come r rs reads.told (λ x same. told x (reads.next 0 ∙ ap a.to_come none_first ∙ same));
  next = λ n. next n ∙ reads.next (n + 1) ∙ ap a.to_come (more n);
}
  where
    more : (n : ℕ) → n + 1 + length rs ≡ n + length (rs ++ r ∷ [])
    more n = let e = length-append rs (r ∷ []) in let one : length (r ∷ []) ≡ 1 = refl in omega (arith, e, one)

    none_first : 0 + length rs ≡ length rs
    none_first = omega arith

told_is : (r x : ℕ) (told : Option ℕ) → IfSome told (λ t. r ≡ t) → told ≡ Some x → r ≡ x
told_is r x None was is = absurd (not_some x is)
told_is r x (Some t) was is = was ∙ some_same t x is

pub reads_one : (a c : ClockAt) (r : ℕ) → c.last ≡ r → a.last ≤ r → IfSome (a.to_come 0) (λ t. r ≡ t) → ((n : ℕ) → c.to_come n ≡ a.to_come (n + 1)) → ReadsClock a (r ∷ []) c
reads_one a c r is later told next = reads_so a a c [] r (reads_none a) is later (λ x same. told_is r x (a.to_come 0) told same) next

pub reads_more : (a b c : ClockAt) (rs : List ℕ) (r : ℕ) → ReadsClock a rs b → ReadsClock b (r ∷ []) c → ReadsClock a (rs ++ r ∷ []) c
reads_more a b c rs r reads one = reads_so a b c rs r reads one.last_is (one.rising 0 b.last r refl refl) (λ x same. some_same r x (one.told 0 x (omega arith) same)) one.next
