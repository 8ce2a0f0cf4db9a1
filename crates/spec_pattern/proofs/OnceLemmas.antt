-- Elements of which no two have one key: a filter keeps that, and so does a further element of another key.
use Rattle.std.proofs.Common.{◌≡◌, ◌≢◌, ◌∙◌, ℕ, zero, suc, List, [], ◌∷◌, ◌++◌, Bool, true, false, Some, All, cond, map, refl, sym, ap, arith}
use Rattle.std.proofs.lemmas.Option.{same_Some, none-some}
use Rattle.std.specs.Prelude.{filter, slice_get}
use Rattle.std.proofs.lemmas.List.Elements.{All-nil, All-cons, All-head, All-tail}

before_zero : (j : ℕ) → zero ≡ suc j → ⊥
before_zero j e = omega (arith, e)

same_before : (i j : ℕ) → suc i ≡ suc j → i ≡ j
same_before i j e = omega (arith, e)

pub unmapped : {X Y : Type 0} (P : Y → Type 0) (f : X → Y) (xs : List X) → All P (map f xs) → All (λ x. P (f x)) xs
unmapped P f [] all = All-nil (λ x. P (f x))
unmapped P f (x ∷ xs) all = All-cons (λ y. P (f y)) x xs (All-head P (f x) (map f xs) all) (unmapped P f xs (All-tail P (f x) (map f xs) all))

module _ {X K : Type 0} (key : X → K) where
  -- no two have one key
  abbrev pub AreOnce : List X → Type 0
  AreOnce xs = (i j : ℕ) (a b : X) → slice_get xs i ≡ Some a → slice_get xs j ≡ Some b → key a ≡ key b → i ≡ j

  -- none of these has this key
  abbrev IsApart : K → List X → Type 0
  IsApart k xs = (j : ℕ) (b : X) → slice_get xs j ≡ Some b → k ≡ key b → ⊥

  abbrev Differ : List X → Type 0
  Differ [] = Unit {0}
  Differ (x ∷ xs) = IsApart (key x) xs × Differ xs

  differ : (xs : List X) → AreOnce xs → Differ xs
  differ [] one = tt
  differ (x ∷ xs) one =
      ((λ j b here same. before_zero j (one 0 (suc j) x b refl here same)), differ xs (λ i j a b x y same. same_before i j (one (suc i) (suc j) a b x y same)))

  once : (xs : List X) → Differ xs → AreOnce xs
  once [] apart i j a b x y same = absurd (none-some a x)
  once (n ∷ ns) apart zero zero a b x y same = refl
  once (n ∷ ns) apart zero (suc j) a b x y same = absurd (apart.0 j b y (ap key (same_Some n a x) ∙ same))
  once (n ∷ ns) apart (suc i) zero a b x y same = absurd (apart.0 i a x (ap key (same_Some n b y) ∙ sym same))
  once (n ∷ ns) apart (suc i) (suc j) a b x y same = ap suc (once ns apart.1 i j a b x y same)

  -- what a filter leaves was there
  filter_apart : (k : K) (p : X → Bool) (ns : List X) → IsApart k ns → IsApart k (filter p ns)
  filter_apart k p [] apart = apart
  filter_apart k p (n ∷ ns) apart = by (p n) (filter_apart k p ns (λ j. apart (suc j)))
    where
      by : (b : Bool) → IsApart k (filter p ns) → IsApart k (cond b (n ∷ filter p ns) (filter p ns))
      by false rest = rest
      by true rest = at
        where
          at : IsApart k (n ∷ filter p ns)
          at zero b here same = apart 0 b here same
          at (suc j) b here same = rest j b here same

  filter_differ : (p : X → Bool) (ns : List X) → Differ ns → Differ (filter p ns)
  filter_differ p [] apart = tt
  filter_differ p (n ∷ ns) apart = by (p n) (filter_differ p ns apart.1)
    where
      by : (b : Bool) → Differ (filter p ns) → Differ (cond b (n ∷ filter p ns) (filter p ns))
      by false rest = rest
      by true rest = (filter_apart (key n) p ns apart.0, rest)

  pub once_filter : (p : X → Bool) (ns : List X) → AreOnce ns → AreOnce (filter p ns)
  once_filter p ns one = once (filter p ns) (filter_differ p ns (differ ns one))

  -- one element more, of a further key
  more_apart : (k : K) (ns : List X) (n : X) → IsApart k ns → (k ≡ key n → ⊥) → IsApart k (ns ++ n ∷ [])
  more_apart k [] n apart other zero b here same = other (same ∙ sym (ap key (same_Some n b here)))
  more_apart k [] n apart other (suc j) b here same = absurd (none-some b here)
  more_apart k (x ∷ ns) n apart other zero b here same = apart 0 b here same
  more_apart k (x ∷ ns) n apart other (suc j) b here same = more_apart k ns n (λ i. apart (suc i)) other j b here same

  more_differ : (ns : List X) (n : X) → All (λ x. key x ≢ key n) ns → Differ ns → Differ (ns ++ n ∷ [])
  more_differ [] n others apart = (λ j b here. absurd (none-some b here), tt)
  more_differ (x ∷ ns) n others apart =
      (more_apart (key x) ns n apart.0 (All-head (λ y. key y ≢ key n) x ns others), more_differ ns n (All-tail (λ y. key y ≢ key n) x ns others) apart.1)

  pub once_more : (ns : List X) (n : X) → All (λ x. key x ≢ key n) ns → AreOnce ns → AreOnce (ns ++ n ∷ [])
  once_more ns n others one = once (ns ++ n ∷ []) (more_differ ns n others (differ ns one))
