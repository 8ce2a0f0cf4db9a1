-- Places of a pipe, and lists.
use Rattle.std.proofs.Common.{◌≡◌, ◌≢◌, ◌⊎◌, ℕ, zero, suc, ◌+◌, ◌%◌, ◌<◌, ◌≤◌, List, [], ◌∷◌, ◌++◌, length, take, drop, Bool, true, false, true≢false, refl, sym, ap, ◌∙◌, inl, inr, ⊎_elim, arith, mod-lt, mod-eq_of_lt}
use Rattle.std.proofs.lemmas.List.{length-append, take-append-le, take-append-drop}
use mathlib.Core.List.{IsPrefix}
use native.Mathlib.Nat.{add-mod_right, mod-add-mod, mod_self}
use native.Mathlib.Decide.{ℕ_discrete}
use mathlib.Core.Option.{some, some-ne-none, some-injective}
use lib.ListN.{get_elem?}
use Rattle.atomic_table.proofs.Lists.{one_turn}

pub off : false ≡ true → ⊥
off e = true≢false (sym e)

pub on_or_off : (b : Bool) → (b ≡ true) ⊎ (b ≡ false)
on_or_off true = inl refl
on_or_off false = inr refl

pub same_or_not : (n m : ℕ) → (n ≡ m) ⊎ (n ≢ m)
same_or_not n m = elim (ℕ_discrete n m) [ yes e ↦ inl e | no e ↦ inr e ]

-- two messages of one round lie apart
pub apart : (n m c : ℕ) → n < m → m < n + (c + 1) → n % (c + 1) ≢ m % (c + 1)
apart n m c lt near e = absurd (let same = one_turn n m (c + 1) (omega arith) near e in omega arith)

pub apart_back : (n m c : ℕ) → n < m → m < n + (c + 1) → m % (c + 1) ≢ n % (c + 1)
apart_back n m c lt near e = apart n m c lt near (sym e)

pub round : (n c : ℕ) → (n + (c + 1)) % (c + 1) ≡ n % (c + 1)
round n c = add-mod_right n (c + 1)

pub place_lt : (n c : ℕ) → n % (c + 1) < c + 1
place_lt n c = mod-lt n (omega arith)

-- the next place
pub step_on : (n c p : ℕ) → p ≡ n % (c + 1) → p ≢ c → p + 1 ≡ (n + 1) % (c + 1)
step_on n c p e ne =
    let lt : p < c + 1 = rw e (place_lt n c) in
    sym (mod-eq_of_lt (omega arith)) ∙ ap (λ (x : ℕ). (x + 1) % (c + 1)) e ∙ mod-add-mod n (c + 1) 1

pub step_round : (n c p : ℕ) → p ≡ n % (c + 1) → p ≡ c → 0 ≡ (n + 1) % (c + 1)
step_round n c p e is = sym (mod_self (c + 1)) ∙ ap (λ (x : ℕ). (x + 1) % (c + 1)) (sym is ∙ e) ∙ mod-add-mod n (c + 1) 1

module _ {A : Type 0} where
  pub at_push : (l : List A) (a b : A) (n : ℕ) → get_elem? (l ++ a ∷ []) n ≡ some b → (get_elem? l n ≡ some b) ⊎ ((n ≡ length l) × (a ≡ b))
  at_push [] a b zero e = inr (refl, some-injective a b e)
  at_push [] a b (suc n) e = absurd (some-ne-none b (sym e))
  at_push (x ∷ xs) a b zero e = inl e
  at_push (x ∷ xs) a b (suc n) e = ⊎_elim (λ w. inl w) (λ (w : (n ≡ length xs) × (a ≡ b)). inr (omega (arith, w.0), w.1)) (at_push xs a b n e)

  pub at_lt : (l : List A) (b : A) (n : ℕ) → get_elem? l n ≡ some b → n < length l
  at_lt [] b n e = absurd (some-ne-none b (sym e))
  at_lt (x ∷ xs) b zero e = omega arith
  at_lt (x ∷ xs) b (suc n) e = let below = at_lt xs b n e in omega (arith, below)

  pub at_some : (l : List A) (n : ℕ) → n < length l → (b : A) × (get_elem? l n ≡ some b)
  at_some [] n lt = absurd (omega arith)
  at_some (x ∷ xs) zero lt = (x, refl)
  at_some (x ∷ xs) (suc n) lt = at_some xs n (omega arith)

  pub prefix_at : (l : List A) (n : ℕ) (x : A) → get_elem? l n ≡ some x → IsPrefix (take n l ++ x ∷ []) l
  prefix_at [] n x e = absurd (some-ne-none x (sym e))
  prefix_at (y ∷ ys) zero x e = (ys, ap (λ (z : A). z ∷ ys) (sym (some-injective y x e)))
  prefix_at (y ∷ ys) (suc n) x e = let p = prefix_at ys n x e in (p.0, ap (λ (l : List A). y ∷ l) p.1)

  pub prefix_of_take : (l : List A) (n : ℕ) → IsPrefix (take n l) l
  prefix_of_take l n = (drop n l, take-append-drop n l)

  -- a beginning of a list begins as the list does
  pub take_prefix : (n : ℕ) (xs ys : List A) → IsPrefix xs ys → n ≤ length xs → take n ys ≡ take n xs
  take_prefix n xs ys p le = ap (λ (l : List A). take n l) (sym p.1) ∙ take-append-le n xs p.0 le

  pub prefix_length : (xs ys : List A) → IsPrefix xs ys → length xs ≤ length ys
  prefix_length xs ys p = let e : length (xs ++ p.0) ≡ length ys = ap (λ (l : List A). length l) p.1 in omega (arith, e, length-append xs p.0)
