-- How the ends of a closed socket are noted, one after the other.
use Rattle.std.specs.Prelude.{◌≡◌, ◌∷◌, [], zero, suc, ◌<◌, ◌≤◌, ◌+◌, ℕ, Bool, List, length, map, slice_index_or, slice_set, refl}
use Rattle.std.proofs.Common.{arith, sym, ap, ◌∙◌, subst}
use Rattle.std.proofs.lemmas.List.{get_or_default}
use Rattle.spec_control.specs.declared.entry.Joining.{Joining}
use Rattle.spec_control.specs.Control.{Control, met_in, place_of}
use Rattle.desk.specs.declared.given.Given.{Given}
use Rattle.ctl_moves.specs.Noting.{noted_end, noted_join}

-- ---- one after the other
-- a list of which the first were changed
abbrev pub first_mapped : {X : Type 0} → (X → X) → ℕ → List X → List X
first_mapped f zero xs = xs
first_mapped f (suc n) [] = []
first_mapped f (suc n) (x ∷ xs) = f x ∷ first_mapped f n xs

pub mapped_many : {X : Type 0} (f : X → X) (n : ℕ) (xs : List X) → length (first_mapped f n xs) ≡ length xs
mapped_many f zero xs = refl
mapped_many f (suc n) [] = refl
mapped_many f (suc n) (x ∷ xs) = ap (λ (k : ℕ). suc k) (mapped_many f n xs)

mapped_suc : {X : Type 0} (f : X → X) (n : ℕ) (xs : List X) (d : X) → n < length xs → slice_set (first_mapped f n xs) n (f (slice_index_or (first_mapped f n xs) n d)) ≡ first_mapped f (suc n) xs
mapped_suc f n [] d lt = absurd (omega (arith, lt))
mapped_suc f zero (x ∷ xs) d lt = refl
mapped_suc f (suc n) (x ∷ xs) d lt = ap (λ (ys : List _). f x ∷ ys) (mapped_suc f n xs d (omega (arith, lt)))

one_more : (n : ℕ) → suc n ≡ n + 1
one_more n = omega arith

pub mapped_next : {X : Type 0} (f : X → X) (n : ℕ) (xs : List X) (d : X) → n < length xs → slice_set (first_mapped f n xs) n (f (slice_index_or (first_mapped f n xs) n d)) ≡ first_mapped f (n + 1) xs
mapped_next f n xs d lt = mapped_suc f n xs d lt ∙ ap (λ (k : ℕ). first_mapped f k xs) (one_more n)

pub mapped_all : {X : Type 0} (f : X → X) (n : ℕ) (xs : List X) → length xs ≤ n → first_mapped f n xs ≡ map f xs
mapped_all f zero [] all = refl
mapped_all f zero (x ∷ xs) all = absurd (omega (arith, all))
mapped_all f (suc n) [] all = refl
mapped_all f (suc n) (x ∷ xs) all = ap (λ (ys : List _). f x ∷ ys) (mapped_all f n xs (omega (arith, all)))

module _ (c : Control) (n : ℕ) where
  pub end_noted : {N O I : Type 0} (xs ys : List (Given N O I)) (x y : Given N O I) (met : Bool) → n < length xs → length ys ≡ length xs → ys ≡ first_mapped (noted_end c) n xs → x ≡ slice_index_or ys n x → y ≡ slice_index_or ys n y →
      met ≡ met_in (place_of c y.end) (c.reasons y.end) → slice_set ys n (record x { met = met }) ≡ first_mapped (noted_end c) (n + 1) xs
  end_noted xs ys x y met less many are is also noted =
      ap (λ (m : Bool). slice_set ys n (record x { met = m })) (noted ∙ ap (λ (z : Given _ _ _). met_in (place_of c z.end) (c.reasons z.end)) (also ∙ get_or_default ys n y x (subst (λ (k : ℕ). n < k) (sym many) less) ∙ sym is))
      ∙ ap (λ (z : Given _ _ _). slice_set ys n (noted_end c z)) is ∙ ap (λ (zs : List (Given _ _ _)). slice_set zs n (noted_end c (slice_index_or zs n x))) are ∙ mapped_next (noted_end c) n xs x less

  pub join_noted : {N : Type 0} (xs ys : List (Joining N)) (x y : Joining N) (met : Bool) → n < length xs → length ys ≡ length xs → ys ≡ first_mapped (noted_join c) n xs → x ≡ slice_index_or ys n x → y ≡ slice_index_or ys n y →
      met ≡ met_in (place_of c y.end) (c.reasons y.end) → slice_set ys n (record x { met = met }) ≡ first_mapped (noted_join c) (n + 1) xs
  join_noted xs ys x y met less many are is also noted =
      ap (λ (m : Bool). slice_set ys n (record x { met = m })) (noted ∙ ap (λ (z : Joining _). met_in (place_of c z.end) (c.reasons z.end)) (also ∙ get_or_default ys n y x (subst (λ (k : ℕ). n < k) (sym many) less) ∙ sym is))
      ∙ ap (λ (z : Joining _). slice_set ys n (noted_join c z)) is ∙ ap (λ (zs : List (Joining _)). slice_set zs n (noted_join c (slice_index_or zs n x))) are ∙ mapped_next (noted_join c) n xs x less
