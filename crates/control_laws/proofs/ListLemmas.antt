-- Tests, and reads of a list behind a push or a write.
use Rattle.std.specs.Prelude.{◌≡◌, ◌<◌, ◌&&◌, ℕ, Bool, true, false, not, List, [], ◌∷◌, ◌++◌, length, slice_index_or, slice_set, refl}
use Rattle.std.proofs.Common.{arith, sym, ap, ◌∙◌, subst, inl, inr, length-append}
use Rattle.std.proofs.lemmas.List.{get_or_past, get_or_push, get_or-set_same, get_or-set_other}
use Rattle.std.proofs.lemmas.Bool.{cases_order, cases_eq}
use Rattle.std.proofs.Math.ListN.{get_or-append}

pub never : false ≡ true → ⊥
never f = Prim.grind arith

pub clash : (b : Bool) → b ≡ true → b ≡ false → ⊥
clash b h k = never (sym k ∙ h)

pub left : (a b : Bool) → (a && b) ≡ true → a ≡ true
left true b h = refl
left false b h = absurd (never h)

pub right : (a b : Bool) → (a && b) ≡ true → b ≡ true
right true b h = h
right false b h = absurd (never h)

pub is_false : (b : Bool) → not b ≡ true → b ≡ false
is_false true h = absurd (never h)
is_false false h = refl

pub and : (a b : Bool) → a ≡ true → b ≡ true → (a && b) ≡ true
and true b h k = k
and false b h k = absurd (never h)

pub data Pushed {X : Type 0} (xs : List X) (x d : X) (k : ℕ) : Type 0 where
  is_old : slice_index_or (xs ++ x ∷ []) k d ≡ slice_index_or xs k d → Pushed xs x d k
  is_new : k ≡ length xs → slice_index_or (xs ++ x ∷ []) k d ≡ x → slice_index_or xs k d ≡ d → Pushed xs x d k

pub pushed : {X : Type 0} (xs : List X) (x d : X) (k : ℕ) → Pushed xs x d k
pushed xs x d k =
    elim (cases_order k (length xs)) [
      | inl same ↦ is_new same (get_or_push xs x d k (sym same)) (get_or_past xs k d (omega (arith, same)))
      | inr (inl below) ↦ is_old (get_or-append xs (x ∷ []) d k below)
      | inr (inr above) ↦ is_old (get_or_past (xs ++ x ∷ []) k d (omega (arith, above, length-append xs (x ∷ []))) ∙ sym (get_or_past xs k d (omega (arith, above))))
    ]

pub data Written {X : Type 0} (xs : List X) (x d : X) (i k : ℕ) : Type 0 where
  is_here : k ≡ i → slice_index_or (slice_set xs i x) k d ≡ x → Written xs x d i k
  is_elsewhere : slice_index_or (slice_set xs i x) k d ≡ slice_index_or xs k d → Written xs x d i k

pub written : {X : Type 0} (xs : List X) (x d : X) (i k : ℕ) → i < length xs → Written xs x d i k
written xs x d i k within =
    elim (cases_eq k i) [
      | inl same ↦ is_here same (subst (λ n. slice_index_or (slice_set xs i x) n d ≡ x) (sym same) (get_or-set_same xs i x d within))
      | inr other ↦ is_elsewhere (get_or-set_other xs i k x d other)
    ]

-- a row that is not that of nobody has a place
pub placed : {X : Type 0} (f : X → Bool) (xs : List X) (d : X) (i : ℕ) → f d ≡ true → f (slice_index_or xs i d) ≡ false → i < length xs
placed f xs d i all not_here =
    elim (cases_order i (length xs)) [
      | inl same ↦ absurd (clash (f d) all (sym (ap f (get_or_past xs i d (omega (arith, same)))) ∙ not_here))
      | inr (inl below) ↦ below
      | inr (inr above) ↦ absurd (clash (f d) all (sym (ap f (get_or_past xs i d (omega (arith, above)))) ∙ not_here))
    ]
