-- What a number is that is read off a list of which one element was written.
use Rattle.std.specs.Prelude.{◌≡◌, ◌≢◌, ◌<◌, ◌+◌, ◌==◌, ℕ, zero, suc, Bool, true, false, cond, List, [], ◌∷◌, length, slice_index_or, slice_set, refl}
use Rattle.std.proofs.Common.{arith, sym, ap, ◌∙◌, inl, inr}
use Rattle.std.proofs.lemmas.Bool.{cases_eq, eq-eqb, ne_eqb}
use Rattle.std.proofs.lemmas.List.{get_or-set_same, get_or-set_other}
use Rattle.zq_base.specs.declared.ids.ObjId.{ObjId}

-- 1 where the owner is this object
abbrev pub one_if_owner : ObjId → ObjId → ℕ
one_if_owner id owner = cond (owner.0 == id.0) 1 0

-- an object is the owner, or another
pub data IsOwner (id owner : ObjId) : Type 0 where
  is_it : id ≡ owner → (owner.0 == id.0) ≡ true → one_if_owner id owner ≡ 1 → IsOwner id owner
  is_other : id.0 ≢ owner.0 → (owner.0 == id.0) ≡ false → one_if_owner id owner ≡ 0 → IsOwner id owner

pub owner_cases : (id owner : ObjId) → IsOwner id owner
owner_cases id owner =
    elim (cases_eq id.0 owner.0) [
      | inl same ↦
          let e = eq-eqb owner.0 id.0 (sym same) in
          is_it (ap (λ (n : ℕ). let i : ObjId = record { 0 = n } in i) same) e (ap (λ b. cond b 1 0) e)
      | inr other ↦
          let e = ne_eqb owner.0 id.0 (λ h. other (sym h)) in
          is_other other e (ap (λ b. cond b 1 0) e)
    ]

-- an owner is itself
pub one_if_it : (id : ObjId) → one_if_owner id id ≡ 1
one_if_it id = ap (λ (b : Bool). cond b 1 0) (eq-eqb id.0 id.0 refl)

-- what was read of a list within it, whatever stands for the rest
pub read_within : {X : Type 0} (xs : List X) (i : ℕ) (x d : X) → i < length xs → x ≡ slice_index_or xs i x → x ≡ slice_index_or xs i d
read_within [] i x d h e = absurd (none h)
  where
    none : i < 0 → ⊥
    none k = omega arith
read_within (y ∷ xs) zero x d h e = e
read_within (y ∷ xs) (suc i) x d h e = read_within xs i x d (omega (arith, h)) e

module _ {X : Type 0} (d : X) (g : X → ℕ) (xs : List X) (i id : ObjId) (x : X) (h : i.0 < length xs) where
  -- the two reads, at the place of the write and elsewhere
  here : id ≡ i → (g (slice_index_or (slice_set xs i.0 x) id.0 d) ≡ g x) × (g (slice_index_or xs id.0 d) ≡ g (slice_index_or xs i.0 d))
  here same = (
    ap (λ (k : ObjId). g (slice_index_or (slice_set xs i.0 x) k.0 d)) same ∙ ap g (get_or-set_same xs i.0 x d h),
    ap (λ (k : ObjId). g (slice_index_or xs k.0 d)) same,
  )

  elsewhere : id.0 ≢ i.0 → g (slice_index_or (slice_set xs i.0 x) id.0 d) ≡ g (slice_index_or xs id.0 d)
  elsewhere other = ap g (get_or-set_other xs i.0 id.0 x d other)

  -- the number stays
  pub reads_same : g x ≡ g (slice_index_or xs i.0 d) → g (slice_index_or (slice_set xs i.0 x) id.0 d) ≡ g (slice_index_or xs id.0 d)
  reads_same e =
      elim (owner_cases id i) [
        | is_it same test one ↦ (here same).0 ∙ e ∙ sym (here same).1
        | is_other other test none ↦ elsewhere other
      ]

  -- the number grows by this much at the place of the write
  pub reads_more : (n : ℕ) → g x ≡ g (slice_index_or xs i.0 d) + n →
      g (slice_index_or (slice_set xs i.0 x) id.0 d) ≡ g (slice_index_or xs id.0 d) + cond (i.0 == id.0) n 0
  reads_more n e =
      elim (owner_cases id i) [
        | is_it same test one ↦
            let a = (here same).0 in
            let b = (here same).1 in
            let c : cond (i.0 == id.0) n 0 ≡ n = ap (λ b. cond b n 0) test in
            omega (arith, a, b, c, e)
        | is_other other test none ↦
            let a = elsewhere other in
            let c : cond (i.0 == id.0) n 0 ≡ 0 = ap (λ b. cond b n 0) test in
            omega (arith, a, c)
      ]

  -- the number falls by 1 there
  pub reads_less : g x + 1 ≡ g (slice_index_or xs i.0 d) →
      g (slice_index_or (slice_set xs i.0 x) id.0 d) + one_if_owner id i ≡ g (slice_index_or xs id.0 d)
  reads_less e =
      elim (owner_cases id i) [
        | is_it same test one ↦
            let a = (here same).0 in
            let b = (here same).1 in
            omega (arith, a, b, one, e)
        | is_other other test none ↦
            let a = elsewhere other in
            omega (arith, a, none)
      ]
