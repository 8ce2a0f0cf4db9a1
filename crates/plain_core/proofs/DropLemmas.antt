-- A table of dropped messages, and the drops that a call tells.
use Rattle.std.specs.Prelude.{◌≡◌, ◌≤◌, ◌<◌, ◌+◌, ◌-◌, ◌==◌, ◌&&◌, ℕ, Bool, true, false, List, [], ◌∷◌, ◌++◌, if◌then◌else◌, drop, filter, length, slice_index_or, slice_set, take, refl}
use Rattle.std.proofs.Common.{arith, sym, ap, ◌∙◌, subst, length-append, length-drop, get_or-set_same, get_or-set_other}
use Rattle.std.proofs.lemmas.Bool.{eqb-true, eq-eqb}
use Rattle.std.proofs.lemmas.List.{get_or-drop, take_more, take_rest}
use Rattle.std.proofs.lemmas.List.Elements.{filter-append}
use Rattle.zq_base.specs.Ends.{PipeId, other_end}
use Rattle.spec_pattern.specs.declared.answers.Skip.{Skip}
use Rattle.spec_control.specs.Control.{Control, owner_of}
use Rattle.control_laws.proofs.ListLemmas.{Pushed, is_old, is_new, pushed, never}
use Rattle.core_laws.specs.Drops.{drops_told, is_told_of}
use Rattle.core_laws.specs.Table.{drops_in}
use Rattle.plain_core.specs.Dropped.{CountsAlike, CountsOne, CountsTold}

-- ---- counts

-- a further count of none
pub zero_more : (xs : List ℕ) → CountsAlike xs (xs ++ 0 ∷ [])
zero_more xs k = by (pushed xs 0 0 k)
  where
    by : Pushed xs 0 0 k → slice_index_or (xs ++ 0 ∷ []) k 0 ≡ slice_index_or xs k 0
    by (is_old same) = same
    by (is_new at now past) = now ∙ sym past

none_more : (n : ℕ) → n ≡ n + 0
none_more n = omega arith

pub counted_one : (xs ys zs : List ℕ) (place many : ℕ) → place < length ys → CountsAlike xs ys → many ≡ slice_index_or ys place 0 + 1 → zs ≡ slice_set ys place many → CountsOne true place xs zs
counted_one xs ys zs place many there alike is set k = ap (λ (l : List ℕ). slice_index_or l k 0) set ∙ by (k == place) refl
  where
    by : (b : Bool) → (k == place) ≡ b → slice_index_or (slice_set ys place many) k 0 ≡ slice_index_or xs k 0 + (if k == place then 1 else 0)
    by true e =
        let at : k ≡ place = eqb-true k place e in
        ap (λ (i : ℕ). slice_index_or (slice_set ys place many) i 0) at ∙ get_or-set_same ys place many 0 there ∙ is
        ∙ ap (λ (i : ℕ). slice_index_or ys i 0 + 1) (sym at) ∙ ap (λ (n : ℕ). n + 1) (alike k)
        ∙ ap (λ (b : Bool). slice_index_or xs k 0 + (if b then 1 else 0)) (sym e)
    by false e =
        get_or-set_other ys place k many 0 (λ same. never (sym e ∙ eq-eqb k place same)) ∙ alike k ∙ none_more (slice_index_or xs k 0)
        ∙ ap (λ (b : Bool). slice_index_or xs k 0 + (if b then 1 else 0)) (sym e)

-- ---- one drop

and_false : (b : Bool) → (b && false) ≡ false
and_false true = refl
and_false false = refl

told_one : (b : Bool) (skip : Skip) → (if b then 1 else 0) ≡ length (if b then skip ∷ [] else [])
told_one true skip = refl
told_one false skip = refl

-- ---- drops in order

told_both : (c : Control) (o : ℕ) (p : PipeId) (xs ys : List Skip) → drops_told c o p (xs ++ ys) ≡ drops_told c o p xs + drops_told c o p ys
told_both c o p xs ys = by (owner_of c (other_end p) == o)
  where
    by : (b : Bool) → (if b then length (filter (is_told_of p) (xs ++ ys)) else 0) ≡ (if b then length (filter (is_told_of p) xs) else 0) + (if b then length (filter (is_told_of p) ys) else 0)
    by true = ap length (filter-append (is_told_of p) xs ys) ∙ length-append (filter (is_told_of p) xs) (filter (is_told_of p) ys)
    by false = refl

none_told : (c : Control) (o : ℕ) (p : PipeId) → 0 ≡ drops_told c o p []
none_told c o p = by (owner_of c (other_end p) == o)
  where
    by : (b : Bool) → ◌≡◌ {A = ℕ} 0 (if b then 0 else 0)
    by true = refl
    by false = refl

pub told_none : (c : Control) (o : ℕ) (told : List Skip) (before : ℕ) (old : List ℕ) → CountsTold c o (take (before - before) (drop before told)) old old
told_none c o told before old p =
    let none : before - before ≡ 0 = omega arith in
    none_more (drops_in old p) ∙ ap (λ (n : ℕ). drops_in old p + n) (none_told c o p ∙ ap (λ (k : ℕ). drops_told c o p (take k (drop before told))) (sym none))

pub told_more : (c : Control) (o : ℕ) (told : List Skip) (before place : ℕ) (d : Skip) (old mid new : List ℕ) → before ≤ place → place < length told
    → CountsTold c o (take (place - before) (drop before told)) old mid → CountsTold c o (slice_index_or told place d ∷ []) mid new → CountsTold c o (take (place + 1 - before) (drop before told)) old new
told_more c o told before place d old mid new from lt first one p =
    let rest : List Skip = drop before told in
    let k : ℕ = place - before in
    let at : before + k ≡ place = omega (arith, from) in
    let next : k + 1 ≡ place + 1 - before = omega (arith, from) in
    let many = length-drop before told in
    let few : k < length rest = omega (arith, from, lt, many) in
    let read : slice_index_or rest k d ≡ slice_index_or told place d = get_or-drop before told k d ∙ ap (λ (i : ℕ). slice_index_or told i d) at in
    one p ∙ ap (λ (n : ℕ). n + drops_told c o p (slice_index_or told place d ∷ [])) (first p) ∙ add_assoc (drops_in old p) _ _
    ∙ ap (λ (n : ℕ). drops_in old p + n) (sym (told_both c o p (take k rest) (slice_index_or told place d ∷ []))
    ∙ ap (λ (s : Skip). drops_told c o p (take k rest ++ s ∷ [])) (sym read) ∙ ap (drops_told c o p) (sym (take_more rest k d few)) ∙ ap (λ (i : ℕ). drops_told c o p (take i rest)) next)
  where
    add_assoc : (x y z : ℕ) → (x + y) + z ≡ x + (y + z)
    add_assoc x y z = omega arith

pub told_all : (c : Control) (o : ℕ) (told : List Skip) (before place : ℕ) (old new : List ℕ) → place ≡ length told → CountsTold c o (take (place - before) (drop before told)) old new
    → CountsTold c o (drop before told) old new
told_all c o told before place old new end counts =
    subst (λ (l : List Skip). CountsTold c o l old new) (ap (λ (n : ℕ). take (n - before) (drop before told)) end ∙ take_rest told before) counts
