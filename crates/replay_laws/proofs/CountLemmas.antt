-- What is asked in the order of the control plane is what its callers ask, each counted once.
use Rattle.std.specs.Prelude.{◌≡◌, ◌<◌, ◌≤◌, ◌==◌, ◌+◌, ℕ, zero, suc, Bool, true, false, cond, nat_lt, List, [], ◌∷◌, length, sum_by, refl}
use Rattle.std.specs.List.{list_all}
use Rattle.std.proofs.Common.{arith, sym, ap, ◌∙◌}
use Rattle.std.proofs.lemmas.Bool.{eqb-true, eq-eqb, ltb-true, ltb-false}
use Rattle.std.proofs.lemmas.List.Sums.{sum_by-cons}
use Rattle.control_laws.proofs.ListLemmas.{never, left, right}
use Rattle.spec_control.specs.declared.request.Req.{Req}
use Rattle.spec_control.specs.declared.entry.Item.{Item}
use Rattle.spec_control.specs.Control.{Control}
use Rattle.spec_control.specs.ControlRun.{after_item}
use Rattle.spec_control.specs.Held.{caller_of}
use Rattle.spec_control.specs.Moments.{Moment, moments_from, moments_by}
use Rattle.spec_run.specs.Act.{Deed}
use Rattle.spec_run.specs.OwnedRun.{AreTold}
use Rattle.replay_laws.proofs.AskLemmas.{weight_item, weight_moments, weight_workers}

-- what one caller's number brings, of so many from k on
abbrev here : (k n x weight : ℕ) → ℕ
here k zero x weight = 0
here k (suc n) x weight = cond (x == k) weight 0 + here (k + 1) n x weight

none_here : (k n x weight : ℕ) → x < k → here k n x weight ≡ 0
none_here k zero x weight lt = refl
none_here k (suc n) x weight lt = by (x == k) refl (none_here (k + 1) n x weight (omega (arith, lt)))
  where
    by : (b : Bool) → (x == k) ≡ b → here (k + 1) n x weight ≡ 0 → cond (x == k) weight 0 + here (k + 1) n x weight ≡ 0
    by true e rest = let same = eqb-true x k e in absurd (omega (arith, lt, same))
    by false e rest = let zero_so : ◌≡◌ {A = ℕ} (cond (x == k) weight 0) 0 = ap {B = ℕ} (λ (b : Bool). cond b weight 0) e in omega (arith, zero_so, rest)

is_here : (k n x weight : ℕ) → k ≤ x → x < k + n → here k n x weight ≡ weight
is_here k zero x weight low high = absurd (omega (arith, low, high))
is_here k (suc n) x weight low high = by (x == k) refl (λ above. is_here (k + 1) n x weight above (omega (arith, high)))
  where
    equal : nat_lt k x ≡ false → x ≡ k
    equal h = let above = ltb-false k x h in omega (arith, low, above)

    later : (x == k) ≡ false → (k + 1 ≤ x → here (k + 1) n x weight ≡ weight) → (b : Bool) → nat_lt k x ≡ b → here (k + 1) n x weight ≡ weight
    later other rest true e = let above = ltb-true k x e in rest (omega (arith, above))
    later other rest false e = absurd (never (sym other ∙ eq-eqb x k (equal e)))

    by : (b : Bool) → (x == k) ≡ b → (k + 1 ≤ x → here (k + 1) n x weight ≡ weight) → cond (x == k) weight 0 + here (k + 1) n x weight ≡ weight
    by true e rest =
        let same = eqb-true x k e in
        let none = none_here (k + 1) n x weight (omega (arith, same)) in
        let one : ◌≡◌ {A = ℕ} (cond (x == k) weight 0) weight = ap {B = ℕ} (λ (b : Bool). cond b weight 0) e in omega (arith, none, one)
    by false e rest =
        let all = later e rest (nat_lt k x) refl in
        let zero_so : ◌≡◌ {A = ℕ} (cond (x == k) weight 0) 0 = ap {B = ℕ} (λ (b : Bool). cond b weight 0) e in omega (arith, all, zero_so)

module _ {N S : Type 0} (w : Req → ℕ) where
  -- what so many callers ask, from k on
  abbrev parts : (k n : ℕ) → List (Moment N S) → ℕ
  parts k zero ms = 0
  parts k (suc n) ms = weight_moments w (moments_by k ms) + parts (k + 1) n ms

  parts_none : (k n : ℕ) (ms : List (Moment N S)) → ms ≡ [] → parts k n ms ≡ 0
  parts_none k zero ms e = refl
  parts_none k (suc n) ms e =
      let own : weight_moments w (moments_by k ms) ≡ 0 = ap (λ (l : List (Moment N S)). weight_moments w (moments_by k l)) e in
      let rest = parts_none (k + 1) n ms e in omega (arith, own, rest)

  parts_one : (k n : ℕ) (m : Moment N S) (ms : List (Moment N S)) → parts k n (m ∷ ms) ≡ here k n (caller_of m.item) (weight_item w m.item) + parts k n ms
  parts_one k zero m ms = refl
  parts_one k (suc n) m ms = by (caller_of m.item == k) (parts_one (k + 1) n m ms)
    where
      by : (b : Bool) → parts (k + 1) n (m ∷ ms) ≡ here (k + 1) n (caller_of m.item) (weight_item w m.item) + parts (k + 1) n ms
          → weight_moments w (cond b (m ∷ moments_by k ms) (moments_by k ms)) + parts (k + 1) n (m ∷ ms)
          ≡ (cond b (weight_item w m.item) 0 + here (k + 1) n (caller_of m.item) (weight_item w m.item)) + (weight_moments w (moments_by k ms) + parts (k + 1) n ms)
      by true rest = let all = sum_by-cons (λ (x : Moment N S). weight_item w x.item) m (moments_by k ms) in omega (arith, all, rest)
      by false rest = omega (arith, rest)

  -- each item is its caller's
  parts_all : (n : ℕ) (order : List (Item N S)) (c : Control) → list_all (λ item. nat_lt (caller_of item) n) order ≡ true → parts 0 n (moments_from c order) ≡ sum_by (weight_item w) order
  parts_all n [] c all = parts_none 0 n [] refl
  parts_all n (item ∷ order) c all =
      let rest = parts_all n order (after_item item c) (right (nat_lt (caller_of item) n) _ all) in
      let one = parts_one 0 n (record { found = c; item = item }) (moments_from (after_item item c) order) in
      let within = ltb-true (caller_of item) n (left _ _ all) in
      let own = is_here 0 n (caller_of item) (weight_item w item) (omega arith) (omega (arith, within)) in
      let first = sum_by-cons (weight_item w) item order in
      omega (arith, rest, one, own, first)

  -- workers ask what their callers' numbers ask
  told_parts : (k : ℕ) (ms : List (Moment N S)) (workers : List (List (List (Deed N S)))) → AreTold k ms workers → weight_workers w workers ≡ parts k (length workers) ms
  told_parts k ms [] f = refl
  told_parts k ms (steps ∷ more) f =
      let own = ap (weight_moments w) f.0 in
      let rest = told_parts (k + 1) ms more f.1 in omega (arith, own, rest)

  pub order_asks : (order : List (Item N S)) (c : Control) (workers : List (List (List (Deed N S)))) → AreTold 0 (moments_from c order) workers
      → list_all (λ item. nat_lt (caller_of item) (length workers)) order ≡ true → sum_by (weight_item w) order ≡ weight_workers w workers
  order_asks order c workers told all = sym (parts_all (length workers) order c all) ∙ sym (told_parts 0 (moments_from c order) workers told)
