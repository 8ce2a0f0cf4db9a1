-- The last moment of a caller is the last item of the order.
use Rattle.std.specs.Prelude.{◌≡◌, ◌≢◌, ◌==◌, ◌++◌, ◌∷◌, [], ℕ, Bool, cond, List, All, refl}
use Rattle.std.proofs.Common.{arith, sym, ap, ◌∙◌}
use Rattle.std.proofs.lemmas.Bool.{eq-eqb, ne_eqb}
use Rattle.std.proofs.lemmas.List.{append-nil, append_cancel_left}
use Rattle.std.proofs.lemmas.List.Elements.{All-head, All-tail, filter-append}
use Rattle.spec_control.specs.declared.entry.Item.{Item}
use Rattle.spec_control.specs.Control.{Control, begun}
use Rattle.spec_control.specs.ControlRun.{FitsItem, IsControlRun, after_all, after_item}
use Rattle.spec_control.specs.Held.{caller_of}
use Rattle.spec_control.specs.Moments.{Moment, moments_by, moments_from}
use Rattle.plain_desk.specs.Lent.{moments_of, GrowsBy, Lent}
use Rattle.plain_desk.proofs.OrderLemmas.{after_more}
use Rattle.socket_laws.specs.Laws.{MomentsAreLast, OthersStay}

none_one : {X : Type 0} {x : X} → [] ≡ x ∷ [] → ⊥
none_one e = Prim.grind arith

same_one : {X : Type 0} {x y : X} → x ∷ [] ≡ y ∷ [] → x ≡ y
same_one e = Prim.grind arith

two_one : {X : Type 0} {x y z : X} {xs : List X} → x ∷ y ∷ xs ≡ z ∷ [] → ⊥
two_one e = Prim.grind arith

module _ {N S : Type 0} where
  moments_append : (xs ys : List (Item N S)) (c : Control) → moments_from c (xs ++ ys) ≡ moments_from c xs ++ moments_from (after_all xs c) ys
  moments_append [] ys c = refl
  moments_append (x ∷ xs) ys c = ap (λ (ms : List (Moment N S)). record { found = c; item = x } ∷ ms) (moments_append xs ys (after_item x c))

  -- those of the caller of all of them are all
  all_own : (k : ℕ) (xs : List (Item N S)) (c : Control) → All (λ x. caller_of x ≡ k) xs → moments_by k (moments_from c xs) ≡ moments_from c xs
  all_own k [] c by = refl
  all_own k (x ∷ xs) c by =
      ap (λ (b : Bool). cond b (record { found = c; item = x } ∷ moments_by k (moments_from (after_item x c) xs)) (moments_by k (moments_from (after_item x c) xs))) (eq-eqb (caller_of x) k (All-head (λ y. caller_of y ≡ k) x xs by))
      ∙ ap (λ (ms : List (Moment N S)). record { found = c; item = x } ∷ ms) (all_own k xs (after_item x c) (All-tail (λ y. caller_of y ≡ k) x xs by))

  -- and none is another caller's
  none_other : (j k : ℕ) → j ≢ k → (xs : List (Item N S)) (c : Control) → All (λ x. caller_of x ≡ k) xs → moments_by j (moments_from c xs) ≡ []
  none_other j k apart [] c by = refl
  none_other j k apart (x ∷ xs) c by =
      ap (λ (b : Bool). cond b (record { found = c; item = x } ∷ moments_by j (moments_from (after_item x c) xs)) (moments_by j (moments_from (after_item x c) xs)))
      (ne_eqb (caller_of x) j (λ same. apart (sym same ∙ All-head (λ y. caller_of y ≡ k) x xs by)))
      ∙ none_other j k apart xs (after_item x c) (All-tail (λ y. caller_of y ≡ k) x xs by)

  record IsOne (c : Control) (xs : List (Item N S)) (m : Moment N S) : Type 0 where
    pub items : xs ≡ m.item ∷ []
    pub found : m.found ≡ c

  one_of : (c : Control) (xs : List (Item N S)) (m : Moment N S) → moments_from c xs ≡ m ∷ [] → IsOne c xs m
  one_of c [] m e = absurd (none_one e)
  one_of c (x ∷ []) m e =
      let same = same_one e in
      record { items = ap (λ (y : Moment N S). y.item ∷ []) same; found = sym (ap (λ (y : Moment N S). y.found) same) }
  one_of c (x ∷ y ∷ xs) m e = absurd (two_one e)

  -- the last of a run fits the state that those before it led to
  pub last_fits : (xs : List (Item N S)) (x : Item N S) (c : Control) → IsControlRun c (xs ++ x ∷ []) → FitsItem (after_all xs c) x
  last_fits [] x c run = run.0
  last_fits (y ∷ xs) x c run = last_fits xs x (after_item y c) run.1

module _ {G N S : Type 0} (old new : Lent G N S) (grows : GrowsBy old new) where
  pub grown : moments_of new ≡ moments_of old ++ moments_from (after_all old.items (begun old.past.workers)) grows.more
  grown =
      let k = old.caller in
      let w = old.past.workers in
      ap (λ (n : ℕ). moments_by n (moments_from (begun new.past.workers) new.items)) grows.caller
      ∙ ap (λ (n : ℕ). moments_by k (moments_from (begun n) new.items)) grows.workers
      ∙ ap (λ (xs : List (Item N S)). moments_by k (moments_from (begun w) xs)) grows.items
      ∙ ap (moments_by k) (moments_append old.items grows.more (begun w))
      ∙ filter-append (λ (m : Moment N S). caller_of m.item == k) (moments_from (begun w) old.items) (moments_from (after_all old.items (begun w)) grows.more)
      ∙ ap (λ (ms : List (Moment N S)). moments_by k (moments_from (begun w) old.items) ++ ms) (all_own k grows.more (after_all old.items (begun w)) grows.by)

pub moments_are_last : (G N S : Type 0) → MomentsAreLast G N S
moments_are_last G N S old new m call =
    let grows = call.grows in
    let before = call.before in
    let behind = call.behind in
    let w = old.past.workers in
    let c = after_all old.items (begun w) in
    let one = one_of c grows.more m (append_cancel_left (moments_of old) (moments_from c grows.more) (m ∷ []) (sym (grown old new grows) ∙ call.one_more)) in
    let items = grows.items ∙ ap (λ (xs : List (Item N S)). old.items ++ xs) one.items in
    record {
      items = items;
      found = one.found ∙ sym before.control;
      left = ap (after_item m.item) one.found
          ∙ sym (after_more old.items m.item (begun w))
          ∙ ap (λ (xs : List (Item N S)). after_all xs (begun w)) (sym items)
          ∙ ap (λ (n : ℕ). after_all new.items (begun n)) (sym grows.workers)
          ∙ sym behind.control;
    }

pub others_stay : (G N S : Type 0) → OthersStay G N S
others_stay G N S old new grows j apart =
    let w = old.past.workers in
    ap (λ (n : ℕ). moments_by j (moments_from (begun n) new.items)) grows.workers
    ∙ ap (λ (xs : List (Item N S)). moments_by j (moments_from (begun w) xs)) grows.items
    ∙ ap (moments_by j) (moments_append old.items grows.more (begun w))
    ∙ filter-append (λ (m : Moment N S). caller_of m.item == j) (moments_from (begun w) old.items) (moments_from (after_all old.items (begun w)) grows.more)
    ∙ ap (λ (ms : List (Moment N S)). moments_by j (moments_from (begun w) old.items) ++ ms) (none_other j old.caller apart grows.more (after_all old.items (begun w)) grows.by)
    ∙ append-nil (moments_by j (moments_from (begun w) old.items))
