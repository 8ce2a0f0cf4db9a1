-- Callers that did and saw nothing yet have no moment behind the items of another.
use Rattle.std.specs.Prelude.{◌≤◌, ◌<◌}
use Rattle.std.proofs.Common.{◌≡◌, ◌≢◌, ◌∙◌, ◌++◌, ◌+◌, ℕ, List, [], ◌∷◌, sym, ap, arith, subst}
use Rattle.std.specs.List.{All}
use Rattle.std.proofs.lemmas.List.{append-nil, append_assoc}
use Rattle.std.proofs.lemmas.List.Elements.{All-head, All-tail}
use Rattle.spec_control.specs.declared.entry.Item.{Item}
use Rattle.spec_control.specs.Control.{begun}
use Rattle.spec_control.specs.Held.{caller_of}
use Rattle.spec_control.specs.Moments.{moments_by, moments_from}
use Rattle.plain_desk.specs.Lent.{GrowsBy, Lent, moments_of}
use Rattle.plain_desk.proofs.OrderLemmas.{other_same}
use Rattle.zq_tests_leaves.specs.Asking.{NoneFrom}

no_more : {N S : Type 0} (by k workers : ℕ) → by ≢ k → (items more : List (Item N S)) → All (λ item. caller_of item ≡ by) more
    → moments_by k (moments_from (begun workers) (items ++ more)) ≡ moments_by k (moments_from (begun workers) items)
no_more by k workers other items [] all = ap (λ (l : List (Item _ _)). moments_by k (moments_from (begun workers) l)) (append-nil items)
no_more {N} {S} by k workers other items (item ∷ more) all =
    let P = λ (x : Item N S). caller_of x ≡ by in
    ap (λ (l : List (Item N S)). moments_by k (moments_from (begun workers) l)) (sym (append_assoc items (item ∷ []) more))
    ∙ no_more by k workers other (items ++ item ∷ []) more (All-tail P item more all)
    ∙ other_same k workers items item (λ same. other (sym (All-head P item more all) ∙ same))

-- numbers
lower : (a b n : ℕ) → a < n → n ≤ b → a ≡ b → ⊥
lower a b n less from same = Prim.grind arith

below : (a n : ℕ) → a ≡ n → a < 1 + n
below a n same = Prim.grind arith

behind : (n k : ℕ) → 1 + n ≤ k → n ≤ k
behind n k from = Prim.grind arith

itself : (n : ℕ) → n ≤ n
itself n = Prim.grind arith

module _ {G N S : Type 0} (n : ℕ) (old new : Lent G N S) where
  none_grows : GrowsBy old new → old.caller < n → NoneFrom n old → NoneFrom n new
  none_grows grows less none k from =
      ap (λ (w : ℕ). moments_by k (moments_from (begun w) new.items)) grows.workers
      ∙ ap (λ (l : List (Item N S)). moments_by k (moments_from (begun old.past.workers) l)) grows.items
      ∙ no_more old.caller k old.past.workers (λ same. lower old.caller k n less from same) old.items grows.more grows.by
      ∙ none k from

  -- the next caller is lent the context
  pub first_lent : new ≡ record old { caller = n } → NoneFrom n old → moments_of new ≡ []
  first_lent is none = subst (λ (d : Lent G N S). moments_of d ≡ []) (sym is) (none n (itself n))

  pub none_lent : new ≡ record old { caller = n } → NoneFrom n old → NoneFrom n new
  none_lent is none = subst (NoneFrom n) (sym is) none

module _ {G N S : Type 0} (n : ℕ) (old new : Lent G N S) (grows : GrowsBy old new) (is : old.caller ≡ n) where
  -- it does something, for the first time or again
  pub none_behind : NoneFrom n old → NoneFrom (1 + n) new
  none_behind none = none_grows (1 + n) old new grows (below old.caller n is) (λ k from. none k (behind n k from))

  pub none_still : NoneFrom (1 + n) old → NoneFrom (1 + n) new
  none_still none = none_grows (1 + n) old new grows (below old.caller n is) none

  pub same_caller : new.caller ≡ n
  same_caller = grows.caller ∙ is
