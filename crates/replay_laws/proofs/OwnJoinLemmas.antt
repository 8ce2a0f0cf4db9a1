-- The ends that join in an event are of the object that acts in it.
use Rattle.std.specs.Prelude.{◌≡◌, ◌≢◌, ◌==◌, ℕ, Bool, true, false, cond, List, [], ◌∷◌, ◌++◌, Some, All, filter, length, refl}
use Rattle.std.proofs.Common.{arith, sym, ap, ◌∙◌, subst, length-append}
use Rattle.std.proofs.lemmas.Bool.{eqb-true, eqb-false}
use Rattle.std.proofs.lemmas.List.Elements.{All-nil, All-cons, All-head, All-tail}
use Rattle.zq_base.specs.declared.ids.EndId.{EndId}
use Rattle.spec_control.specs.declared.entry.Did.{Did}
use Rattle.spec_control.specs.Control.{Control, owner_of}
use Rattle.spec_control.specs.After.{after}
use Rattle.spec_control.specs.ControlRun.{Fits}
use Rattle.control_laws.proofs.LeadLemmas.{attached_by}
use Rattle.control_laws.proofs.AttachedLemmas.{attached_after}
use Rattle.control_laws.proofs.AttachedOnceLemmas.{IsOld, AreOld, old_run}
use Rattle.control_laws.specs.OwnMoves.{own_moves}
use Rattle.control_laws.specs.Spared.{Spared, touched_in}
use Rattle.control_laws.proofs.EventLemmas.{other_ends_stay}
use Rattle.replay_laws.proofs.WalkLemmas.{Reached}

filter_on : {X : Type 0} (test : X → Bool) (xs ys : List X) → filter test (xs ++ ys) ≡ filter test xs ++ filter test ys
filter_on test [] ys = refl
filter_on test (x ∷ xs) ys = by (test x) (filter_on test xs ys)
  where
    by : (b : Bool) → filter test (xs ++ ys) ≡ filter test xs ++ filter test ys → cond b (x ∷ filter test (xs ++ ys)) (filter test (xs ++ ys)) ≡ cond b (x ∷ filter test xs) (filter test xs) ++ filter test ys
    by true e = ap (λ l. x ∷ l) e
    by false e = e

filter_same : {X : Type 0} (P : X → Type 0) (one other : X → Bool) → ((x : X) → P x → one x ≡ other x) → (xs : List X) → All P xs → filter one xs ≡ filter other xs
filter_same P one other same [] all = refl
filter_same P one other same (x ∷ xs) all =
    ap (λ (b : Bool). cond b (x ∷ filter one xs) (filter one xs)) (same x (All-head P x xs all)) ∙ by (other x) (filter_same P one other same xs (All-tail P x xs all))
  where
    by : (b : Bool) → filter one xs ≡ filter other xs → cond b (x ∷ filter one xs) (filter one xs) ≡ cond b (x ∷ filter other xs) (filter other xs)
    by true e = ap (λ l. x ∷ l) e
    by false e = e

nothing_more : {X : Type 0} (xs ys zs : List X) → xs ++ ys ≡ zs → xs ≡ zs → ys ≡ []
nothing_more xs [] zs p q = refl
nothing_more xs (y ∷ ys) zs p q =
    let a = length-append xs (y ∷ ys) in
    let b = ap length p in
    let c = ap length q in
    absurd (omega (arith, a, b, c))

-- where none of these is another's, all are this one's
all_own : (owner : EndId → ℕ) (i : ℕ) (es : List EndId) → ((j : ℕ) → j ≢ i → filter (λ e. owner e == j) es ≡ []) → All (λ e. owner e ≡ i) es
all_own owner i [] none = All-nil (λ (e : EndId). owner e ≡ i)
all_own owner i (e ∷ es) none = All-cons (λ (x : EndId). owner x ≡ i) e es (first (owner e == i) refl) (all_own owner i es (λ j other. rest j (owner e == j) (none j other)))
  where
    here : (n : ℕ) → (n == n) ≡ true
    here n = grind arith

    first : (b : Bool) → (owner e == i) ≡ b → owner e ≡ i
    first true is = eqb-true (owner e) i is
    first false is =
        let empty = none (owner e) (eqb-false (owner e) i is) in
        let has : filter (λ x. owner x == owner e) (e ∷ es) ≡ e ∷ filter (λ x. owner x == owner e) es = ap (λ (b : Bool). cond b (e ∷ filter (λ x. owner x == owner e) es) (filter (λ x. owner x == owner e) es)) (here (owner e)) in
        cc

    rest : (j : ℕ) (b : Bool) → cond b (e ∷ filter (λ x. owner x == j) es) (filter (λ x. owner x == j) es) ≡ [] → filter (λ x. owner x == j) es ≡ []
    rest j true empty = cc
    rest j false empty = empty

module _ {N S : Type 0} where
  pub old_of : (c : Control) → Reached N S c → AreOld c
  old_of c r = subst AreOld r.is (old_run 1 r.items r.run)

  -- the ends that an event attaches are of the object that acts
  pub attached_own : (c : Control) → Reached N S c → (did : Did N S) → Fits c did → (i : ℕ) → touched_in c did ≡ Some i → All (λ e. owner_of (after did c) e ≡ i) (attached_by (own_moves c did))
  attached_own c r did fits i touched = all_own (owner_of (after did c)) i (attached_by (own_moves c did)) none
    where
      spared : (j : ℕ) → j ≢ i → Spared j c (after did c)
      spared j other =
          subst (λ d. (touched_in d did ≢ Some j) → Fits d did → Spared j d (after did d)) r.is
          (λ apart fit. other_ends_stay N S 1 r.items r.run did fit j apart)
          (λ same. other (let e : Some j ≡ Some i = sym same ∙ touched in cc)) fits

      none : (j : ℕ) → j ≢ i → filter (λ e. owner_of (after did c) e == j) (attached_by (own_moves c did)) ≡ []
      none j other =
          let s = spared j other in
          nothing_more (filter (λ e. owner_of (after did c) e == j) c.attached) (filter (λ e. owner_of (after did c) e == j) (attached_by (own_moves c did))) (filter (λ e. owner_of c e == j) c.attached)
          (sym (filter_on (λ e. owner_of (after did c) e == j) c.attached (attached_by (own_moves c did))) ∙ ap (filter (λ e. owner_of (after did c) e == j)) (sym (attached_after c did)) ∙ s.attached)
          (filter_same (IsOld c) (λ e. owner_of (after did c) e == j) (λ e. owner_of c e == j) (λ e old. ap (λ (n : ℕ). n == j) (s.owners e old.within)) c.attached (old_of c r))
