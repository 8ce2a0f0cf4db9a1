-- Behind exact steps each look finds one thing or the other.
use Rattle.std.proofs.Common.{◌≡◌, ◌∙◌, ◌<◌, ◌≤◌, ◌+◌, inl, inr, ◌⊎◌, ℕ, zero, suc, List, [], ◌∷◌, ◌++◌, Bool, true, false, ◌||◌, Some, length, refl, sym, subst, ap, arith, append-nil, append_assoc, length-append}
use Rattle.std.specs.Prelude.{slice_get}
use Rattle.std.proofs.lemmas.Bool.{cases_order}
use Rattle.std.proofs.lemmas.List.Elements.{filter_map-append}
use Rattle.std.proofs.lemmas.List.Folds.{list_any-append}
use Rattle.zq_base.specs.Message.{Frames}
use Rattle.zq_base.specs.Ends.{PipeId}
use Rattle.spec_pattern.specs.PipeStep.{PipeStep, Commit, FullLook, RoomLook, Take, EmptyLook, DelimiterLook, WaitingLook, Seal, read_through, same_pipe, committed_by, taken_by, sealed_by, committed_to, taken_from, sealed_in, most_commits, Follows, AreExact}
use Rattle.spec_pattern.specs.TurnList.{End, GivesNone}
use Rattle.spec_pattern.proofs.Exact.{same_pipes, taken_prefix}
use Rattle.spec_pattern.specs.Existence.{IsLive}

-- exact steps behind exact steps
pub exact_join : (c : PipeId → ℕ) (past xs ys : List PipeStep) → AreExact c past xs → AreExact c (past ++ xs) ys → AreExact c past (xs ++ ys)
exact_join c past [] ys one other = subst (λ p. AreExact c p ys) (append-nil past) other
exact_join c past (x ∷ xs) ys one other =
    (one.0, exact_join c (past ++ x ∷ []) xs ys one.1 (subst (λ p. AreExact c p ys) (sym (append_assoc past (x ∷ []) xs)) other))

-- ---- no pipe holds more than it may

record Within (c : PipeId → ℕ) (p : PipeId) (past : List PipeStep) : Type 0 where
  room : length (committed_to p past) ≤ length (taken_from p past) + c p
  few : length (committed_to p past) ≤ most_commits

stepped : (c : PipeId → ℕ) (p : PipeId) (past : List PipeStep) (t : PipeStep)
    → length (committed_to p past) + length (committed_to p (t ∷ [])) ≤ (length (taken_from p past) + length (taken_from p (t ∷ []))) + c p
    → length (committed_to p past) + length (committed_to p (t ∷ [])) ≤ most_commits → Within c p (past ++ t ∷ [])
stepped c p past t room few = record {
  room = rw (filter_map-append (taken_by p) past (t ∷ []), filter_map-append (committed_by p) past (t ∷ []), length-append (committed_to p past) (committed_to p (t ∷ [])), length-append (taken_from p past) (taken_from p (t ∷ []))) room;
  few = rw (filter_map-append (committed_by p) past (t ∷ []), length-append) few;
}

committed : (c : PipeId → ℕ) (p q : PipeId) (past : List PipeStep) (m : Frames) (b : Bool) → same_pipe p q ≡ b → Within c p past → Follows c past (Commit q m) → Within c p (past ++ Commit q m ∷ [])
committed c p q past m true e old now =
    let same : p ≡ q = same_pipes p q e in
    let room : length (committed_to p past) < length (taken_from p past) + c p = subst (λ z. length (committed_to z past) < length (taken_from z past) + c z) (sym same) now.0 in
    let few : length (committed_to p past) < most_commits = subst (λ z. length (committed_to z past) < most_commits) (sym same) now.1 in
    stepped c p past (Commit q m) (rw e (omega arith)) (rw e (omega (arith, few)))
committed c p q past m false e old now = let room = old.room in let few = old.few in stepped c p past (Commit q m) (rw e (omega (arith, room))) (rw e (omega (arith, few)))

taken : (c : PipeId → ℕ) (p q : PipeId) (past : List PipeStep) (m : Frames) (b : Bool) → same_pipe p q ≡ b → Within c p past → Within c p (past ++ Take q m ∷ [])
taken c p q past m true e old = let room = old.room in let few = old.few in stepped c p past (Take q m) (rw e (omega (arith, room))) (omega (arith, few))
taken c p q past m false e old = let room = old.room in let few = old.few in stepped c p past (Take q m) (rw e (omega (arith, room))) (omega (arith, few))

within_step : (c : PipeId → ℕ) (p : PipeId) (past : List PipeStep) (t : PipeStep) → Within c p past → Follows c past t → Within c p (past ++ t ∷ [])
within_step c p past (Commit q m) old now = committed c p q past m (same_pipe p q) refl old now
within_step c p past (Take q m) old now = taken c p q past m (same_pipe p q) refl old
within_step c p past (FullLook q) old now = stepped c p past (FullLook q) (omega (arith, old.room)) (omega (arith, old.few))
within_step c p past (RoomLook q) old now = stepped c p past (RoomLook q) (omega (arith, old.room)) (omega (arith, old.few))
within_step c p past (EmptyLook q) old now = stepped c p past (EmptyLook q) (omega (arith, old.room)) (omega (arith, old.few))
within_step c p past (DelimiterLook q) old now = stepped c p past (DelimiterLook q) (omega (arith, old.room)) (omega (arith, old.few))
within_step c p past (WaitingLook q) old now = stepped c p past (WaitingLook q) (omega (arith, old.room)) (omega (arith, old.few))
within_step c p past (Seal q) old now = stepped c p past (Seal q) (omega (arith, old.room)) (omega (arith, old.few))

within_kept : (c : PipeId → ℕ) (p : PipeId) (past steps : List PipeStep) → Within c p past → AreExact c past steps → Within c p (past ++ steps)
within_kept c p past [] old exact = subst (Within c p) (sym (append-nil past)) old
within_kept c p past (t ∷ ts) old exact = subst (Within c p) (append_assoc past (t ∷ []) ts) (within_kept c p (past ++ t ∷ []) ts (within_step c p past t old exact.0) exact.1)

within : (c : PipeId → ℕ) (p : PipeId) (past : List PipeStep) → AreExact c [] past → Within c p past
within c p past exact = within_kept c p [] past (record { room = omega arith; few = omega arith }) exact

-- ---- looks

-- a look for room finds it, or finds the pipe full
pub look_out : (c : PipeId → ℕ) (past : List PipeStep) (e : End) (m : Frames) → AreExact c [] past → sealed_in e past ≡ false → Follows c past (Commit e m) ⊎ Follows c past (FullLook e)
look_out c past e m exact unsealed =
    let old = within c e past exact in
    let room = old.room in
    let few = old.few in
    elim (cases_order (length (committed_to e past)) (length (taken_from e past) + c e)) [
      | inl full ↦ inr (inl full)
      | inr (inl below) ↦ elim (cases_order (length (committed_to e past)) most_commits) [
        | inl most ↦ inr (inr most)
        | inr (inl less) ↦ inl (below, less, unsealed)
        | inr (inr more) ↦ absurd (omega (arith, few, more))
      ]
      | inr (inr above) ↦ absurd (omega (arith, room, above))
    ]

get_some : (xs : List Frames) (n : ℕ) → n < length xs → (m : Frames) × (slice_get xs n ≡ Some m)
get_some [] n less = absurd (omega (arith, less))
get_some (x ∷ xs) zero less = (x, refl)
get_some (x ∷ xs) (suc n) less = get_some xs n (omega (arith, less))

-- a look for a message finds one, or finds none
pub look_in : (c : PipeId → ℕ) (past : List PipeStep) (e : End) → AreExact c [] past
    → ((m : Frames) × Follows c past (Take (read_through e) m)) ⊎ ((look : PipeStep) × GivesNone e look × Follows c past look)
look_in c past e exact =
    let front = taken_prefix c past exact (read_through e) in
    let long = length-append (taken_from (read_through e) past) front.0 in
    let same = ap length front.1 in
    elim (cases_order (length (taken_from (read_through e) past)) (length (committed_to (read_through e) past))) [
      | inl all ↦ inr (none (sealed_in (read_through e) past) refl (sym all))
      | inr (inl below) ↦ inl (get_some (committed_to (read_through e) past) (length (taken_from (read_through e) past)) below)
      | inr (inr above) ↦ absurd (omega (arith, long, same, above))
    ]
  where
    none : (b : Bool) → sealed_in (read_through e) past ≡ b → length (committed_to (read_through e) past) ≡ length (taken_from (read_through e) past)
        → (look : PipeStep) × GivesNone e look × Follows c past look
    none true sealed all = (DelimiterLook (read_through e), inr refl, (all, sealed))
    none false sealed all = (EmptyLook (read_through e), inl refl, (all, sealed))

-- ---- steps that write no delimiter

abbrev pub SealNone : List PipeStep → Type 0
SealNone steps = (p : PipeId) → sealed_in p steps ≡ false

both_false : (a b : Bool) → a ≡ false → b ≡ false → (a || b) ≡ false
both_false true b no_a no_b = no_a
both_false false b no_a no_b = no_b

pub seal_join : (xs ys : List PipeStep) → SealNone xs → SealNone ys → SealNone (xs ++ ys)
seal_join xs ys one other p = list_any-append (sealed_by p) xs ys ∙ both_false (sealed_in p xs) (sealed_in p ys) (one p) (other p)

pub live_more : (c : PipeId → ℕ) (w : End → Bool) (past xs : List PipeStep) → IsLive c w past → AreExact c past xs → SealNone xs → IsLive c w (past ++ xs)
live_more c w past xs live exact none = record {
  exact = exact_join c [] past xs live.exact exact;
  unsealed = λ e can. list_any-append (sealed_by e) past xs ∙ both_false (sealed_in e past) (sealed_in e xs) (live.unsealed e can) (none e);
}

-- for a call that writes nothing, each list of exact steps will do
pub unwritten : (c : PipeId → ℕ) (past : List PipeStep) → AreExact c [] past → IsLive c (λ _. false) past
unwritten c past exact = record { exact = exact; unsealed = λ e can. absurd (cc) }

-- ---- what can be made

-- steps and what comes of them, which go on from the steps past
pub record Made {A : Type 0} (c : PipeId → ℕ) (past : List PipeStep) (R : List PipeStep → A → Type 0) : Type 0 where
  pub steps : List PipeStep
  pub end_ : A
  pub holds : R steps end_
  pub exact : AreExact c past steps
  pub unsealing : SealNone steps

-- with no step
pub made_none : {A : Type 0} (c : PipeId → ℕ) (past : List PipeStep) (R : List PipeStep → A → Type 0) (a : A) → R [] a → Made c past R
made_none c past R a holds = record { steps = []; end_ = a; holds = holds; exact = tt; unsealing = λ p. refl }

-- with one step
pub made_one : {A : Type 0} (c : PipeId → ℕ) (past : List PipeStep) (R : List PipeStep → A → Type 0) (a : A) (s : PipeStep) → R (s ∷ []) a → Follows c past s → SealNone (s ∷ []) → Made c past R
made_one c past R a s holds now none = record { steps = s ∷ []; end_ = a; holds = holds; exact = (now, tt); unsealing = none }

-- in two parts
pub made_two : {A B : Type 0} (c : PipeId → ℕ) (past : List PipeStep) (R : List PipeStep → A → Type 0) (S : List PipeStep → B → Type 0) (first : List PipeStep) → (f : B → A)
    → AreExact c past first → SealNone first → (rest : Made c (past ++ first) S) → R (first ++ rest.steps) (f rest.end_) → Made c past R
made_two c past R S first f exact none rest holds = record {
  steps = first ++ rest.steps;
  end_ = f rest.end_;
  holds = holds;
  exact = exact_join c past first rest.steps exact rest.exact;
  unsealing = seal_join first rest.steps none rest.unsealing;
}

-- what comes of it, said otherwise
pub made_as : {A B : Type 0} (c : PipeId → ℕ) (past : List PipeStep) (R : List PipeStep → A → Type 0) (S : List PipeStep → B → Type 0) → (m : Made c past R) (b : B) → S m.steps b → Made c past S
made_as c past R S m b holds = record { steps = m.steps; end_ = b; holds = holds; exact = m.exact; unsealing = m.unsealing }
