-- At one look there is one step: what goes on from one past under exact looks finds there what the past left.
use Rattle.std.proofs.Common.{◌≡◌, ◌∙◌, inl, inr, ℕ, List, [], ◌∷◌, ◌++◌, None, length, sym, subst, ap, arith, true≢false, append-nil, append_assoc}
use Rattle.std.specs.Prelude.{slice_get}
use Rattle.std.proofs.lemmas.Option.{slice_get_past}
use Rattle.zq_base.specs.Message.{Frames}
use Rattle.zq_base.specs.Ends.{PipeId}
use Rattle.spec_pattern.specs.PipeStep.{PipeStep, Commit, FullLook, Take, read_through, committed_to, taken_from, Follows, AreExact}
use Rattle.spec_pattern.specs.TurnList.{End, GivesNone}

-- two lists of steps are the same, and so is what came of them
pub record SameEnd {A : Type 0} (xs : List PipeStep) (a : A) (ys : List PipeStep) (b : A) : Type 0 where
  pub same_steps : xs ≡ ys
  pub same_end : a ≡ b

-- the same, and something made of what came of them
pub end_as : {A B : Type 0} (f : A → B) (xs ys : List PipeStep) (a b : A) → SameEnd xs a ys b → SameEnd xs (f a) ys (f b)
end_as f xs ys a b same = record { same_steps = same.same_steps; same_end = ap f same.same_end }

-- exact steps are exact in parts
pub exact_front : (c : PipeId → ℕ) (past xs ys : List PipeStep) → AreExact c past (xs ++ ys) → AreExact c past xs
exact_front c past [] ys exact = tt
exact_front c past (x ∷ xs) ys exact = (exact.0, exact_front c (past ++ x ∷ []) xs ys exact.1)

pub exact_behind : (c : PipeId → ℕ) (past xs ys : List PipeStep) → AreExact c past (xs ++ ys) → AreExact c (past ++ xs) ys
exact_behind c past [] ys exact = rw append-nil exact
exact_behind c past (x ∷ xs) ys exact = rw append_assoc at (exact_behind c (past ++ x ∷ []) xs ys exact.1)

-- two lists of capacities, the steps past, and steps that go on from them
module _ (c d : PipeId → ℕ) where
  -- a pipe has room or is full, and not both
  pub room_or_full : (past : List PipeStep) (p : PipeId) (m : Frames) → c p ≡ d p → Follows c past (Commit p m) → Follows d past (FullLook p) → ⊥
  room_or_full past p m same (room, few, unsealed) (inl full) = omega (arith, same, room, full)
  room_or_full past p m same (room, few, unsealed) (inr most) = omega (arith, few, most)

  -- no message is behind as many takes as commits
  none_there : (past : List PipeStep) (p : PipeId) (m : Frames) → Follows c past (Take p m) → length (committed_to p past) ≡ length (taken_from p past) → ⊥
  none_there past p m take all =
      let none : slice_get (committed_to p past) (length (taken_from p past)) ≡ None =
      slice_get_past (committed_to p past) (length (taken_from p past)) (omega (arith, all)) in
      cc

  -- a pipe has a message, or gives none, and not both
  pub take_or_none : (past : List PipeStep) (e : End) (m : Frames) (look : PipeStep) → Follows c past (Take (read_through e) m) → Follows d past look → GivesNone e look → ⊥
  take_or_none past e m look take found (inl empty) = none_there past (read_through e) m take (subst (Follows d past) empty found).0
  take_or_none past e m look take found (inr at_end) = none_there past (read_through e) m take (subst (Follows d past) at_end found).0

  -- a look that gave no message is one alone
  pub one_look : (past : List PipeStep) (e : End) (a b : PipeStep) → Follows c past a → Follows d past b → GivesNone e a → GivesNone e b → a ≡ b
  one_look past e a b f g (inl x) (inl y) = x ∙ sym y
  one_look past e a b f g (inr x) (inr y) = x ∙ sym y
  one_look past e a b f g (inl x) (inr y) =
      absurd (true≢false (sym (subst (Follows d past) y g).1 ∙ (subst (Follows c past) x f).1))
  one_look past e a b f g (inr x) (inl y) =
      absurd (true≢false (sym (subst (Follows c past) x f).1 ∙ (subst (Follows d past) y g).1))

  -- one message is the oldest
  pub one_taken : (past : List PipeStep) (p : PipeId) (m n : Frames) → Follows c past (Take p m) → Follows d past (Take p n) → m ≡ n
  one_taken past p m n x y = cc

  -- what goes on from one past by exact steps is one alone
  abbrev pub IsSettled : {A : Type 0} → (List PipeStep → A → Type 0) → Type 0
  IsSettled {A} R = (past xs ys : List PipeStep) (a b : A) → R xs a → R ys b → AreExact c past xs → AreExact d past ys → SameEnd xs a ys b

  -- steps of two parts: the first is settled, and from what came of it the second
  pub in_parts : {A B : Type 0} (R : List PipeStep → A → Type 0) (S : A → Type 0) → IsSettled R → (past xs ys first rest first2 rest2 : List PipeStep) (a a2 : A) (b b2 : B)
      → xs ≡ first ++ rest → ys ≡ first2 ++ rest2 → R first a → R first2 a2 → S a2
      → (S a → AreExact c (past ++ first) rest → AreExact d (past ++ first) rest2 → SameEnd rest b rest2 b2)
      → AreExact c past xs → AreExact d past ys → SameEnd {A = A × B} xs (a, b) ys (a2, b2)
  in_parts {A} {B} R S settled past xs ys first rest first2 rest2 a a2 b b2 is is2 r r2 s2 then x y =
      let left = subst (AreExact c past) is x in
      let right = subst (AreExact d past) is2 y in
      let one : SameEnd first a first2 a2 = settled past first first2 a a2 r r2 (exact_front c past first rest left) (exact_front d past first2 rest2 right) in
      let behind = subst (λ l. AreExact d (past ++ l) rest2) (sym one.same_steps) (exact_behind d past first2 rest2 right) in
      let on : SameEnd rest b rest2 b2 = then (subst S (sym one.same_end) s2) (exact_behind c past first rest left) behind in
      record {
        same_steps = is ∙ ap (λ l. l ++ rest) one.same_steps ∙ ap (λ l. first2 ++ l) on.same_steps ∙ sym is2;
        same_end = λ i. (one.same_end i, on.same_end i);
      }

  -- one step, and what follows it
  pub step_more : {A B : Type 0} (f : A → B) (past xs ys rest rest2 : List PipeStep) (s s2 : PipeStep) (a a2 : A) → s ≡ s2 → xs ≡ s ∷ rest → ys ≡ s2 ∷ rest2
      → (AreExact c (past ++ s ∷ []) rest → AreExact d (past ++ s ∷ []) rest2 → SameEnd rest a rest2 a2)
      → AreExact c past xs → AreExact d past ys → SameEnd xs (f a) ys (f a2)
  step_more f past xs ys rest rest2 s s2 a a2 same is is2 then x y =
      let left = subst (AreExact c past) is x in
      let right = subst (AreExact d past) (is2 ∙ ap (λ t. t ∷ rest2) (sym same)) y in
      let on = then left.1 right.1 in
      let tail = on.same_steps in
      record { same_steps = is ∙ ap (λ t. t ∷ rest) same ∙ ap (λ l. s2 ∷ l) tail ∙ sym is2; same_end = ap f on.same_end }
