-- Each look of an exact run is borne out by its end.
use Rattle.std.proofs.Common.{◌≡◌, ◌<◌, ◌≤◌, ◌+◌, ℕ, List, [], ◌∷◌, ◌++◌, length, Bool, true, false, refl, sym, arith, append-nil, append_assoc, inl, inr, length-append, subst}
use Rattle.std.proofs.lemmas.List.Elements.{filter_map-append}
use Rattle.zq_base.specs.Message.{Frames}
use Rattle.zq_base.specs.Ends.{PipeId}
use Rattle.spec_pattern.specs.PipeStep.{PipeStep, Commit, FullLook, RoomLook, Take, EmptyLook, DelimiterLook, WaitingLook, Seal, same_pipe, committed_by, taken_by, committed_to, taken_from, Follows, AreExact, IsFullAfter, LooksHold, most_commits}
use Rattle.spec_pattern.proofs.Exact.{same_pipes}

-- a step in the middle follows from those before it
in_the_middle : (c : PipeId → ℕ) (past xs : List PipeStep) (y : PipeStep) (ys : List PipeStep) → AreExact c past (xs ++ y ∷ ys) → Follows c (past ++ xs) y
in_the_middle c past [] y ys e = rw append-nil e.0
in_the_middle c past (x ∷ xs) y ys e = rw append_assoc at (in_the_middle c (past ++ x ∷ []) xs y ys e.1)

-- the steps at the front are exact
at_the_front : (c : PipeId → ℕ) (past xs ys : List PipeStep) → AreExact c past (xs ++ ys) → AreExact c past xs
at_the_front c past [] ys e = tt
at_the_front c past (x ∷ xs) ys e = (e.0, at_the_front c (past ++ x ∷ []) xs ys e.1)

-- no pipe holds more than its capacity
abbrev IsWithin : (PipeId → ℕ) → PipeId → List PipeStep → Type 0
IsWithin c p past = length (committed_to p past) ≤ length (taken_from p past) + c p

-- one step more, by what it adds to both counts
within_stepped : (c : PipeId → ℕ) (p : PipeId) (past : List PipeStep) (t : PipeStep)
    → length (committed_to p past) + length (committed_to p (t ∷ [])) ≤ (length (taken_from p past) + length (taken_from p (t ∷ []))) + c p
    → IsWithin c p (past ++ t ∷ [])
within_stepped c p past t f = rw (filter_map-append (taken_by p) past (t ∷ []), filter_map-append (committed_by p) past (t ∷ []), length-append, length-append) f

within_commit : (c : PipeId → ℕ) (p q : PipeId) (past : List PipeStep) (m : Frames) (b : Bool) → same_pipe p q ≡ b → IsWithin c p past
    → length (committed_to q past) < length (taken_from q past) + c q → IsWithin c p (past ++ Commit q m ∷ [])
within_commit c p q past m true e f now = let same : p ≡ q = same_pipes p q e in
    let here : length (committed_to p past) < length (taken_from p past) + c p = rw same now in
    within_stepped c p past (Commit q m) (rw e (omega arith))
within_commit c p q past m false e f now = within_stepped c p past (Commit q m) (rw e (omega arith))

within_take : (c : PipeId → ℕ) (p q : PipeId) (past : List PipeStep) (m : Frames) (b : Bool) → same_pipe p q ≡ b → IsWithin c p past → IsWithin c p (past ++ Take q m ∷ [])
within_take c p q past m true e f = within_stepped c p past (Take q m) (rw e (omega arith))
within_take c p q past m false e f = within_stepped c p past (Take q m) (rw e (omega arith))

within_step : (c : PipeId → ℕ) (p : PipeId) (past : List PipeStep) (t : PipeStep) → IsWithin c p past → Follows c past t → IsWithin c p (past ++ t ∷ [])
within_step c p past (Commit q m) f now = within_commit c p q past m (same_pipe p q) refl f now.0
within_step c p past (FullLook q) f now = within_stepped c p past (FullLook q) (omega arith)
within_step c p past (RoomLook q) f now = within_stepped c p past (RoomLook q) (omega arith)
within_step c p past (Take q m) f now = within_take c p q past m (same_pipe p q) refl f
within_step c p past (EmptyLook q) f now = within_stepped c p past (EmptyLook q) (omega arith)
within_step c p past (DelimiterLook q) f now = within_stepped c p past (DelimiterLook q) (omega arith)
within_step c p past (WaitingLook q) f now = within_stepped c p past (WaitingLook q) (omega arith)
within_step c p past (Seal q) f now = within_stepped c p past (Seal q) (omega arith)

within_kept : (c : PipeId → ℕ) (p : PipeId) (past steps : List PipeStep) → IsWithin c p past → AreExact c past steps → IsWithin c p (past ++ steps)
within_kept c p past [] f exact = rw append-nil f
within_kept c p past (t ∷ ts) f exact = rw append_assoc at (within_kept c p (past ++ t ∷ []) ts (within_step c p past t f exact.0) exact.1)

within : (c : PipeId → ℕ) (p : PipeId) (steps : List PipeStep) → AreExact c [] steps → IsWithin c p steps
within c p steps exact = within_kept c p [] steps (omega arith) exact

-- more steps, more commits and takes
more_committed : (p : PipeId) (xs ys : List PipeStep) → length (committed_to p xs) ≤ length (committed_to p (xs ++ ys))
more_committed p xs ys = rw (filter_map-append (committed_by p) xs ys, length-append) (omega arith)

more_taken : (p : PipeId) (xs ys : List PipeStep) → length (taken_from p xs) ≤ length (taken_from p (xs ++ ys))
more_taken p xs ys = rw (filter_map-append (taken_by p) xs ys, length-append) (omega arith)

-- what a full look says of its moment
full_moment : (c : PipeId → ℕ) (p : PipeId) (before : List PipeStep) → c p ≤ most_commits → IsWithin c p before → IsFullAfter (c p) p before
    → (c p ≤ length (committed_to p before)) × (length (committed_to p before) ≤ length (taken_from p before) + c p)
full_moment c p before fits f (inl full) = (omega arith, omega arith)
full_moment c p before fits f (inr most) = (omega arith, f)

full_holds : (c : PipeId → ℕ) → ((p : PipeId) → c p ≤ most_commits) → (p : PipeId) (before after : List PipeStep) → AreExact c [] (before ++ FullLook p ∷ after)
    → (c p ≤ length (committed_to p before)) × (length (committed_to p before) ≤ length (taken_from p (before ++ FullLook p ∷ after)) + c p)
full_holds c fits p before after exact =
    let now = full_moment c p before (fits p) (within c p before (at_the_front c [] before (FullLook p ∷ after) exact)) (in_the_middle c [] before (FullLook p) after exact) in
    let more = more_taken p before (FullLook p ∷ after) in
    (now.0, omega arith)

empty_holds : (c : PipeId → ℕ) (p : PipeId) (before after : List PipeStep) → AreExact c [] (before ++ EmptyLook p ∷ after)
    → length (taken_from p before) ≤ length (committed_to p (before ++ EmptyLook p ∷ after))
empty_holds c p before after exact =
    let now : length (committed_to p before) ≡ length (taken_from p before) = (in_the_middle c [] before (EmptyLook p) after exact).0 in
    let more = more_committed p before (EmptyLook p ∷ after) in
    omega arith

pub looks_hold : (c : PipeId → ℕ) (steps : List PipeStep) → ((p : PipeId) → c p ≤ most_commits) → AreExact c [] steps → LooksHold c steps
looks_hold c steps fits exact = record {
  full = λ p before after whole. subst (λ (s : List PipeStep). (c p ≤ length (committed_to p before)) × (length (committed_to p before) ≤ length (taken_from p s) + c p)) (sym whole) (full_holds c fits p before after (subst (AreExact c []) whole exact));
  empty = λ p before after whole. subst (λ (s : List PipeStep). length (taken_from p before) ≤ length (committed_to p s)) (sym whole) (empty_holds c p before after (subst (AreExact c []) whole exact));
}
