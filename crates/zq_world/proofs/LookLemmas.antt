-- What holds of a pipe in the order of making holds of it in any order of the steps in which those of each of its sides are the same.
use Rattle.std.proofs.Common.{◌≡◌, ◌<◌, ◌≤◌, ◌+◌, ℕ, List, [], ◌∷◌, ◌++◌, Bool, true, false, length, refl, sym, ap, subst, ◌∙◌, arith, append-nil, append_assoc, length-append, true≢false}
use Rattle.std.specs.Prelude.{◌||◌, cond, filter}
use Rattle.std.specs.List.{list_any}
use mathlib.Core.List.{IsPrefix}
use Rattle.std.proofs.lemmas.Bool.{eq-eqb}
use Rattle.std.proofs.lemmas.List.Elements.{filter-append, filter_map-append}
use Rattle.zq_base.specs.Message.{Frames}
use Rattle.zq_base.specs.Ends.{PipeId, other_end}
use Rattle.spec_pattern.specs.PipeStep.{PipeStep, Commit, FullLook, RoomLook, Take, EmptyLook, DelimiterLook, WaitingLook, Seal, same_pipe, same_side, committed_by, taken_by, sealed_by, committed_to, taken_from, sealed_in, Follows, AreExact, most_commits}
use Rattle.spec_pattern.proofs.Exact.{same_pipes, taken_prefix}
use Rattle.spec_pattern.proofs.Looks.{looks_hold}
use Rattle.spec_control.specs.Control.{Settlement}
use Rattle.spec_run.specs.OwnedRun.{LooksHoldAt, AreCountedBy}
use Rattle.zq_world.specs.OneSided.{is_written, is_read}

same_side_self : (b : Bool) → same_side b b ≡ true
same_side_self true = refl
same_side_self false = refl

same_pipe_self : (p : PipeId) → same_pipe p p ≡ true
same_pipe_self p = rw (eq-eqb p.pair.0 p.pair.0 refl) (same_side_self p.a)

any_more : {X : Type 0} (test : X → Bool) (xs ys : List X) → list_any test xs ≡ true → list_any test (xs ++ ys) ≡ true
any_more test [] ys e = absurd (true≢false (sym e))
any_more test (x ∷ xs) ys e = by (test x) refl (λ h. any_more test xs ys h)
  where
    by : (b : Bool) → test x ≡ b → (list_any test xs ≡ true → list_any test (xs ++ ys) ≡ true) → list_any test (x ∷ (xs ++ ys)) ≡ true
    by true f rest = rw f refl
    by false f rest = rw f (rest (subst (λ b. (b || list_any test xs) ≡ true) f e))

-- ---- each side has all that counts there

committed_side : (p : PipeId) (xs : List PipeStep) → committed_to p xs ≡ committed_to p (filter (is_written p) xs)
committed_side p [] = refl
committed_side p (Commit q m ∷ xs) = by (same_pipe p q) refl (committed_side p xs)
  where
    by : (b : Bool) → same_pipe p q ≡ b → committed_to p xs ≡ committed_to p (filter (is_written p) xs) → committed_to p (Commit q m ∷ xs) ≡ committed_to p (filter (is_written p) (Commit q m ∷ xs))
    by true e rest = rw (e, e) (ap (λ (l : List Frames). m ∷ l) rest)
    by false e rest = rw e rest
committed_side p (FullLook q ∷ xs) = by (same_pipe p q) refl (committed_side p xs)
  where
    by : (b : Bool) → same_pipe p q ≡ b → committed_to p xs ≡ committed_to p (filter (is_written p) xs) → committed_to p (FullLook q ∷ xs) ≡ committed_to p (filter (is_written p) (FullLook q ∷ xs))
    by true e rest = rw e rest
    by false e rest = rw e rest
committed_side p (RoomLook q ∷ xs) = by (same_pipe p q) refl (committed_side p xs)
  where
    by : (b : Bool) → same_pipe p q ≡ b → committed_to p xs ≡ committed_to p (filter (is_written p) xs) → committed_to p (RoomLook q ∷ xs) ≡ committed_to p (filter (is_written p) (RoomLook q ∷ xs))
    by true e rest = rw e rest
    by false e rest = rw e rest
committed_side p (Take q m ∷ xs) = committed_side p xs
committed_side p (EmptyLook q ∷ xs) = committed_side p xs
committed_side p (DelimiterLook q ∷ xs) = committed_side p xs
committed_side p (WaitingLook q ∷ xs) = committed_side p xs
committed_side p (Seal q ∷ xs) = committed_side p xs

taken_side : (p : PipeId) (xs : List PipeStep) → taken_from p xs ≡ taken_from p (filter (is_read p) xs)
taken_side p [] = refl
taken_side p (Commit q m ∷ xs) = taken_side p xs
taken_side p (FullLook q ∷ xs) = taken_side p xs
taken_side p (RoomLook q ∷ xs) = taken_side p xs
taken_side p (Take q m ∷ xs) = by (same_pipe p q) refl (taken_side p xs)
  where
    by : (b : Bool) → same_pipe p q ≡ b → taken_from p xs ≡ taken_from p (filter (is_read p) xs) → taken_from p (Take q m ∷ xs) ≡ taken_from p (filter (is_read p) (Take q m ∷ xs))
    by true e rest = rw (e, e) (ap (λ (l : List Frames). m ∷ l) rest)
    by false e rest = rw e rest
taken_side p (EmptyLook q ∷ xs) = by (same_pipe p q) refl (taken_side p xs)
  where
    by : (b : Bool) → same_pipe p q ≡ b → taken_from p xs ≡ taken_from p (filter (is_read p) xs) → taken_from p (EmptyLook q ∷ xs) ≡ taken_from p (filter (is_read p) (EmptyLook q ∷ xs))
    by true e rest = rw e rest
    by false e rest = rw e rest
taken_side p (DelimiterLook q ∷ xs) = by (same_pipe p q) refl (taken_side p xs)
  where
    by : (b : Bool) → same_pipe p q ≡ b → taken_from p xs ≡ taken_from p (filter (is_read p) xs) → taken_from p (DelimiterLook q ∷ xs) ≡ taken_from p (filter (is_read p) (DelimiterLook q ∷ xs))
    by true e rest = rw e rest
    by false e rest = rw e rest
taken_side p (WaitingLook q ∷ xs) = by (same_pipe p q) refl (taken_side p xs)
  where
    by : (b : Bool) → same_pipe p q ≡ b → taken_from p xs ≡ taken_from p (filter (is_read p) xs) → taken_from p (WaitingLook q ∷ xs) ≡ taken_from p (filter (is_read p) (WaitingLook q ∷ xs))
    by true e rest = rw e rest
    by false e rest = rw e rest
taken_side p (Seal q ∷ xs) = taken_side p xs

pub same_committed : (p : PipeId) (xs ys : List PipeStep) → filter (is_written p) xs ≡ filter (is_written p) ys → committed_to p xs ≡ committed_to p ys
same_committed p xs ys e = committed_side p xs ∙ ap (committed_to p) e ∙ sym (committed_side p ys)

pub same_taken : (p : PipeId) (xs ys : List PipeStep) → filter (is_read p) xs ≡ filter (is_read p) ys → taken_from p xs ≡ taken_from p ys
same_taken p xs ys e = taken_side p xs ∙ ap (taken_from p) e ∙ sym (taken_side p ys)

side_here : (side : PipeStep → Bool) (z : PipeStep) (xs : List PipeStep) → side z ≡ true → filter side (z ∷ xs) ≡ z ∷ filter side xs
side_here side z xs e = rw e refl

side_else : (side : PipeStep → Bool) (z : PipeStep) (xs : List PipeStep) → side z ≡ false → filter side (z ∷ xs) ≡ filter side xs
side_else side z xs e = rw e refl

-- a step stands behind these of its side
record Stands (side : PipeStep → Bool) (made front : List PipeStep) (s : PipeStep) : Type 0 where
  before : List PipeStep
  after : List PipeStep
  made_is : made ≡ before ++ s ∷ after
  same : filter side before ≡ front

stands : (side : PipeStep → Bool) (made front : List PipeStep) (s : PipeStep) (back : List PipeStep) → filter side made ≡ front ++ s ∷ back → Stands side made front s
stands side [] [] s back e = cc
stands side [] (x ∷ front) s back e = cc
stands side (z ∷ made) front s back e = by (side z) refl front e (λ f h. stands side made f s back h)
  where
    by : (b : Bool) → side z ≡ b → (f : List PipeStep) → filter side (z ∷ made) ≡ f ++ s ∷ back → ((g : List PipeStep) → filter side made ≡ g ++ s ∷ back → Stands side made g s) → Stands side (z ∷ made) f s
    by false h f is rest =
        let r = rest f (subst (λ b. cond b (z ∷ filter side made) (filter side made) ≡ f ++ s ∷ back) h is) in
        record { before = z ∷ r.before; after = r.after; made_is = ap (λ (l : List PipeStep). z ∷ l) r.made_is; same = side_else side z r.before h ∙ r.same }
    by true h [] is rest =
        let k = subst (λ b. cond b (z ∷ filter side made) (filter side made) ≡ s ∷ back) h is in
        let first : z ≡ s = cc in
        record { before = []; after = made; made_is = ap (λ (x : PipeStep). x ∷ made) first; same = refl }
    by true h (x ∷ f) is rest =
        let k = subst (λ b. cond b (z ∷ filter side made) (filter side made) ≡ x ∷ (f ++ s ∷ back)) h is in
        let first : z ≡ x = cc in
        let others : filter side made ≡ f ++ s ∷ back = cc in
        let r = rest f others in
        record { before = z ∷ r.before; after = r.after; made_is = ap (λ (l : List PipeStep). z ∷ l) r.made_is; same = side_here side z r.before h ∙ ap (λ (l : List PipeStep). z ∷ l) r.same ∙ ap (λ (y : PipeStep). y ∷ f) first }

-- the place of a step of a side in the order of making
place_of_step : (side : PipeStep → Bool) (made steps before after : List PipeStep) (s : PipeStep) → filter side made ≡ filter side steps → side s ≡ true → steps ≡ before ++ s ∷ after → Stands side made (filter side before) s
place_of_step side made steps before after s same is whole =
    stands side made (filter side before) s (filter side after)
    (same ∙ ap (filter side) whole ∙ filter-append side before (s ∷ after) ∙ ap (λ b. filter side before ++ cond b (s ∷ filter side after) (filter side after)) is)

-- ---- exact steps

exact_after : (c : PipeId → ℕ) (past xs ys : List PipeStep) → AreExact c past (xs ++ ys) → AreExact c (past ++ xs) ys
exact_after c past [] ys e = rw append-nil e
exact_after c past (x ∷ xs) ys e = rw append_assoc at (exact_after c (past ++ x ∷ []) xs ys e.1)

-- a step's place in exact steps
exact_at : (c : PipeId → ℕ) (made before : List PipeStep) (s : PipeStep) (after : List PipeStep) → AreExact c [] made → made ≡ before ++ s ∷ after → AreExact c before (s ∷ after)
exact_at c made before s after exact is = exact_after c [] before (s ∷ after) (subst (AreExact c []) is exact)

committed-append : (p : PipeId) (xs ys : List PipeStep) → committed_to p (xs ++ ys) ≡ committed_to p xs ++ committed_to p ys
committed-append p xs ys = filter_map-append (committed_by p) xs ys

taken-append : (p : PipeId) (xs ys : List PipeStep) → taken_from p (xs ++ ys) ≡ taken_from p xs ++ taken_from p ys
taken-append p xs ys = filter_map-append (taken_by p) xs ys

-- behind a delimiter nothing is committed
none_sealed : (c : PipeId → ℕ) (p : PipeId) (past : List PipeStep) (s : PipeStep) → sealed_in p past ≡ true → Follows c past s → committed_to p (s ∷ []) ≡ []
none_sealed c p past (Commit q m) closed now = by (same_pipe p q) refl
  where
    by : (b : Bool) → same_pipe p q ≡ b → committed_to p (Commit q m ∷ []) ≡ []
    by true e = absurd (true≢false (sym closed ∙ ap (λ (r : PipeId). sealed_in r past) (same_pipes p q e) ∙ now.2))
    by false e = rw e refl
none_sealed c p past (FullLook q) closed now = refl
none_sealed c p past (RoomLook q) closed now = refl
none_sealed c p past (Take q m) closed now = refl
none_sealed c p past (EmptyLook q) closed now = refl
none_sealed c p past (DelimiterLook q) closed now = refl
none_sealed c p past (WaitingLook q) closed now = refl
none_sealed c p past (Seal q) closed now = refl

stay_sealed : (c : PipeId → ℕ) (p : PipeId) (past xs : List PipeStep) → AreExact c past xs → sealed_in p past ≡ true → committed_to p xs ≡ []
stay_sealed c p past [] exact closed = refl
stay_sealed c p past (x ∷ xs) exact closed =
    committed-append p (x ∷ []) xs ∙ ap (λ l. l ++ committed_to p xs) (none_sealed c p past x closed exact.0)
    ∙ stay_sealed c p (past ++ x ∷ []) xs exact.1 (any_more (sealed_by p) past (x ∷ []) closed)

-- no more waits than there is room for
room_step : (c : PipeId → ℕ) (p : PipeId) (past : List PipeStep) (s : PipeStep) → length (committed_to p past) ≤ length (taken_from p past) + c p → Follows c past s
    → length (committed_to p past) + length (committed_to p (s ∷ [])) ≤ (length (taken_from p past) + length (taken_from p (s ∷ []))) + c p
room_step c p past (Commit q m) room now = by (same_pipe p q) refl
  where
    by : (b : Bool) → same_pipe p q ≡ b → length (committed_to p past) + length (committed_to p (Commit q m ∷ [])) ≤ (length (taken_from p past) + 0) + c p
    by true e = let here = subst (λ (r : PipeId). length (committed_to r past) < length (taken_from r past) + c r) (sym (same_pipes p q e)) now.0 in rw e (omega (arith, here))
    by false e = rw e (omega (arith, room))
room_step c p past (FullLook q) room now = omega (arith, room)
room_step c p past (RoomLook q) room now = omega (arith, room)
room_step c p past (Take q m) room now = omega (arith, room)
room_step c p past (EmptyLook q) room now = omega (arith, room)
room_step c p past (DelimiterLook q) room now = omega (arith, room)
room_step c p past (WaitingLook q) room now = omega (arith, room)
room_step c p past (Seal q) room now = omega (arith, room)

room_kept : (c : PipeId → ℕ) (p : PipeId) (past xs : List PipeStep) → AreExact c past xs → length (committed_to p past) ≤ length (taken_from p past) + c p
    → length (committed_to p (past ++ xs)) ≤ length (taken_from p (past ++ xs)) + c p
room_kept c p past [] exact room = rw append-nil room
room_kept c p past (x ∷ xs) exact room =
    subst (λ (l : List PipeStep). length (committed_to p l) ≤ length (taken_from p l) + c p) (append_assoc past (x ∷ []) xs)
    (room_kept c p (past ++ x ∷ []) xs exact.1 (rw (committed-append p past (x ∷ []), taken-append p past (x ∷ []), length-append (committed_to p past) (committed_to p (x ∷ [])), length-append (taken_from p past) (taken_from p (x ∷ []))) (room_step c p past x room exact.0)))

-- ---- the pipe in another order

module _ (c : PipeId → ℕ) (small : (p : PipeId) → c p ≤ most_commits) (made steps : List PipeStep) (exact : AreExact c [] made) (p : PipeId)
    (written : filter (is_written p) made ≡ filter (is_written p) steps) (read : filter (is_read p) made ≡ filter (is_read p) steps) where
  pub in_order_then : IsPrefix (taken_from p steps) (committed_to p steps)
  in_order_then = subst (λ l. IsPrefix l (committed_to p steps)) (same_taken p made steps read) (subst (IsPrefix (taken_from p made)) (same_committed p made steps written) (taken_prefix c made exact p))

  full_then : (before after : List PipeStep) → steps ≡ before ++ FullLook p ∷ after → (c p ≤ length (committed_to p before)) × (length (committed_to p before) ≤ length (taken_from p steps) + c p)
  full_then before after whole =
      let at = place_of_step (is_written p) made steps before after (FullLook p) written (same_pipe_self p) whole in
      let h = (looks_hold c made small exact).full p at.before at.after at.made_is in
      let a = ap length (same_committed p at.before before at.same) in
      let b = ap length (same_taken p made steps read) in
      let least = h.0 in let most = h.1 in
      (omega (arith, a, least), omega (arith, a, b, most))

  empty_then : (before after : List PipeStep) → steps ≡ before ++ EmptyLook p ∷ after → length (taken_from p before) ≤ length (committed_to p steps)
  empty_then before after whole =
      let at = place_of_step (is_read p) made steps before after (EmptyLook p) read (same_pipe_self p) whole in
      let h = (looks_hold c made small exact).empty p at.before at.after at.made_is in
      let a = ap length (same_taken p at.before before at.same) in
      let b = ap length (same_committed p made steps written) in
      omega (arith, a, b, h)

  delimiter_then : (before after : List PipeStep) → steps ≡ before ++ DelimiterLook p ∷ after → length (taken_from p before) ≡ length (committed_to p steps)
  delimiter_then before after whole =
      let at = place_of_step (is_read p) made steps before after (DelimiterLook p) read (same_pipe_self p) whole in
      let e = exact_at c made at.before (DelimiterLook p) at.after exact at.made_is in
      let none = stay_sealed c p (at.before ++ DelimiterLook p ∷ []) at.after e.1 (any_more (sealed_by p) at.before (DelimiterLook p ∷ []) e.0.1) in
      let all = ap length (ap (committed_to p) at.made_is ∙ committed-append p at.before (DelimiterLook p ∷ at.after) ∙ ap (λ l. committed_to p at.before ++ l) none ∙ append-nil (committed_to p at.before)) in
      let a = ap length (same_taken p at.before before at.same) in
      let b = ap length (same_committed p made steps written) in
      let now = e.0.0 in
      omega (arith, a, b, all, now)

  waiting_then : (before after : List PipeStep) → steps ≡ before ++ WaitingLook p ∷ after → length (taken_from p before) < length (committed_to p steps)
  waiting_then before after whole =
      let at = place_of_step (is_read p) made steps before after (WaitingLook p) read (same_pipe_self p) whole in
      let e = exact_at c made at.before (WaitingLook p) at.after exact at.made_is in
      let all = ap length (ap (committed_to p) at.made_is ∙ committed-append p at.before (WaitingLook p ∷ at.after)) in
      let both = length-append (committed_to p at.before) (committed_to p (WaitingLook p ∷ at.after)) in
      let a = ap length (same_taken p at.before before at.same) in
      let b = ap length (same_committed p made steps written) in
      let now = e.0 in
      omega (arith, a, b, all, both, now)

  pub looks_then : LooksHoldAt (c p) p steps
  looks_then = record {
    full = full_then;
    empty = empty_then;
    «delimiter» = delimiter_then;
    «waiting» = waiting_then;
    room =
        let room = room_kept c p [] made exact (omega arith) in
        let a = ap length (same_committed p made steps written) in
        let b = ap length (same_taken p made steps read) in
        omega (arith, a, b, room);
  }

pub counted_then : (made steps : List PipeStep) → ((p : PipeId) → committed_to p made ≡ committed_to p steps) → ((p : PipeId) → taken_from p made ≡ taken_from p steps) → (ss : List Settlement)
    → AreCountedBy made ss → AreCountedBy steps ss
counted_then made steps committed taken [] all = tt
counted_then made steps committed taken (s ∷ ss) all = (
  record {
    sent = all.0.sent ∙ ap length (committed (other_end s.end));
    got = all.0.got ∙ ap length (taken (other_end s.end));
    sum = all.0.sum;
    reason = all.0.reason;
  },
  counted_then made steps committed taken ss all.1,
)
