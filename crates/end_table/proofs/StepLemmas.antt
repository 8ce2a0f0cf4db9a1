-- What the step of a put and of a take says of each pipe.
use Rattle.std.proofs.Common.{◌≡◌, ◌≢◌, inl, inr, ⊎_elim, ◌||◌, ℕ, List, [], ◌∷◌, ◌++◌, Bool, true, false, not, length, Some, refl, sym, ap, ◌∙◌, subst, arith, append-nil, append_assoc, length-append, eq-eqb}
use Rattle.std.specs.Prelude.{slice_get}
use Rattle.zq_base.specs.Message.{Frames}
use Rattle.zq_base.specs.Ends.{PipeId}
use Rattle.spec_pattern.specs.PipeStep.{PipeStep, Commit, FullLook, RoomLook, Take, EmptyLook, DelimiterLook, WaitingLook, Seal, same_side, same_pipe, committed_to, taken_from, sealed_in, read_through, Follows, AreExact}
use Rattle.spec_pattern.specs.Half.{Writing, Reading}
use Rattle.spec_pattern.proofs.Exact.{same_pipes}
use Rattle.msg_pipe.specs.Told.{SeesAll}
use Rattle.end_table.specs.Runs.{OutDoes, InDoes, looks_out, front_at}

-- names of pipes
same_true : (a : Bool) → same_side a a ≡ true
same_true true = refl
same_true false = refl

pub own_pipe : (p : PipeId) → same_pipe p p ≡ true
own_pipe p = rw (eq-eqb p.pair.0 p.pair.0 refl) (same_true p.a)

by_test : (p q : PipeId) (b : Bool) → same_pipe p q ≡ b → p ≢ q → b ≡ false
by_test p q true e ne = absurd (ne (same_pipes p q e))
by_test p q false e ne = refl

pub other_pipe : (p q : PipeId) → p ≢ q → same_pipe p q ≡ false
other_pipe p q ne = by_test p q (same_pipe p q) refl ne

not_not : (a : Bool) → not (not a) ≡ a
not_not true = refl
not_not false = refl

with_side : PipeId → Bool → PipeId
with_side p b = record { pair = p.pair; a = b }

back_through : (p : PipeId) → read_through (read_through p) ≡ p
unfolding with_side
back_through p = ap (λ (b : Bool). with_side p b) (not_not p.a)

pub other_through : (p q : PipeId) → p ≢ q → read_through p ≢ read_through q
other_through p q ne = λ e. ne (sym (back_through p) ∙ ap read_through e ∙ back_through q)

pub or_false : (b : Bool) → (b || false) ≡ b
or_false true = refl
or_false false = refl

-- the test of a step's pipe
at_pipe : (p q : PipeId) → q ≡ p → same_pipe p q ≡ true
at_pipe p q e = ap (same_pipe p) e ∙ own_pipe p

else_pipe : (q p r : PipeId) → r ≡ p → same_pipe q p ≡ false → same_pipe q r ≡ false
else_pipe q p r e f = ap (same_pipe q) e ∙ f

-- what a step of a writing half adds to its pipe, and to others
pub out_grows : (p : PipeId) (s : PipeStep) (v w : Writing) → OutDoes p s v w → w.committed ≡ v.committed ++ committed_to p (s ∷ [])
out_grows p (Commit q m) v w d = rw (at_pipe p q d.0) d.1.committed
out_grows p (FullLook q) v w d = d.1.committed ∙ sym (append-nil v.committed)
out_grows p (RoomLook q) v w d = d.1.committed ∙ sym (append-nil v.committed)
out_grows p (Seal q) v w d = ap (λ (x : Writing). x.committed) d.1 ∙ sym (append-nil v.committed)
out_grows p (Take q m) v w d = elim d [ ]
out_grows p (EmptyLook q) v w d = elim d [ ]
out_grows p (DelimiterLook q) v w d = elim d [ ]
out_grows p (WaitingLook q) v w d = elim d [ ]

pub out_else : (q p : PipeId) (s : PipeStep) (v w : Writing) → OutDoes p s v w → same_pipe q p ≡ false → committed_to q (s ∷ []) ≡ []
out_else q p (Commit r m) v w d f = rw (else_pipe q p r d.0 f) refl
out_else q p (FullLook r) v w d f = refl
out_else q p (RoomLook r) v w d f = refl
out_else q p (Seal r) v w d f = refl
out_else q p (Take r m) v w d f = refl
out_else q p (EmptyLook r) v w d f = refl
out_else q p (DelimiterLook r) v w d f = refl
out_else q p (WaitingLook r) v w d f = refl

pub out_takes : (q p : PipeId) (s : PipeStep) (v w : Writing) → OutDoes p s v w → taken_from q (s ∷ []) ≡ []
out_takes q p (Commit r m) v w d = refl
out_takes q p (FullLook r) v w d = refl
out_takes q p (RoomLook r) v w d = refl
out_takes q p (Seal r) v w d = refl
out_takes q p (Take r m) v w d = elim d [ ]
out_takes q p (EmptyLook r) v w d = refl
out_takes q p (DelimiterLook r) v w d = refl
out_takes q p (WaitingLook r) v w d = refl

pub out_capacity : (p : PipeId) (s : PipeStep) (v w : Writing) → OutDoes p s v w → w.capacity ≡ v.capacity
out_capacity p (Commit q m) v w d = d.1.capacity
out_capacity p (FullLook q) v w d = d.1.capacity
out_capacity p (RoomLook q) v w d = d.1.capacity
out_capacity p (Seal q) v w d = ap (λ (x : Writing). x.capacity) d.1
out_capacity p (Take q m) v w d = elim d [ ]
out_capacity p (EmptyLook q) v w d = elim d [ ]
out_capacity p (DelimiterLook q) v w d = elim d [ ]
out_capacity p (WaitingLook q) v w d = elim d [ ]

pub out_sealed : (p : PipeId) (s : PipeStep) (v w : Writing) → OutDoes p s v w → w.sealed ≡ (v.sealed || sealed_in p (s ∷ []))
out_sealed p (Commit q m) v w d = d.1.sealed ∙ sym (or_false v.sealed)
out_sealed p (FullLook q) v w d = d.1.sealed ∙ sym (or_false v.sealed)
out_sealed p (RoomLook q) v w d = d.1.sealed ∙ sym (or_false v.sealed)
out_sealed p (Seal q) v w d = ap (λ (x : Writing). x.sealed) d.1 ∙ rw (d.2, at_pipe p q d.0) refl
out_sealed p (Take q m) v w d = elim d [ ]
out_sealed p (EmptyLook q) v w d = elim d [ ]
out_sealed p (DelimiterLook q) v w d = elim d [ ]
out_sealed p (WaitingLook q) v w d = elim d [ ]

pub out_sealed_else : (q p : PipeId) (s : PipeStep) (v w : Writing) → OutDoes p s v w → same_pipe q p ≡ false → sealed_in q (s ∷ []) ≡ false
out_sealed_else q p (Commit r m) v w d f = refl
out_sealed_else q p (FullLook r) v w d f = refl
out_sealed_else q p (RoomLook r) v w d f = refl
out_sealed_else q p (Seal r) v w d f = rw (else_pipe q p r d.0 f) refl
out_sealed_else q p (Take r m) v w d f = refl
out_sealed_else q p (EmptyLook r) v w d f = refl
out_sealed_else q p (DelimiterLook r) v w d f = refl
out_sealed_else q p (WaitingLook r) v w d f = refl

-- what a step of a reading half takes from its pipe, and from others
pub in_grows : (p : PipeId) (s : PipeStep) (v w : Reading) → InDoes p s v w → w.taken ≡ v.taken ++ taken_from p (s ∷ [])
in_grows p (Take q m) v w d = rw (at_pipe p q d.0) d.1.taken
in_grows p (EmptyLook q) v w d = d.1.taken ∙ sym (append-nil v.taken)
in_grows p (DelimiterLook q) v w d = d.1.taken ∙ sym (append-nil v.taken)
in_grows p (WaitingLook q) v w d = d.1.taken ∙ sym (append-nil v.taken)
in_grows p (Commit q m) v w d = elim d [ ]
in_grows p (FullLook q) v w d = elim d [ ]
in_grows p (RoomLook q) v w d = elim d [ ]
in_grows p (Seal q) v w d = elim d [ ]

pub in_else : (q p : PipeId) (s : PipeStep) (v w : Reading) → InDoes p s v w → same_pipe q p ≡ false → taken_from q (s ∷ []) ≡ []
in_else q p (Take r m) v w d f = rw (else_pipe q p r d.0 f) refl
in_else q p (EmptyLook r) v w d f = refl
in_else q p (DelimiterLook r) v w d f = refl
in_else q p (WaitingLook r) v w d f = refl
in_else q p (Commit r m) v w d f = refl
in_else q p (FullLook r) v w d f = refl
in_else q p (RoomLook r) v w d f = refl
in_else q p (Seal r) v w d f = refl

pub in_commits : (q p : PipeId) (s : PipeStep) (v w : Reading) → InDoes p s v w → (committed_to q (s ∷ []) ≡ []) × (sealed_in q (s ∷ []) ≡ false)
in_commits q p (Take r m) v w d = (refl, refl)
in_commits q p (EmptyLook r) v w d = (refl, refl)
in_commits q p (DelimiterLook r) v w d = (refl, refl)
in_commits q p (WaitingLook r) v w d = (refl, refl)
in_commits q p (Commit r m) v w d = elim d [ ]
in_commits q p (FullLook r) v w d = elim d [ ]
in_commits q p (RoomLook r) v w d = elim d [ ]
in_commits q p (Seal r) v w d = elim d [ ]

-- a step of a writing half whose looks saw all takes follows from the steps past
pub out_follows : (capacity : PipeId → ℕ) (past : List PipeStep) (p : PipeId) (s : PipeStep) (v w : Writing)
    → v.committed ≡ committed_to p past → v.capacity ≡ capacity p → v.sealed ≡ sealed_in p past
    → (looks_out s ≡ true → w.freed ≡ length (taken_from p past)) → OutDoes p s v w → Follows capacity past s
out_follows capacity past p (Commit q m) v w committed fits sealed sees d =
    let h = d.1 in
    let more = ap length h.committed in
    let long = length-append v.committed (m ∷ []) in
    let was = ap length committed in
    let room = h.room in
    let few = h.few in
    let same = h.capacity in
    let freed = sees refl in
    subst (λ (r : PipeId). Follows capacity past (Commit r m)) (sym d.0)
    (omega (arith, more, long, was, room, same, fits, freed), omega (arith, more, long, was, few), sym sealed ∙ d.2)
out_follows capacity past p (FullLook q) v w committed fits sealed sees d =
    let count = ap length d.1.committed in
    let was = ap length committed in
    let same = d.1.capacity in
    let freed = sees refl in
    subst (λ (r : PipeId). Follows capacity past (FullLook r)) (sym d.0)
    (⊎_elim (λ e. inl (omega (arith, count, was, same, fits, freed, e))) (λ e. inr (omega (arith, count, was, e))) d.1.full)
out_follows capacity past p (RoomLook q) v w committed fits sealed sees d =
    let h = d.1 in
    let count = ap length h.committed in
    let was = ap length committed in
    let room = h.room in
    let few = h.few in
    let same = h.capacity in
    let freed = sees refl in
    subst (λ (r : PipeId). Follows capacity past (RoomLook r)) (sym d.0)
    (omega (arith, count, was, room, same, fits, freed), omega (arith, count, was, few), sym sealed ∙ d.2)
out_follows capacity past p (Seal q) v w committed fits sealed sees d =
    subst (λ (r : PipeId). Follows capacity past (Seal r)) (sym d.0) (sym sealed ∙ d.2)
out_follows capacity past p (Take q m) v w committed fits sealed sees d = elim d [ ]
out_follows capacity past p (EmptyLook q) v w committed fits sealed sees d = elim d [ ]
out_follows capacity past p (DelimiterLook q) v w committed fits sealed sees d = elim d [ ]
out_follows capacity past p (WaitingLook q) v w committed fits sealed sees d = elim d [ ]

get_next : (front rest : List Frames) (m : Frames) → slice_get ((front ++ m ∷ []) ++ rest) (length front) ≡ Some m
get_next [] rest m = refl
get_next (x ∷ xs) rest m = get_next xs rest m

-- and so does one of a reading half whose looks saw all commits and the delimiter
pub in_follows : (capacity : PipeId → ℕ) (past : List PipeStep) (p : PipeId) (s : PipeStep) (o : Writing) (v w : Reading)
    → o.committed ≡ committed_to p past → v.taken ≡ taken_from p past → o.sealed ≡ sealed_in p past → SeesAll o (front_at s) w → InDoes p s v w
    → Follows capacity past s
in_follows capacity past p (Take q m) o v w committed taken sealed sees d =
    let h = d.1 in
    let whole : (taken_from p past ++ m ∷ []) ++ h.within.0 ≡ committed_to p past =
    ap (λ (l : List Frames). (l ++ m ∷ []) ++ h.within.0) (sym taken) ∙ ap (λ (l : List Frames). l ++ h.within.0) (sym h.taken) ∙ h.within.1 ∙ sees.seen ∙ committed in
    subst (λ (r : PipeId). Follows capacity past (Take r m)) (sym d.0)
    (ap (λ (l : List Frames). slice_get l (length (taken_from p past))) (sym whole) ∙ get_next (taken_from p past) h.within.0 m)
in_follows capacity past p (EmptyLook q) o v w committed taken sealed sees d =
    subst (λ (r : PipeId). Follows capacity past (EmptyLook r)) (sym d.0)
    (ap length (sym committed ∙ sym sees.seen ∙ d.1.all ∙ d.1.taken ∙ taken), sym sealed ∙ sees.unsealed refl)
in_follows capacity past p (DelimiterLook q) o v w committed taken sealed sees d =
    subst (λ (r : PipeId). Follows capacity past (DelimiterLook r)) (sym d.0)
    (ap length (sym committed ∙ sym sees.seen ∙ d.1.all ∙ d.1.taken ∙ taken), sym sealed ∙ sees.sealed refl)
in_follows capacity past p (WaitingLook q) o v w committed taken sealed sees d =
    let more = ap length (sees.seen ∙ committed) in
    let same = ap length (d.1.taken ∙ taken) in
    let some = d.1.some in
    subst (λ (r : PipeId). Follows capacity past (WaitingLook r)) (sym d.0) (omega (arith, more, same, some))
in_follows capacity past p (Commit q m) o v w committed taken sealed sees d = elim d [ ]
in_follows capacity past p (FullLook q) o v w committed taken sealed sees d = elim d [ ]
in_follows capacity past p (RoomLook q) o v w committed taken sealed sees d = elim d [ ]
in_follows capacity past p (Seal q) o v w committed taken sealed sees d = elim d [ ]

-- one step more
pub exact_more : (c : PipeId → ℕ) (before xs : List PipeStep) (s : PipeStep) → AreExact c before xs → Follows c (before ++ xs) s → AreExact c before (xs ++ s ∷ [])
exact_more c before [] s e f = (subst (λ l. Follows c l s) (append-nil before) f, tt)
exact_more c before (x ∷ xs) s e f = (e.0, exact_more c (before ++ x ∷ []) xs s e.1 (subst (λ l. Follows c l s) (sym (append_assoc before (x ∷ []) xs)) f))
