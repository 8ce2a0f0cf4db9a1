-- A pipe's capacity is one that a pipe can have, where the marks of all objects are those that a socket can have.
use Rattle.std.specs.Prelude.{◌≡◌, ◌≤◌, ◌<◌, ◌+◌, ◌==◌, ◌&&◌, ◌||◌, nat_eq, nat_lt, length, ℕ, zero, suc, Bool, true, false, List, [], ◌∷◌, ◌++◌, slice_index_or, refl}
use Rattle.std.specs.List.{list_all, list_any}
use Rattle.std.proofs.Common.{arith, ap, sym, ◌∙◌, subst, append_assoc, append-nil, eqb-true, ltb-true}
use Rattle.zq_base.specs.Ends.{PipeId, other_end}
use Rattle.zq_base.specs.declared.options.Options.{Options}
use Rattle.spec_pattern.specs.PipeStep.{PipeStep, Commit, FullLook, RoomLook, Take, EmptyLook, DelimiterLook, WaitingLook, Seal, LooksHold, most_commits, committed_to, taken_from}
use Rattle.spec_control.specs.Row.{Row, nobody, is_session}
use Rattle.spec_control.specs.Rows.{obj}
use Rattle.spec_control.specs.Control.{Control, owner_of, end_of}
use Rattle.spec_run.specs.OwnedRun.{marks_by_sort, pipe_capacity, LooksHoldAt}
use Rattle.spec_run.proofs.PlainLemmas.{never}

pub record HasMarks (o : Row) : Type 0 where
  pub hwm : o.options.hwm ≤ 10000
  pub rcvhwm : o.options.rcvhwm ≤ 10000

abbrev pub HaveMarks : List Row → Type 0
HaveMarks [] = Unit {0}
HaveMarks (o ∷ os) = HasMarks o × HaveMarks os

marks_at : (rows : List Row) → HaveMarks rows → (i : ℕ) → HasMarks (slice_index_or rows i nobody)
marks_at [] all i = record { hwm = omega arith; rcvhwm = omega arith }
marks_at (o ∷ os) all zero = all.0
marks_at (o ∷ os) all (suc i) = marks_at os all.1 i

few_marks : (a b : Bool) (v w : Options) → v.hwm ≤ 10000 → w.rcvhwm ≤ 10000 → marks_by_sort a b v w ≤ most_commits
few_marks true b v w x y = omega (arith, y)
few_marks false true v w x y = omega (arith, x)
few_marks false false v w x y = omega (arith, x, y)

pub few_commits : (c : Control) → HaveMarks c.rows.objects → (p : PipeId) → pipe_capacity c p ≤ most_commits
few_commits c all p =
    let writer = marks_at c.rows.objects all (owner_of c p) in
    let reader = marks_at c.rows.objects all (owner_of c (other_end p)) in
    few_marks (is_session (obj c.rows (owner_of c p)).kind) (is_session (obj c.rows (owner_of c (other_end p))).kind)
    (obj c.rows (owner_of c p)).options (obj c.rows (owner_of c (other_end p))).options writer.hwm reader.rcvhwm

both_true : (a b : Bool) → (a && b) ≡ true → (a ≡ true) × (b ≡ true)
both_true true true h = (refl, refl)
both_true true false h = absurd (never h)
both_true false b h = absurd (never h)

-- ---- looks that found a delimiter or a message

-- such a look, behind these steps, is borne out by all steps
abbrev is_borne_out : (all past : List PipeStep) → PipeStep → Bool
is_borne_out all past (Commit p m) = true
is_borne_out all past (FullLook p) = true
is_borne_out all past (RoomLook p) = true
is_borne_out all past (Take p m) = true
is_borne_out all past (EmptyLook p) = true
is_borne_out all past (DelimiterLook p) = length (taken_from p past) == length (committed_to p all)
is_borne_out all past (WaitingLook p) = nat_lt (length (taken_from p past)) (length (committed_to p all))
is_borne_out all past (Seal p) = true

abbrev pub are_borne_out : (all past rest : List PipeStep) → Bool
are_borne_out all past [] = true
are_borne_out all past (x ∷ rest) = is_borne_out all past x && are_borne_out all (past ++ x ∷ []) rest

head_is : {x y : PipeStep} {xs ys : List PipeStep} → x ∷ xs ≡ y ∷ ys → x ≡ y
head_is e = Prim.grind arith

tail_is : {x y : PipeStep} {xs ys : List PipeStep} → x ∷ xs ≡ y ∷ ys → xs ≡ ys
tail_is e = Prim.grind arith

nil_more : (before : List PipeStep) (x : PipeStep) (after : List PipeStep) → [] ≡ before ++ x ∷ after → ⊥
nil_more [] x after e = Prim.grind arith
nil_more (y ∷ before) x after e = Prim.grind arith

borne_at : (all past rest : List PipeStep) → are_borne_out all past rest ≡ true → (before after : List PipeStep) (x : PipeStep) → rest ≡ before ++ x ∷ after → is_borne_out all (past ++ before) x ≡ true
borne_at all past [] h before after x e = absurd (nil_more before x after e)
borne_at all past (y ∷ rest) h [] after x e =
    subst (λ (steps : List PipeStep). is_borne_out all steps x ≡ true) (sym (append-nil past))
    (subst (λ (z : PipeStep). is_borne_out all past z ≡ true) (head_is e) (both_true (is_borne_out all past y) _ h).0)
borne_at all past (y ∷ rest) h (z ∷ before) after x e =
    subst (λ (steps : List PipeStep). is_borne_out all steps x ≡ true)
    (append_assoc past (y ∷ []) before ∙ ap (λ (w : PipeStep). past ++ w ∷ before) (head_is e))
    (borne_at all (past ++ y ∷ []) rest (both_true (is_borne_out all past y) _ h).1 before after x (tail_is e))

delimiter_at : (p : PipeId) (steps : List PipeStep) → are_borne_out steps [] steps ≡ true → (before after : List PipeStep) → steps ≡ before ++ DelimiterLook p ∷ after
    → length (taken_from p before) ≡ length (committed_to p steps)
delimiter_at p steps h before after e = eqb-true _ _ (borne_at steps [] steps h before after (DelimiterLook p) e)

waiting_at : (p : PipeId) (steps : List PipeStep) → are_borne_out steps [] steps ≡ true → (before after : List PipeStep) → steps ≡ before ++ WaitingLook p ∷ after
    → length (taken_from p before) < length (committed_to p steps)
waiting_at p steps h before after e = ltb-true _ _ (borne_at steps [] steps h before after (WaitingLook p) e)

-- what holds of the looks of all pipes holds at each
pub looks_at : (capacity : PipeId → ℕ) (steps : List PipeStep) → LooksHold capacity steps → are_borne_out steps [] steps ≡ true → (p : PipeId)
    → length (committed_to p steps) ≤ length (taken_from p steps) + capacity p → LooksHoldAt (capacity p) p steps
looks_at capacity steps h borne p room = record {
  full = λ before after e. h.full p before after e;
  empty = λ before after e. h.empty p before after e;
  «delimiter» = delimiter_at p steps borne;
  «waiting» = waiting_at p steps borne;
  room = room;
}

-- ---- the room of each pipe, where messages are committed to pipes of one pair alone

abbrev pub is_in_pair : ℕ → PipeStep → Bool
is_in_pair n (Commit p m) = p.pair.0 == n
is_in_pair n (FullLook p) = true
is_in_pair n (RoomLook p) = true
is_in_pair n (Take p m) = true
is_in_pair n (EmptyLook p) = true
is_in_pair n (DelimiterLook p) = true
is_in_pair n (WaitingLook p) = true
is_in_pair n (Seal p) = true

abbrev pub HasRoom : (PipeId → ℕ) → List PipeStep → PipeId → Type 0
HasRoom capacity steps p = length (committed_to p steps) ≤ length (taken_from p steps) + capacity p

none_committed : (n : ℕ) (p : PipeId) (steps : List PipeStep) → list_all (is_in_pair n) steps ≡ true → nat_eq p.pair.0 n ≡ false → length (committed_to p steps) ≡ 0
none_committed n p [] h other = refl
none_committed n p (Commit q m ∷ steps) h other =
    let parts = both_true (q.pair.0 == n) _ h in
    let apart : nat_eq p.pair.0 q.pair.0 ≡ false = subst (λ (k : ℕ). nat_eq p.pair.0 k ≡ false) (sym (eqb-true q.pair.0 n parts.0)) other in
    rw apart (none_committed n p steps parts.1 other)
none_committed n p (FullLook q ∷ steps) h other = none_committed n p steps h other
none_committed n p (RoomLook q ∷ steps) h other = none_committed n p steps h other
none_committed n p (Take q m ∷ steps) h other = none_committed n p steps h other
none_committed n p (EmptyLook q ∷ steps) h other = none_committed n p steps h other
none_committed n p (DelimiterLook q ∷ steps) h other = none_committed n p steps h other
none_committed n p (WaitingLook q ∷ steps) h other = none_committed n p steps h other
none_committed n p (Seal q ∷ steps) h other = none_committed n p steps h other

room_in : (n : ℕ) (capacity : PipeId → ℕ) (steps : List PipeStep) → list_all (is_in_pair n) steps ≡ true → HasRoom capacity steps (end_of n true) → HasRoom capacity steps (end_of n false)
    → (p : PipeId) → HasRoom capacity steps p
room_in n capacity steps h a b p = by (nat_eq p.pair.0 n) refl
  where
    side : (x : Bool) → HasRoom capacity steps (end_of n x)
    side true = a
    side false = b

    by : (x : Bool) → nat_eq p.pair.0 n ≡ x → HasRoom capacity steps p
    by true e = subst (HasRoom capacity steps) (ap (λ (k : ℕ). end_of k p.a) (sym (eqb-true p.pair.0 n e))) (side p.a)
    by false e = let none = none_committed n p steps h e in omega (arith, none)

-- ---- a run without looks that found a pipe full or empty

abbrev pub is_bare_look : PipeStep → Bool
is_bare_look (Commit p m) = false
is_bare_look (FullLook p) = true
is_bare_look (RoomLook p) = false
is_bare_look (Take p m) = false
is_bare_look (EmptyLook p) = true
is_bare_look (DelimiterLook p) = false
is_bare_look (WaitingLook p) = false
is_bare_look (Seal p) = false

among : (before after : List PipeStep) (x : PipeStep) → is_bare_look x ≡ true → list_any is_bare_look (before ++ x ∷ after) ≡ true
among [] after x h = ap (λ (b : Bool). b || list_any is_bare_look after) h
among (y ∷ before) after x h = or_true (is_bare_look y) _ (among before after x h)
  where
    or_true : (a b : Bool) → b ≡ true → (a || b) ≡ true
    or_true true b h = refl
    or_true false b h = h

none_such : (steps before after : List PipeStep) (x : PipeStep) → list_any is_bare_look steps ≡ false → is_bare_look x ≡ true → steps ≡ before ++ x ∷ after → ⊥
none_such steps before after x none h e = never (sym none ∙ (ap (list_any is_bare_look) e ∙ among before after x h))

pub looks_in : (n : ℕ) (capacity : PipeId → ℕ) (steps : List PipeStep) → list_any is_bare_look steps ≡ false → are_borne_out steps [] steps ≡ true → list_all (is_in_pair n) steps ≡ true
    → HasRoom capacity steps (end_of n true) → HasRoom capacity steps (end_of n false) → (p : PipeId) → LooksHoldAt (capacity p) p steps
looks_in n capacity steps none borne pairs a b p = record {
  full = λ before after e. absurd (none_such steps before after (FullLook p) none refl e);
  empty = λ before after e. absurd (none_such steps before after (EmptyLook p) none refl e);
  «delimiter» = delimiter_at p steps borne;
  «waiting» = waiting_at p steps borne;
  room = room_in n capacity steps pairs a b p;
}
