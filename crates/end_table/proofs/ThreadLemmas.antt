-- What the loose reading gives where two workers have the two halves of a pipe: order, and what remains of looks.
use Rattle.std.proofs.Common.{◌≡◌, ◌≤◌, ⊎_elim, inl, inr, ℕ, List, [], ◌∷◌, ◌++◌, length, Bool, true, false, refl, sym, ap, ◌∙◌, subst, arith, append-nil, append_assoc}
use Rattle.std.proofs.lemmas.List.Elements.{filter_map-append}
use mathlib.Core.List.{IsPrefix}
use Rattle.zq_base.specs.Message.{Frames}
use Rattle.zq_base.specs.Ends.{PipeId}
use Rattle.spec_pattern.specs.PipeStep.{PipeStep, Commit, FullLook, RoomLook, Take, EmptyLook, DelimiterLook, WaitingLook, Seal, same_pipe, committed_by, taken_by, committed_to, taken_from}
use Rattle.spec_pattern.specs.Pipe.{HasNoRoom}
use Rattle.spec_pattern.specs.Half.{Writing, Reading, IsFull, Takes, SeesOne, IsEmpty, IsAtDelimiter, with_delimiter, fresh_writing, fresh_reading, AreHalves}
use Rattle.end_table.specs.Own.{IfOwn, WritesOne, ReadsOne, Writes, Reads}
use Rattle.end_table.proofs.StepLemmas.{own_pipe}
use Rattle.end_table.proofs.OwnLemmas.{write_grows, writes_grow}

-- what a step of this half does to it, or leaves
own_or_same : {V : Type 0} (does P : V → V → Type 0) → ((x y : V) → does x y → P x y) → ((x : V) → P x x) → (b : Bool) (v w : V) → IfOwn b does v w → P v w
own_or_same does P one none true v w h = one v w h
own_or_same does P one none false v w h = subst (λ z. P v z) (sym h) (none v)

if_true : {V : Type 0} (does : V → V → Type 0) (b : Bool) (v w : V) → b ≡ true → IfOwn b does v w → does v w
if_true does true v w e h = h
if_true does false v w e h = cc

-- takes
take_adds : (p q : PipeId) (m : Frames) (v w : Reading) (b : Bool) → same_pipe p q ≡ b → IfOwn b (λ x y. Takes x m y) v w → w.taken ≡ v.taken ++ taken_from p (Take q m ∷ [])
take_adds p q m v w true e h = rw e h.taken
take_adds p q m v w false e h = rw e (ap (λ (x : Reading). x.taken) h ∙ sym (append-nil v.taken))

look_takes : (does : Reading → Reading → Type 0) → ((x y : Reading) → does x y → y.taken ≡ x.taken) → (v w : Reading) (b : Bool) → IfOwn b does v w → w.taken ≡ v.taken ++ []
look_takes does same v w true h = same v w h ∙ sym (append-nil v.taken)
look_takes does same v w false h = ap (λ (x : Reading). x.taken) h ∙ sym (append-nil v.taken)

read_grows : (p : PipeId) (s : PipeStep) (v w : Reading) → ReadsOne p s v w → w.taken ≡ v.taken ++ taken_from p (s ∷ [])
read_grows p (Take q m) v w h = take_adds p q m v w (same_pipe p q) refl h
read_grows p (EmptyLook q) v w h = look_takes IsEmpty (λ x y f. f.taken) v w (same_pipe p q) h
read_grows p (DelimiterLook q) v w h = look_takes IsAtDelimiter (λ x y f. f.taken) v w (same_pipe p q) h
read_grows p (WaitingLook q) v w h = look_takes SeesOne (λ x y f. f.taken) v w (same_pipe p q) h
read_grows p (Commit q m) v w h = ap (λ (x : Reading). x.taken) h ∙ sym (append-nil v.taken)
read_grows p (FullLook q) v w h = ap (λ (x : Reading). x.taken) h ∙ sym (append-nil v.taken)
read_grows p (RoomLook q) v w h = ap (λ (x : Reading). x.taken) h ∙ sym (append-nil v.taken)
read_grows p (Seal q) v w h = ap (λ (x : Reading). x.taken) h ∙ sym (append-nil v.taken)

pub reads_grow : (p : PipeId) (steps : List PipeStep) (v w : Reading) → Reads p steps v w → w.taken ≡ v.taken ++ taken_from p steps
reads_grow p [] v w h = ap (λ (x : Reading). x.taken) h ∙ sym (append-nil v.taken)
reads_grow p (s ∷ ss) v w h =
    reads_grow p ss h.0 w h.2
    ∙ ap (λ (l : List Frames). l ++ taken_from p ss) (read_grows p s v h.0 h.1)
    ∙ append_assoc v.taken (taken_from p (s ∷ [])) (taken_from p ss)
    ∙ ap (λ (l : List Frames). v.taken ++ l) (sym (filter_map-append (taken_by p) (s ∷ []) ss))

-- order: of a pipe that one worker writes and another reads, once its halves are joined
pub in_order : (p : PipeId) (xs ys : List PipeStep) (c : ℕ) (w : Writing) (r : Reading) → Writes p xs (fresh_writing c) w → Reads p ys fresh_reading r → AreHalves w r
    → committed_to p ys ≡ [] → taken_from p xs ≡ [] → IsPrefix (taken_from p (xs ++ ys)) (committed_to p (xs ++ ys))
in_order p xs ys c w r writes reads fit none_in none_out =
    let all : committed_to p (xs ++ ys) ≡ w.committed =
    filter_map-append (committed_by p) xs ys ∙ ap (λ (l : List Frames). committed_to p xs ++ l) none_in ∙ append-nil (committed_to p xs) ∙ sym (writes_grow p xs (fresh_writing c) w writes) in
    let got : taken_from p (xs ++ ys) ≡ r.taken =
    filter_map-append (taken_by p) xs ys ∙ ap (λ (l : List Frames). l ++ taken_from p ys) none_out ∙ sym (reads_grow p ys fresh_reading r reads) in
    subst (λ (x : List Frames × List Frames). IsPrefix x.0 x.1) (λ k. (sym got k, sym all k)) fit.taken

-- what a writing half saw freed only grows, and its capacity stays
write_wider : (p : PipeId) (s : PipeStep) (v w : Writing) → WritesOne p s v w → (v.freed ≤ w.freed) × (w.capacity ≡ v.capacity)
write_wider p (Commit q m) v w h = own_or_same _ (λ x y. (x.freed ≤ y.freed) × (y.capacity ≡ x.capacity)) (λ x y d. (d.freed, d.capacity)) (λ x. (omega arith, refl)) (same_pipe p q) v w h
write_wider p (FullLook q) v w h = own_or_same _ (λ x y. (x.freed ≤ y.freed) × (y.capacity ≡ x.capacity)) (λ x y d. (d.freed, d.capacity)) (λ x. (omega arith, refl)) (same_pipe p q) v w h
write_wider p (RoomLook q) v w h = own_or_same _ (λ x y. (x.freed ≤ y.freed) × (y.capacity ≡ x.capacity)) (λ x y d. (d.freed, d.capacity)) (λ x. (omega arith, refl)) (same_pipe p q) v w h
write_wider p (Seal q) v w h = own_or_same (λ x y. y ≡ with_delimiter x) (λ x y. (x.freed ≤ y.freed) × (y.capacity ≡ x.capacity))
    (λ x y d. subst (λ (z : Writing). (x.freed ≤ z.freed) × (z.capacity ≡ x.capacity)) (sym d) (omega arith, refl)) (λ x. (omega arith, refl)) (same_pipe p q) v w h
write_wider p (Take q m) v w h = subst (λ (z : Writing). (v.freed ≤ z.freed) × (z.capacity ≡ v.capacity)) (sym h) (omega arith, refl)
write_wider p (EmptyLook q) v w h = subst (λ (z : Writing). (v.freed ≤ z.freed) × (z.capacity ≡ v.capacity)) (sym h) (omega arith, refl)
write_wider p (DelimiterLook q) v w h = subst (λ (z : Writing). (v.freed ≤ z.freed) × (z.capacity ≡ v.capacity)) (sym h) (omega arith, refl)
write_wider p (WaitingLook q) v w h = subst (λ (z : Writing). (v.freed ≤ z.freed) × (z.capacity ≡ v.capacity)) (sym h) (omega arith, refl)

writes_wider : (p : PipeId) (steps : List PipeStep) (v w : Writing) → Writes p steps v w → v.freed ≤ w.freed
writes_wider p [] v w h = subst (λ (z : Writing). v.freed ≤ z.freed) (sym h) (omega arith)
writes_wider p (s ∷ ss) v w h = let a = (write_wider p s v h.0 h.1).0 in let b = writes_wider p ss h.0 w h.2 in omega (arith, a, b)

-- a full look in the list of the half's worker found no room, with no more freed than its half saw in the end
pub full_look : (p : PipeId) (before after : List PipeStep) (v w : Writing) → Writes p (before ++ FullLook p ∷ after) v w
    → (freed : ℕ) × HasNoRoom (length (v.committed ++ committed_to p before)) freed v.capacity × (freed ≤ w.freed)
full_look p [] after v w h =
    let f : IsFull v h.0 = if_true IsFull (same_pipe p p) v h.0 (own_pipe p) h.1 in
    let count = ap length f.committed in
    let nil = ap length (append-nil v.committed) in
    let same = f.capacity in
    (h.0.freed, ⊎_elim (λ e. inl (omega (arith, count, nil, same, e))) (λ e. inr (omega (arith, count, nil, e))) f.full, writes_wider p after h.0 w h.2)
full_look p (s ∷ b) after v w h =
    let rest = full_look p b after h.0 w h.2 in
    let grown : h.0.committed ++ committed_to p b ≡ v.committed ++ committed_to p (s ∷ b) =
    ap (λ (l : List Frames). l ++ committed_to p b) (write_grows p s v h.0 h.1)
    ∙ append_assoc v.committed (committed_to p (s ∷ [])) (committed_to p b)
    ∙ ap (λ (l : List Frames). v.committed ++ l) (sym (filter_map-append (committed_by p) (s ∷ []) b)) in
    let count = ap length grown in
    let same = (write_wider p s v h.0 h.1).1 in
    (rest.0, ⊎_elim (λ e. inl (omega (arith, count, same, e))) (λ e. inr (omega (arith, count, e))) rest.1, rest.2)
