-- Over exact looks, what was taken is a prefix of what was committed, and each look is borne out.
use Rattle.std.proofs.Common.{◌≡◌, ℕ, List, [], ◌∷◌, ◌++◌, length, Some, Bool, true, false, refl, sym, ap, append-nil, append_assoc}
use Rattle.std.specs.Prelude.{slice_get, nat_eq}
use mathlib.Core.List.{IsPrefix}
use Rattle.std.proofs.lemmas.Bool.{eqb-true}
use Rattle.std.proofs.lemmas.List.Elements.{filter_map-append}
use Rattle.zq_base.specs.Message.{Frames}
use Rattle.zq_base.specs.Ends.{PipeId}
use Rattle.spec_pattern.specs.PipeStep.{PipeStep, Commit, FullLook, RoomLook, Take, EmptyLook, DelimiterLook, WaitingLook, Seal, same_pipe, same_side, committed_by, taken_by, committed_to, taken_from, Follows, AreExact, TakesInOrder}

-- two names that are the same are equal
same_sides : (a b : Bool) → same_side a b ≡ true → a ≡ b
same_sides true true e = refl
same_sides true false e = cc
same_sides false true e = cc
same_sides false false e = refl

-- a name by its parts
by_parts : (n m : ℕ) (a b : Bool) → n ≡ m → a ≡ b
    → ◌≡◌ {A = PipeId} (record { pair = record { 0 = n }; a = a }) (record { pair = record { 0 = m }; a = b })
by_parts n m a b e f = cc

same_names : (p q : PipeId) (n : Bool) → nat_eq p.pair.0 q.pair.0 ≡ n → same_pipe p q ≡ true → p ≡ q
same_names p q true n e = by_parts p.pair.0 q.pair.0 p.a q.a (eqb-true p.pair.0 q.pair.0 n) (same_sides p.a q.a (cc))
same_names p q false n e = cc

pub same_pipes : (p q : PipeId) → same_pipe p q ≡ true → p ≡ q
same_pipes p q e = same_names p q (nat_eq p.pair.0 q.pair.0) refl e

-- a list goes on behind a prefix by the element at its end
prefix_more : {A : Type 0} (front all : List A) (x : A) → IsPrefix front all → slice_get all (length front) ≡ Some x → IsPrefix (front ++ x ∷ []) all
prefix_more [] [] x f e = cc
prefix_more [] (y ∷ ys) x f e = let same : y ≡ x = cc in (ys, rw same)
prefix_more (z ∷ zs) [] x f e = cc
prefix_more (z ∷ zs) (y ∷ ys) x (rest, whole) e = let head : y ≡ z = cc in let tail : zs ++ rest ≡ ys = cc in
    let more = prefix_more zs ys x (rest, tail) e in (more.0, rw head (ap (λ (l : List _). z ∷ l) more.1))

longer : {A : Type 0} (front all more : List A) → IsPrefix front all → IsPrefix front (all ++ more)
longer front all more (rest, whole) = (rest ++ more, rw (sym whole) (simp append_assoc))

-- one step more, by what it adds to both lists
stepped : (p : PipeId) (past : List PipeStep) (t : PipeStep)
    → IsPrefix (taken_from p past ++ taken_from p (t ∷ [])) (committed_to p past ++ committed_to p (t ∷ [])) → IsPrefix (taken_from p (past ++ t ∷ [])) (committed_to p (past ++ t ∷ []))
stepped p past t f = rw (filter_map-append (taken_by p) past (t ∷ []), filter_map-append (committed_by p) past (t ∷ [])) f

took : (p q : PipeId) (past : List PipeStep) (m : Frames) (b : Bool) → same_pipe p q ≡ b → IsPrefix (taken_from p past) (committed_to p past)
    → slice_get (committed_to q past) (length (taken_from q past)) ≡ Some m → IsPrefix (taken_from p (past ++ Take q m ∷ [])) (committed_to p (past ++ Take q m ∷ []))
took p q past m true e f now = let same : p ≡ q = same_pipes p q e in
    stepped p past (Take q m) (rw (e, append-nil) (prefix_more (taken_from p past) (committed_to p past) m f (rw same now)))
took p q past m false e f now = stepped p past (Take q m) (rw (e, append-nil, append-nil) f)

one_step : (c : PipeId → ℕ) (p : PipeId) (past : List PipeStep) (t : PipeStep) → IsPrefix (taken_from p past) (committed_to p past) → Follows c past t
    → IsPrefix (taken_from p (past ++ t ∷ [])) (committed_to p (past ++ t ∷ []))
one_step c p past (Commit q m) f now = stepped p past (Commit q m) (rw append-nil (longer (taken_from p past) (committed_to p past) (committed_to p (Commit q m ∷ [])) f))
one_step c p past (FullLook q) f now = stepped p past (FullLook q) (rw (append-nil, append-nil) f)
one_step c p past (RoomLook q) f now = stepped p past (RoomLook q) (rw (append-nil, append-nil) f)
one_step c p past (Take q m) f now = took p q past m (same_pipe p q) refl f now
one_step c p past (EmptyLook q) f now = stepped p past (EmptyLook q) (rw (append-nil, append-nil) f)
one_step c p past (DelimiterLook q) f now = stepped p past (DelimiterLook q) (rw (append-nil, append-nil) f)
one_step c p past (WaitingLook q) f now = stepped p past (WaitingLook q) (rw (append-nil, append-nil) f)
one_step c p past (Seal q) f now = stepped p past (Seal q) (rw (append-nil, append-nil) f)

prefix_kept : (c : PipeId → ℕ) (p : PipeId) (past steps : List PipeStep) → IsPrefix (taken_from p past) (committed_to p past) → AreExact c past steps
    → IsPrefix (taken_from p (past ++ steps)) (committed_to p (past ++ steps))
prefix_kept c p past [] f exact = rw append-nil f
prefix_kept c p past (t ∷ ts) f exact = rw append_assoc at (prefix_kept c p (past ++ t ∷ []) ts (one_step c p past t f exact.0) exact.1)

pub taken_prefix : (c : PipeId → ℕ) (steps : List PipeStep) → AreExact c [] steps → TakesInOrder steps
taken_prefix c steps exact p = prefix_kept c p [] steps ([], refl) exact
