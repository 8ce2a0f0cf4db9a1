-- Which ends came to a socket's places in a call, by the joins that stand behind it.
use Rattle.std.proofs.Common.{◌≡◌, ◌≢◌, ◌∙◌, ◌⊎◌, inl, inr, ℕ, Bool, true, false, List, [], ◌∷◌, ◌++◌, length, refl, sym, ap, subst, arith, true≢false}
use Rattle.std.proofs.Math.Logic.{∥∥₁_elim, ∥∥₁_map}
use Rattle.std.proofs.lemmas.List.{append_cancel_left}
use Rattle.spec_control.specs.declared.entry.Joining.{Joining}
use Rattle.msg_pipe.specs.Known.{Known}
use Rattle.end_table.specs.declared.changes.PipeChange.{PipeChange}
use Rattle.end_table.specs.declared.changes.PipeChange.TheVariants.{Kept, Made, Sealed, SealedAgain, Parted, Settled}
use Rattle.end_table.specs.declared.table.Place.{Place}
use Rattle.end_table.proofs.PlaceLemmas.{place_within}
use Rattle.sock_core.specs.Came.{IsOneOf, HasJoined, JoinedAt, AreChangedAt, IsOfNew, HasCome}
use Rattle.sock_core.specs.Way.{oldest_first}
use Rattle.sock_calls.specs.Calls.{AreEndsApart, HaveComeBy}

nothing_prop : IsProp ⊥
nothing_prop = Prim.hlevel

one_front : {A : Type 0} (xs ys : List A) (a : A) → IsOneOf xs a → IsOneOf (xs ++ ys) a
one_front [] ys a h = absurd h
one_front (x ∷ xs) ys a (inl e) = inl e
one_front (x ∷ xs) ys a (inr h) = inr (one_front xs ys a h)

one_last : {A : Type 0} (xs : List A) (a b : A) → a ≡ b → IsOneOf (xs ++ a ∷ []) b
one_last [] a b e = inl e
one_last (x ∷ xs) a b e = inr (one_last xs a b e)

one_oldest : {N : Type 0} (xs : List (Joining N × ℕ)) (j : Joining N) (k : ℕ) → IsOneOf xs (j, k) → IsOneOf (oldest_first xs) j
one_oldest [] j k h = absurd h
one_oldest (x ∷ xs) j k (inl e) = one_last (oldest_first xs) x.0 j (ap (λ y. y.0) e)
one_oldest (x ∷ xs) j k (inr h) = one_front (oldest_first xs) (x.0 ∷ []) j (one_oldest xs j k h)

-- ---- ends

apart_front : {N : Type 0} (js : List (Joining N)) (j : Joining N) → AreEndsApart (js ++ j ∷ []) → AreEndsApart js
apart_front [] j h = tt
apart_front (x ∷ js) j h = ((λ d one. h.0 d (one_front js (j ∷ []) d one)), apart_front js j h.1)

apart_last : {N : Type 0} (js : List (Joining N)) (j d : Joining N) → AreEndsApart (js ++ j ∷ []) → IsOneOf js d → d.end ≢ j.end
apart_last [] j d h one = absurd one
apart_last (x ∷ js) j d h (inl e) = λ same. h.0 j (one_last js j j refl) (ap (λ (y : Joining _). y.end) e ∙ same)
apart_last (x ∷ js) j d h (inr one) = apart_last js j d h.1 one

apart_ends : {N : Type 0} (xs : List (Joining N × ℕ)) (j d : Joining N) (i k : ℕ) → AreEndsApart (oldest_first xs) → IsOneOf xs (j, i) → IsOneOf xs (d, k) → i ≢ k → j.end ≢ d.end
apart_ends [] j d i k h a b ne = absurd a
apart_ends (x ∷ xs) j d i k h (inl e) (inl f) ne = absurd (ne (ap (λ (y : Joining _ × ℕ). y.1) (sym e ∙ f)))
apart_ends (x ∷ xs) j d i k h (inl e) (inr b) ne = λ same. apart_last (oldest_first xs) x.0 d h (one_oldest xs d k b) (sym same ∙ ap (λ (y : Joining _ × ℕ). y.0.end) (sym e))
apart_ends (x ∷ xs) j d i k h (inr a) (inl f) ne = λ same. apart_last (oldest_first xs) x.0 j h (one_oldest xs j i a) (same ∙ ap (λ (y : Joining _ × ℕ). y.0.end) (sym f))
apart_ends (x ∷ xs) j d i k h (inr a) (inr b) ne = apart_ends xs j d i k (apart_front (oldest_first xs) x.0 h) a b ne

-- ---- places

module _ {N O I S X : Type 0} (so too : ℕ → Place N I → Type 0) (many : ℕ) (ps : List (Place N I)) (each : X → (k : ℕ) (p : Place N I) → so k p → too k p) where
  changed_out : (xs : List (PipeChange O I × S)) → ∥ X × AreChangedAt so many ps xs ∥₁ → AreChangedAt (λ k p. ∥ too k p ∥₁) many ps xs
  changed_out [] h = tt
  changed_out ((Kept, s) ∷ xs) h = (tt, changed_out xs (∥∥₁_map h (λ a. (a.0, a.1.1))))
  changed_out ((Made e capacity halves, s) ∷ xs) h = (tt, changed_out xs (∥∥₁_map h (λ a. (a.0, a.1.1))))
  changed_out ((Sealed k e half, s) ∷ xs) h = ((λ le p at. ∥∥₁_map h (λ a. each a.0 k p (a.1.0 le p at))), changed_out xs (∥∥₁_map h (λ a. (a.0, a.1.1))))
  changed_out ((SealedAgain k e, s) ∷ xs) h = ((λ le p at. ∥∥₁_map h (λ a. each a.0 k p (a.1.0 le p at))), changed_out xs (∥∥₁_map h (λ a. (a.0, a.1.1))))
  changed_out ((Parted k e half, s) ∷ xs) h = ((λ le p at. ∥∥₁_map h (λ a. each a.0 k p (a.1.0 le p at))), changed_out xs (∥∥₁_map h (λ a. (a.0, a.1.1))))
  changed_out ((Settled k e, s) ∷ xs) h = ((λ le p at. ∥∥₁_map h (λ a. each a.0 k p (a.1.0 le p at))), changed_out xs (∥∥₁_map h (λ a. (a.0, a.1.1))))

module _ {S O I N : Type 0} (K : Known S O I N) where
  -- where pipes are made, no end comes with its halves
  pub come_made : (made comes : Bool) (first : S) (many : ℕ) (before now : List (Joining N)) (xs : List (Joining N × ℕ)) (changes : List (PipeChange O I × S)) (ps : List (Place N I)) → (made ≡ true → comes ≡ false)
      → HasCome K made comes first many before xs now changes ps → HasCome K made false first many before xs now changes ps
  come_made made comes first many before now xs changes ps makes c = record {
    joins_are = c.joins_are;
    held = c.held;
    each = λ k p le at. by k p (c.each k p le at);
    changed = c.changed;
  }
    where
      by : (k : ℕ) (p : Place N I) → JoinedAt xs k p ⊎ ((made ≡ true) × (comes ≡ false → IsOfNew K first p)) → JoinedAt xs k p ⊎ ((made ≡ true) × (false ≡ false → IsOfNew K first p))
      by k p (inl a) = inl a
      by k p (inr n) = inr (n.0, λ e. n.1 (makes n.0))

  -- by the joins, without their places
  pub come_by : (made comes : Bool) (first : S) (many : ℕ) (before now : List (Joining N)) (xs : List (Joining N × ℕ)) (changes : List (PipeChange O I × S)) (ps : List (Place N I)) → (made ≡ true → comes ≡ false)
      → ∥ HasCome K made comes first many before xs now changes ps ∥₁ → (js : List (Joining N)) → now ≡ before ++ js → HaveComeBy K made first many js changes ps
  come_by made comes first many before now xs changes ps makes h js is = record {
    held = λ k p le at on. ∥∥₁_map h (λ c. same c k p (c.held k p le at on));
    each = λ k p le at. ∥∥₁_map h (λ c. one c k p (c.each k p le at));
    once = λ none apart i k p q ne le_i le_k at_i at_k same. ∥∥₁_elim h nothing_prop (λ c.
        two c none apart i k p q ne (c.each i p le_i at_i) (c.each k q le_k at_k) same);
    changed = changed_out (JoinedAt xs) (λ k p. HasJoined js p) many ps same changes (∥∥₁_map h (λ c. (c, c.changed)));
  }
    where
      same : HasCome K made comes first many before xs now changes ps → (k : ℕ) (p : Place N I) → JoinedAt xs k p → HasJoined js p
      same c k p a = record {
        joining = a.joining;
        among = subst (λ (l : List (Joining N)). IsOneOf l a.joining) (append_cancel_left before (oldest_first xs) js (sym c.joins_are ∙ is)) (one_oldest xs a.joining k a.among);
        end_is = a.end_is;
        written_is = a.written_is;
        read_is = a.read_is;
      }

      two : HasCome K made comes first many before xs now changes ps → made ≡ false → AreEndsApart js → (i k : ℕ) (p q : Place N I) → i ≢ k
          → JoinedAt xs i p ⊎ ((made ≡ true) × (comes ≡ false → IsOfNew K first p)) → JoinedAt xs k q ⊎ ((made ≡ true) × (comes ≡ false → IsOfNew K first q)) → p.end ≢ q.end
      two c none apart i k p q ne (inl a) (inl b) =
          λ same. apart_ends xs a.joining b.joining i k (subst AreEndsApart (sym (append_cancel_left before (oldest_first xs) js (sym c.joins_are ∙ is))) apart) a.among b.among ne (sym a.end_is ∙ same ∙ b.end_is)
      two c none apart i k p q ne (inl a) (inr n) = absurd (true≢false (sym n.0 ∙ none))
      two c none apart i k p q ne (inr n) b = absurd (true≢false (sym n.0 ∙ none))

      one : HasCome K made comes first many before xs now changes ps → (k : ℕ) (p : Place N I) → JoinedAt xs k p ⊎ ((made ≡ true) × (comes ≡ false → IsOfNew K first p)) → HasJoined js p ⊎ ((made ≡ true) × IsOfNew K first p)
      one c k p (inl a) = inl (same c k p a)
      one c k p (inr n) = inr (n.0, n.1 (makes n.0))

  -- none came
  pub come_none : (made : Bool) (first : S) (many : ℕ) (js : List (Joining N)) (ps : List (Place N I)) → many ≡ length ps → HaveComeBy K made first many js [] ps
  come_none made first many js ps last = record {
    held = λ k p le at on. let w = place_within ps k p at in absurd (omega (arith, le, w, last));
    each = λ k p le at. let w = place_within ps k p at in absurd (omega (arith, le, w, last));
    changed = tt;
    once = λ none apart i k p q ne le_i le_k at_i at_k. let w = place_within ps i p at_i in absurd (omega (arith, le_i, w, last));
  }
