-- What was done to the pipes is told in one way, so that a proof of it may be taken out of a truncation.
use Rattle.std.proofs.Common.{◌≡◌, ◌∙◌, ℕ, Bool, true, List, [], ◌∷◌, Option, Some, None, refl, sym, ap, subst, true≢false}
use Rattle.std.specs.Option.{is_some}
use Rattle.std.proofs.Math.Logic.{∥∥₁_elim}
use Rattle.std.specs.Coded.{codes, ×_prop, Unit-prop}
use Rattle.zq_base.specs.declared.ids.EndId.{EndId}
use Rattle.zq_base.specs.Ends.{other_end}
use Rattle.spec_pattern.specs.Half.{Writing, Reading}
use Rattle.msg_pipe.specs.Known.{Known, KeepsAll, KeepsButOut, KeepsButPipe, MakesPipe}
use Rattle.end_table.specs.declared.changes.PipeChange.{PipeChange}
use Rattle.end_table.specs.declared.changes.PipeChange.TheVariants.{Kept, Made, Sealed, SealedAgain, Parted, Settled}
use Rattle.end_table.specs.declared.table.Place.{Place}
use Rattle.end_table.specs.Changes.{made_last, AreMadeFor, WasHeld, WereHeld, IsPlaced, MadeWith, PutsDelimiter, ForgetsParts, SealedBy, PartedBy, StaysSealed, SettlesPipe, DoesChange, DoesChanges}
use Rattle.end_table.specs.Places.{place_at}
use Rattle.end_table.proofs.SoundLemmas.{one_some}
use native.Mathlib.Bridge.{le_prop}

writing_set : IsSet Writing
writing_set = Prim.hlevel codes

reading_set : IsSet Reading
reading_set = Prim.hlevel codes

bool_set : IsSet Bool
bool_set = Prim.hlevel codes

end_set : IsSet EndId
end_set = Prim.hlevel codes

nothing_prop : IsProp ⊥
nothing_prop = Prim.hlevel

-- ---- what was held

module _ {N I : Type 0} (ps : List (Place N I)) where
  one_prop : (k : ℕ) → IsProp ((p : Place N I) → place_at ps k ≡ Some p → p.held ≡ true)
  one_prop k = Prim.hlevel bool_set

  both_prop : (k : ℕ) → IsProp ((p : Place N I) → place_at ps k ≡ Some p → (p.held ≡ true) × (p.writes ≡ true))
  both_prop k = Prim.hlevel bool_set

  was_held_prop : {O : Type 0} (d : PipeChange O I) → IsProp (WasHeld ps d)
  was_held_prop Kept = Unit-prop
  was_held_prop (Made e capacity halves) = Unit-prop
  was_held_prop (Sealed k e half) = both_prop k
  was_held_prop (SealedAgain k e) = both_prop k
  was_held_prop (Parted k e half) = both_prop k
  was_held_prop (Settled k e) = one_prop k

  pub were_held_prop : {O S : Type 0} (xs : List (PipeChange O I × S)) → IsProp (WereHeld ps xs)
  were_held_prop [] = Unit-prop
  were_held_prop (x ∷ xs) = ×_prop (was_held_prop x.0) (were_held_prop xs)

-- ---- what was made

none_is : {A : Type 0} (a : A) → None ≡ Some a → ⊥
none_is a e = true≢false (sym (ap is_some e))

module _ {S O I N : Type 0} (K : Known S O I N) (n_set : IsSet N) (may_make : EndId → ℕ → ℕ → Type 0) (xs : List (PipeChange O I × S)) (e : EndId) (writes_name reads_name : N) where
  abbrev Is : Type 0
  Is = AreMadeFor K may_make xs e writes_name reads_name

  pub made_out : ∥ Is ∥₁ → Is
  made_out h = by (made_last e xs) (made_last (other_end e) xs) refl refl
    where
      by : (a b : Option (ℕ × O)) → made_last e xs ≡ a → made_last (other_end e) xs ≡ b → Is
      by None b at_a at_b = absurd (∥∥₁_elim h nothing_prop (λ m. none_is (m.written, m.out) (sym at_a ∙ m.writes)))
      by (Some x) None at_a at_b = absurd (∥∥₁_elim h nothing_prop (λ m. none_is (m.read, m.other) (sym at_b ∙ m.reads)))
      by (Some x) (Some y) at_a at_b = record {
        written = x.0;
        read = y.0;
        out = x.1;
        other = y.1;
        writes = at_a;
        writes_it = ∥∥₁_elim h (n_set (K.out_name x.1) writes_name) (λ m. ap (λ (z : ℕ × O). K.out_name z.1) (one_some x (m.written, m.out) (sym at_a ∙ m.writes)) ∙ m.writes_it);
        reads = at_b;
        reads_it = ∥∥₁_elim h (n_set (K.out_name y.1) reads_name) (λ m. ap (λ (z : ℕ × O). K.out_name z.1) (one_some y (m.read, m.other) (sym at_b ∙ m.reads)) ∙ m.reads_it);
        may = ∥∥₁_elim h squash₁ (λ m.
            subst (λ (z : ℕ × O). ∥ may_make e z.0 y.0 ∥₁) (sym (one_some x (m.written, m.out) (sym at_a ∙ m.writes)))
            (subst (λ (z : ℕ × O). ∥ may_make e m.written z.0 ∥₁) (sym (one_some y (m.read, m.other) (sym at_b ∙ m.reads))) m.may));
      }

module _ {S O I N : Type 0} (K : Known S O I N) (n_set : IsSet N) (s_set : IsSet S) where
  kept_prop : (old new : S) → IsProp (KeepsAll K old new)
  kept_prop old new = Prim.hlevel (writing_set, reading_set, bool_set)

  makes_prop : (capacity : ℕ) (o : O) (i : I) (old new : S) → IsProp (MakesPipe K capacity o i old new)
  makes_prop capacity o i old new = Prim.hlevel (writing_set, reading_set, bool_set, n_set)

  but_out_prop : (lent back : O) (old new : S) → IsProp (KeepsButOut K lent back old new)
  but_out_prop lent back old new = Prim.hlevel (writing_set, reading_set, bool_set, n_set)

  but_pipe_prop : (n : N) (old new : S) → IsProp (KeepsButPipe K n old new)
  but_pipe_prop n old new = Prim.hlevel (writing_set, reading_set, bool_set, n_set)

  module _ (ps : List (Place N I)) where
    placed_prop : (k : ℕ) (e : EndId) → IsProp (IsPlaced ps k e)
    placed_prop k e = Prim.hlevel (le_prop, end_set)

    made_prop : (capacity : ℕ) (hs : List (O × I)) (old new : S) → IsProp (MadeWith K capacity hs old new)
    made_prop capacity [] old new = nothing_prop
    made_prop capacity (h ∷ hs) old new = ×_prop (makes_prop capacity h.0 h.1 old new) (kept_prop old new)

    puts_prop : (k : ℕ) (e : EndId) (lent back : O) (old new : S) → IsProp (PutsDelimiter K ps k e lent back old new)
    puts_prop k e lent back old new = Prim.hlevel (placed_prop, but_out_prop, writing_set, bool_set, n_set)

    forgets_prop : (k : ℕ) (e : EndId) (lent back : O) (old new : S) → IsProp (ForgetsParts K ps k e lent back old new)
    forgets_prop k e lent back old new = Prim.hlevel (placed_prop, but_out_prop, writing_set, n_set)

    settles_prop : (k : ℕ) (e : EndId) (old new : S) → IsProp (SettlesPipe K ps k e old new)
    settles_prop k e old new = Prim.hlevel (placed_prop, but_pipe_prop, bool_set)

    stays_prop : (k : ℕ) (e : EndId) (old new : S) → IsProp (StaysSealed K ps k e old new)
    stays_prop k e old new = Prim.hlevel (placed_prop, s_set)

    sealed_prop : (k : ℕ) (e : EndId) (hs : List (O × Unit {0})) (old new : S) → IsProp (SealedBy K ps k e hs old new)
    sealed_prop k e [] old new = nothing_prop
    sealed_prop k e (a ∷ []) old new = nothing_prop
    sealed_prop k e (a ∷ b ∷ []) old new = puts_prop k e a.0 b.0 old new
    sealed_prop k e (a ∷ b ∷ c ∷ cs) old new = nothing_prop

    parted_prop : (k : ℕ) (e : EndId) (hs : List (O × Unit {0})) (old new : S) → IsProp (PartedBy K ps k e hs old new)
    parted_prop k e [] old new = nothing_prop
    parted_prop k e (a ∷ []) old new = nothing_prop
    parted_prop k e (a ∷ b ∷ []) old new = forgets_prop k e a.0 b.0 old new
    parted_prop k e (a ∷ b ∷ c ∷ cs) old new = nothing_prop

    change_prop : (d : PipeChange O I) (old new : S) → IsProp (DoesChange K ps d old new)
    change_prop Kept old new = kept_prop old new
    change_prop (Made e capacity halves) old new = made_prop capacity halves.items old new
    change_prop (Sealed k e half) old new = sealed_prop k e half.items old new
    change_prop (SealedAgain k e) old new = stays_prop k e old new
    change_prop (Parted k e half) old new = parted_prop k e half.items old new
    change_prop (Settled k e) old new = settles_prop k e old new

    pub changes_prop : (old : S) (xs : List (PipeChange O I × S)) (new : S) → IsProp (DoesChanges K ps old xs new)
    changes_prop old [] new = s_set new old
    changes_prop old (x ∷ xs) new = ×_prop (change_prop x.0 old x.1) (changes_prop x.1 xs new)
