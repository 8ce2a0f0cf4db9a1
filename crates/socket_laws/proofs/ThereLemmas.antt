-- The pipes that are there stay there.
use Rattle.std.proofs.Common.{ℕ, List, [], ◌∷◌, sym, subst, inl, inr}
use Rattle.zq_base.specs.declared.ids.EndId.{EndId}
use Rattle.spec_pattern.specs.PipeStep.{PipeStep}
use Rattle.msg_pipe.specs.Known.{Known, IsThere}
use Rattle.end_table.specs.Rows.{Table}
use Rattle.end_table.specs.Runs.{DoesAll, DoesOne}
use Rattle.end_table.specs.declared.changes.PipeChange.{PipeChange}
use Rattle.end_table.specs.declared.changes.PipeChange.TheVariants.{Kept, Made, Sealed, SealedAgain, Parted, Settled}
use Rattle.end_table.specs.declared.table.Place.{Place}
use Rattle.end_table.specs.Changes.{MadeWith, SealedBy, PartedBy, DoesChanges}
use Rattle.end_table.proofs.EndsLemmas.{some_place}

module _ {S O I N : Type 0} (K : Known S O I N) where
  -- ---- behind calls on messages

  step_there : (old : Table S O I) (s : PipeStep) (new : Table S O I) → DoesOne K old s new → (n : N) → IsThere K old.pipes n → IsThere K new.pipes n
  step_there old s new (inl a) n there = a.keeps.there n there
  step_there old s new (inr a) n there = a.keeps.there n there

  pub steps_there : (old : Table S O I) (steps : List PipeStep) (new : Table S O I) → DoesAll K old steps new → (n : N) → IsThere K old.pipes n → IsThere K new.pipes n
  steps_there old [] new all n there = subst (λ (t : Table S O I). IsThere K t.pipes n) (sym all) there
  steps_there old (s ∷ steps) new all n there = steps_there all.0 steps new all.2 n (step_there old s all.0 all.1 n there)

  -- ---- behind changes

  module _ (ps : List (Place N I)) where
    made_there : (capacity : ℕ) (items : List (O × I)) (old new : S) → MadeWith K capacity items old new → (n : N) → IsThere K old n → IsThere K new n
    made_there capacity [] old new does n there = absurd does
    made_there capacity (x ∷ xs) old new does n there = does.1.there n there

    sealed_there : (k : ℕ) (e : EndId) (items : List (O × Unit {0})) (old new : S) → SealedBy K ps k e items old new → (n : N) → IsThere K old n → IsThere K new n
    sealed_there k e (lent ∷ back ∷ []) old new does n there = does.keeps.there n there
    sealed_there k e [] old new does n there = absurd does
    sealed_there k e (x ∷ []) old new does n there = absurd does
    sealed_there k e (x ∷ y ∷ z ∷ zs) old new does n there = absurd does

    parted_there : (k : ℕ) (e : EndId) (items : List (O × Unit {0})) (old new : S) → PartedBy K ps k e items old new → (n : N) → IsThere K old n → IsThere K new n
    parted_there k e (lent ∷ back ∷ []) old new does n there = does.keeps.there n there
    parted_there k e [] old new does n there = absurd does
    parted_there k e (x ∷ []) old new does n there = absurd does
    parted_there k e (x ∷ y ∷ z ∷ zs) old new does n there = absurd does

    pub changes_there : (xs : List (PipeChange O I × S)) (old new : S) → DoesChanges K ps old xs new → (n : N) → IsThere K old n → IsThere K new n
    changes_there [] old new does n there = subst (λ (s : S). IsThere K s n) (sym does) there
    changes_there ((Kept, s) ∷ xs) old new does n there = changes_there xs s new does.1 n (does.0.there n there)
    changes_there ((Made e capacity halves, s) ∷ xs) old new does n there = changes_there xs s new does.1 n (made_there capacity halves.items old s does.0 n there)
    changes_there ((Sealed k e half, s) ∷ xs) old new does n there = changes_there xs s new does.1 n (sealed_there k e half.items old s does.0 n there)
    changes_there ((SealedAgain k e, s) ∷ xs) old new does n there = changes_there xs s new does.1 n (subst (λ (t : S). IsThere K t n) (sym does.0.stays) there)
    changes_there ((Parted k e half, s) ∷ xs) old new does n there = changes_there xs s new does.1 n (parted_there k e half.items old s does.0 n there)
    changes_there ((Settled k e, s) ∷ xs) old new does n there =
        let p = some_place ps k does.0.placed.within in
        changes_there xs s new does.1 n ((does.0.keeps p.0 p.1).there n there)
