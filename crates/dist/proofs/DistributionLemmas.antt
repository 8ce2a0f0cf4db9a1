-- A distribution goes on by one place.
use Rattle.std.proofs.Common.{◌≡◌, ◌∙◌, ℕ, Bool, true, false, cond, not, List, [], ◌∷◌, ◌++◌, filter, refl, sym, ap, subst}
use Rattle.std.proofs.lemmas.List.{map-append}
use Rattle.std.proofs.lemmas.List.Elements.{filter-append}
use Rattle.zq_base.specs.Message.{Frames}
use Rattle.zq_base.specs.Ends.{PipeId}
use Rattle.spec_pattern.specs.PipeStep.{PipeStep}
use Rattle.dist.specs.Distribution.{Look, places_of, step_of, IsDistribution, Distributes}

-- before the first place
pub IsDistribution-none : (ends : ℕ → PipeId) (message : Frames) → IsDistribution ends message [] [] [] []
IsDistribution-none ends message = record { looks = []; places_are = refl; put_are = refl; full_are = refl; steps_are = refl }

-- what one more look adds to those that pass a test
one_more : (test : Look → Bool) (looks : List Look) (look : Look)
    → places_of (filter test (looks ++ look ∷ [])) ≡ places_of (filter test looks) ++ cond (test look) (look.place ∷ []) []
one_more test looks look =
    ap places_of (filter-append test looks (look ∷ []))
    ∙ map-append (λ l. l.place) (filter test looks) (filter test (look ∷ []))
    ∙ ap (λ l. places_of (filter test looks) ++ l) (by (test look))
  where
    by : (b : Bool) → places_of (cond b (look ∷ []) []) ≡ cond b (look.place ∷ []) []
    by true = refl
    by false = refl

-- one more place
pub IsDistribution-more : (ends : ℕ → PipeId) (message : Frames) (places put full : List ℕ) (steps : List PipeStep) (look : Look)
    → IsDistribution ends message places put full steps
    → IsDistribution ends message (places ++ look.place ∷ []) (put ++ cond look.room (look.place ∷ []) []) (full ++ cond (not look.room) (look.place ∷ []) []) (steps ++ step_of ends message look ∷ [])
IsDistribution-more ends message places put full steps look d = record {
  looks = d.looks ++ look ∷ [];
  places_are = ap (λ l. l ++ look.place ∷ []) d.places_are ∙ sym (map-append (λ l. l.place) d.looks (look ∷ []));
  put_are = ap (λ l. l ++ cond look.room (look.place ∷ []) []) d.put_are ∙ sym (one_more (λ l. l.room) d.looks look);
  full_are = ap (λ l. l ++ cond (not look.room) (look.place ∷ []) []) d.full_are ∙ sym (one_more (λ l. not l.room) d.looks look);
  steps_are = ap (λ l. l ++ step_of ends message look ∷ []) d.steps_are ∙ sym (map-append (step_of ends message) d.looks (look ∷ []));
}

module _ {S : Type 0} (runs : S → List PipeStep → S → Type 0)
    (on : (s t u : S) (before after : List PipeStep) → runs s before t → runs t after u → runs s (before ++ after) u)
    (ends : ℕ → PipeId) (message : Frames) (old mid new : S) (places put full : List ℕ) (place : ℕ) where
  -- one more place, as a call looked at it
  pub Distributes-more : (room : Bool) → Distributes runs ends message old mid places put full
      → runs mid (step_of ends message (record { place = place; room = room }) ∷ []) new
      → Distributes runs ends message old new (places ++ place ∷ []) (put ++ cond room (place ∷ []) []) (full ++ cond (not room) (place ∷ []) [])
  Distributes-more room d step = record {
    steps = d.steps ++ step_of ends message (record { place = place; room = room }) ∷ [];
    runs_are = on old mid new d.steps (step_of ends message (record { place = place; room = room }) ∷ []) d.runs_are step;
    sent = IsDistribution-more ends message places put full d.steps (record { place = place; room = room }) d.sent;
  }

  -- what the report and the places have become
  pub Distributes-as : (room : Bool) (places' put' full' : List ℕ) → Distributes runs ends message old mid places put full
      → runs mid (step_of ends message (record { place = place; room = room }) ∷ []) new
      → places' ≡ places ++ place ∷ [] → put' ≡ put ++ cond room (place ∷ []) [] → full' ≡ full ++ cond (not room) (place ∷ []) []
      → Distributes runs ends message old new places' put' full'
  Distributes-as room places' put' full' d step a b e =
      subst (λ l. Distributes runs ends message old new l put' full') (sym a)
      (subst (λ l. Distributes runs ends message old new (places ++ place ∷ []) l full') (sym b)
      (subst (λ l. Distributes runs ends message old new (places ++ place ∷ []) (put ++ cond room (place ∷ []) []) l) (sym e)
      (Distributes-more room d step)))
