-- What is so of the places at which pipes were changed.
use Rattle.std.proofs.Common.{◌≡◌, ◌≤◌, ℕ, Bool, List, [], ◌∷◌, Some, length}
use Rattle.std.specs.Coded.{codes, ×_prop, Unit-prop}
use Rattle.std.specs.List.{AllByRecursion}
use Rattle.spec_control.specs.Control.{Control}
use Rattle.end_table.specs.declared.changes.PipeChange.{PipeChange}
use Rattle.end_table.specs.declared.changes.PipeChange.TheVariants.{Kept, Made, Sealed, SealedAgain, Parted, Settled}
use Rattle.end_table.specs.declared.table.Place.{Place}
use Rattle.end_table.specs.Changes.{WereHeld, AreMakings}
use Rattle.end_table.specs.Places.{place_at}
use Rattle.sock_core.specs.Came.{IsChangedAt, AreChangedAt}
use Rattle.socket_laws.specs.Places.{WasOrIsHeld}
use Rattle.socket_laws.specs.Changes.{IsOfPipes}
use Rattle.socket_laws.specs.OfPipes.{AreHeldSince}

pub bool_set : IsSet Bool
bool_set = Prim.hlevel codes

module _ {N I : Type 0} where
  module _ (so : ℕ → Place N I → Type 0) (many : ℕ) (ps : List (Place N I)) (so_prop : (k : ℕ) (p : Place N I) → IsProp (so k p)) where
    at_prop : (k : ℕ) → IsProp (many ≤ k → (p : Place N I) → place_at ps k ≡ Some p → so k p)
    at_prop k = Prim.hlevel so_prop

    changed_prop : {O : Type 0} (x : PipeChange O I) → IsProp (IsChangedAt so many ps x)
    changed_prop Kept = Unit-prop
    changed_prop (Made e capacity halves) = Unit-prop
    changed_prop (Sealed k e half) = at_prop k
    changed_prop (SealedAgain k e) = at_prop k
    changed_prop (Parted k e half) = at_prop k
    changed_prop (Settled k e) = at_prop k

    pub all_changed_prop : {S O : Type 0} (xs : List (PipeChange O I × S)) → IsProp (AreChangedAt so many ps xs)
    all_changed_prop [] = Unit-prop
    all_changed_prop (x ∷ xs) = ×_prop (changed_prop x.0) (all_changed_prop xs)

  -- what is so of each place at which an end was held, or came to be, is so of each at which pipes were changed
  module _ {S O : Type 0} (so : ℕ → Place N I → Type 0) (was ps : List (Place N I)) (f : (k : ℕ) (p : Place N I) → place_at ps k ≡ Some p → WasOrIsHeld was k p → so k p) where
    pub changed_stood : (xs : List (PipeChange O I × S)) → WereHeld was xs → AreHeldSince (length was) ps xs → AreChangedAt so 0 ps xs
    changed_stood [] held since = tt
    changed_stood ((Kept, s) ∷ xs) held since = (tt, changed_stood xs held.1 since.1)
    changed_stood ((Made e capacity halves, s) ∷ xs) held since = (tt, changed_stood xs held.1 since.1)
    changed_stood ((Sealed k e half, s) ∷ xs) held since = (
      (λ le p at. f k p at (record { stood = λ q there. (held.0 q there).0; came = λ least. since.0 least p at })),
      changed_stood xs held.1 since.1,
    )
    changed_stood ((SealedAgain k e, s) ∷ xs) held since = (
      (λ le p at. f k p at (record { stood = λ q there. (held.0 q there).0; came = λ least. since.0 least p at })),
      changed_stood xs held.1 since.1,
    )
    changed_stood ((Parted k e half, s) ∷ xs) held since = (
      (λ le p at. f k p at (record { stood = λ q there. (held.0 q there).0; came = λ least. since.0 least p at })),
      changed_stood xs held.1 since.1,
    )
    changed_stood ((Settled k e, s) ∷ xs) held since = (
      (λ le p at. f k p at (record { stood = held.0; came = λ least. since.0 least p at })),
      changed_stood xs held.1 since.1,
    )

  -- what follows from what is so of such places
  module _ {S O : Type 0} (so too : ℕ → Place N I → Type 0) (many : ℕ) (ps : List (Place N I)) (f : (k : ℕ) (p : Place N I) → many ≤ k → place_at ps k ≡ Some p → so k p → too k p) where
    pub changed_there : (xs : List (PipeChange O I × S)) → AreChangedAt so many ps xs → AreChangedAt too many ps xs
    changed_there [] all = tt
    changed_there ((Kept, s) ∷ xs) all = (tt, changed_there xs all.1)
    changed_there ((Made e capacity halves, s) ∷ xs) all = (tt, changed_there xs all.1)
    changed_there ((Sealed k e half, s) ∷ xs) all = ((λ le p at. f k p le at (all.0 le p at)), changed_there xs all.1)
    changed_there ((SealedAgain k e, s) ∷ xs) all = ((λ le p at. f k p le at (all.0 le p at)), changed_there xs all.1)
    changed_there ((Parted k e half, s) ∷ xs) all = ((λ le p at. f k p le at (all.0 le p at)), changed_there xs all.1)
    changed_there ((Settled k e, s) ∷ xs) all = ((λ le p at. f k p le at (all.0 le p at)), changed_there xs all.1)

  -- where pipes were made alone, nothing was changed at a place
  module _ {S O : Type 0} (so : ℕ → Place N I → Type 0) (many : ℕ) (ps : List (Place N I)) where
    pub makings_changed : (xs : List (PipeChange O I × S)) → AreMakings xs → AreChangedAt so many ps xs
    makings_changed [] all = tt
    makings_changed ((Kept, s) ∷ xs) all = (tt, makings_changed xs all.1)
    makings_changed ((Made e capacity halves, s) ∷ xs) all = (tt, makings_changed xs all.1)
    makings_changed ((Sealed k e half, s) ∷ xs) all = absurd all.0
    makings_changed ((SealedAgain k e, s) ∷ xs) all = absurd all.0
    makings_changed ((Parted k e half, s) ∷ xs) all = absurd all.0
    makings_changed ((Settled k e, s) ∷ xs) all = absurd all.0

pub makings_of_pipes : {S O I : Type 0} (c now : Control) (xs : List (PipeChange O I × S)) → AreMakings xs → AllByRecursion (λ x. IsOfPipes c now x.0) xs
makings_of_pipes c now [] all = tt
makings_of_pipes c now ((Kept, s) ∷ xs) all = (tt, makings_of_pipes c now xs all.1)
makings_of_pipes c now ((Made e capacity halves, s) ∷ xs) all = (tt, makings_of_pipes c now xs all.1)
makings_of_pipes c now ((Sealed k e half, s) ∷ xs) all = absurd all.0
makings_of_pipes c now ((SealedAgain k e, s) ∷ xs) all = absurd all.0
makings_of_pipes c now ((Parted k e half, s) ∷ xs) all = absurd all.0
makings_of_pipes c now ((Settled k e, s) ∷ xs) all = absurd all.0
