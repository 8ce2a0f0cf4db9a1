-- What holds of each place of a turn list holds of the parts of the list; and a turn leaves the places.
use Rattle.std.proofs.Common.{◌≡◌, ℕ, List, [], ◌∷◌, ◌++◌, sym, subst, ◌∙◌, All, length-append, append_assoc, arith, IsPermutation}
use Rattle.std.proofs.lemmas.List.{get_or_append_left}
use Rattle.std.proofs.lemmas.List.Elements.{All-head, All-tail}
use Rattle.std.proofs.lemmas.List.Sorted.{IsPermutation-append_comm}

-- the front of a list
pub All-front : (P : ℕ → Type 0) (xs ys : List ℕ) → All P (xs ++ ys) → All P xs
All-front P xs ys all = λ k d within.
    subst P (get_or_append_left xs ys d k within) (all k d (let l = length-append xs ys in omega (arith, within, l)))

-- what stands behind it
pub All-back : (P : ℕ → Type 0) (xs ys : List ℕ) → All P (xs ++ ys) → All P ys
All-back P [] ys all = all
All-back P (x ∷ xs) ys all = All-back P xs ys (All-tail P x (xs ++ ys) all)

-- the place between two parts
pub All-middle : (P : ℕ → Type 0) (xs ys : List ℕ) (y : ℕ) → All P (xs ++ y ∷ ys) → P y
All-middle P xs ys y all = All-head P y ys (All-back P xs (y ∷ ys) all)

-- a list after a turn has the places that it had
pub turn_permutes : (before after turns turns' : List ℕ) (place : ℕ) → turns ≡ before ++ place ∷ after
    → turns' ≡ after ++ (before ++ place ∷ []) → IsPermutation turns turns'
turn_permutes before after turns turns' place are new_is =
    subst (λ l. IsPermutation l turns') (append_assoc before (place ∷ []) after ∙ sym are)
    (subst (IsPermutation ((before ++ place ∷ []) ++ after)) (sym new_is) (IsPermutation-append_comm (before ++ place ∷ []) after))
