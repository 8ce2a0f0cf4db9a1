-- One worker after another is chosen.
use Rattle.std.proofs.Common.{◌≡◌, ◌≢◌, ◌<◌, inl, inr, ℕ, List, [], ◌∷◌, ◌++◌, length, Some, refl, sym, ap, subst, ◌∙◌, append_assoc, append-nil}
use Rattle.std.specs.Prelude.{slice_get, slice_index_or}
use Rattle.std.specs.List.{remove}
use Rattle.std.proofs.lemmas.Option.{slice_get-get_or}
use Rattle.spec_run.specs.Turn.{next_number, choice, Chooses, IsOrder}

-- whatever is chosen of those left is chosen behind those chosen before
pub record GoesOn (x : ℕ) (workers : List ℕ) (now : ℕ) (left order : List ℕ) : Type 0 where
  pub on : (rest : List ℕ) (after : ℕ) → Chooses now left rest after → Chooses x workers (order ++ rest) after

pub goes_on_first : (x : ℕ) (workers : List ℕ) → GoesOn x workers x workers []
goes_on_first x workers = record { on = λ rest after h. h }

pub goes_on_more : (x : ℕ) (workers : List ℕ) (now : ℕ) (left order : List ℕ) (place w : ℕ) → GoesOn x workers now left order
    → place ≡ choice (next_number now) (length left) → place < length left → w ≡ slice_index_or left place w
    → GoesOn x workers (next_number now) (remove left place) (order ++ w ∷ [])
goes_on_more x workers now left order place w h chosen there is = record {
  on = λ rest after f.
      let here : slice_get left (choice (next_number now) (length left)) ≡ Some w =
      ap (slice_get left) (sym chosen) ∙ slice_get-get_or left place w there ∙ ap Some (sym is) in
      let others : Chooses (next_number now) (remove left (choice (next_number now) (length left))) rest after =
      subst (λ k. Chooses (next_number now) (remove left k) rest after) chosen f in
      subst (λ (l : List ℕ). Chooses x workers l after) (sym (append_assoc order (w ∷ []) rest)) (h.on (w ∷ rest) after (here, others));
}

pub goes_on_last : (x : ℕ) (workers : List ℕ) (now : ℕ) (left order : List ℕ) → GoesOn x workers now left order → length left ≡ 0 → Chooses x workers order now
goes_on_last x workers now [] order h none = subst (λ (l : List ℕ). Chooses x workers l now) (append-nil order) (h.on [] now (refl, refl))
goes_on_last x workers now (w ∷ ws) order h none = cc

-- the order of a turn
pub kept_order : (seed x : ℕ) (workers order : List ℕ) → seed ≡ 0 → order ≡ workers → IsOrder seed x workers order x
kept_order seed x workers order zero same = inl (zero, same, refl)

pub drawn_order : (seed x : ℕ) (workers left order : List ℕ) (after : ℕ) → seed ≢ 0 → left ≡ workers → Chooses x left order after → IsOrder seed x workers order after
drawn_order seed x workers left order after some same h = inr (some, subst (λ (l : List ℕ). Chooses x l order after) same h)
