-- Lemmas on what is left of a list that is read from front to back.
use Rattle.std.proofs.Common.{◌≡◌, ◌≤◌, ◌+◌, ◌-◌, ◌∙◌, ℕ, true, List, [], ◌++◌, length, take, drop, sym, ap, ap₂, arith, length-drop, length-take}
use Rattle.std.proofs.lemmas.List.{drop_all, take_at, drop-drop, take-append-drop}
use Rattle.std.proofs.lemmas.Bool.{eqb-true, eq-eqb}
use Rattle.std.proofs.Math.Dec.{eqb}

-- nothing is left just where all was read
pub nothing_left : (octets rest : List ℕ) (at len : ℕ) → len ≡ length octets → at ≤ length octets → drop at octets ≡ rest → (eqb at len ≡ true → rest ≡ []) × (rest ≡ [] → eqb at len ≡ true)
nothing_left octets rest at len is inside view = (
  λ all. let end = eqb-true at len all in sym view ∙ drop_all at octets (omega arith),
  λ none. eq-eqb at len (omega (arith, length-drop at octets, ap length view, ap length none)),
)

-- what was moved to the front of a buffer, and what is left
pub moved : (octets buf : List ℕ) (at n : ℕ) → at + n ≤ length octets → drop at octets ≡ take n (take (at + n - at) (drop at octets) ++ drop n buf) ++ drop (at + n) octets
moved octets buf at n inside =
    let same : at + n - at ≡ n = omega arith in
    let long : length (take (at + n - at) (drop at octets)) ≡ n = omega (arith, length-take (at + n - at) (drop at octets), length-drop at octets) in
    let front = take_at (take (at + n - at) (drop at octets)) (drop n buf) n long ∙ ap (λ k. take k (drop at octets)) same in
    sym (ap₂ (λ x y. x ++ y) front (sym (drop-drop n at octets)) ∙ take-append-drop n (drop at octets))
