-- A lemma on octets that are moved to the front of a buffer.
use Rattle.std.proofs.Common.{◌≡◌, ◌≤◌, ◌∙◌, ℕ, List, ◌++◌, length, take, drop, sym, ap, arith, length-take, take_at}
use Rattle.std.proofs.lemmas.List.{take-append-drop}

-- what stands at the front of the buffer is the front of what was left
pub given_front : (rest buf new : List ℕ) (n : ℕ) → n ≤ length rest → new ≡ take n rest ++ drop n buf → rest ≡ take n new ++ drop n rest
given_front rest buf new n within moved =
    let long : length (take n rest) ≡ n = omega (arith, length-take n rest) in
    sym (ap (λ front. front ++ drop n rest) (ap (take n) moved ∙ take_at (take n rest) (drop n buf) n long) ∙ take-append-drop n rest)
