-- The last piece of a text.
use Rattle.std.proofs.Common.{◌≡◌, ap, sym, ◌∙◌, ◌<◌, List, [], ◌∷◌, ◌++◌, ℕ, length, nat_eq, true, false, Bor, arith}
use Rattle.std.specs.Prelude.{map}
use Rattle.std.specs.List.{slice_split}
use Rattle.std.proofs.lemmas.List.{map-append, length-map}
use Rattle.std.proofs.lemmas.List.Splits.{length-slice_split}
use Rattle.zq_script.specs.Words.{lines_of, without_empty_end}

-- an empty piece at the end is left out
pub without_empty_end-empty : (front : List (List ℕ)) (last : List ℕ) → nat_eq (length last) 0 ≡ true → without_empty_end (front ++ last ∷ []) ≡ front
unfolding without_empty_end
without_empty_end-empty [] last e = rw e
without_empty_end-empty (x ∷ []) last e = ap (λ l. x ∷ l) (without_empty_end-empty [] last e)
without_empty_end-empty (x ∷ y ∷ more) last e = ap (λ l. x ∷ l) (without_empty_end-empty (y ∷ more) last e)

-- another piece at the end stays
pub without_empty_end-some : (front : List (List ℕ)) (last : List ℕ) → nat_eq (length last) 0 ≡ false → without_empty_end (front ++ last ∷ []) ≡ front ++ last ∷ []
unfolding without_empty_end
without_empty_end-some [] last e = rw e
without_empty_end-some (x ∷ []) last e = ap (λ l. x ∷ l) (without_empty_end-some [] last e)
without_empty_end-some (x ∷ y ∷ more) last e = ap (λ l. x ∷ l) (without_empty_end-some (y ∷ more) last e)

-- a text has a piece
pub some_piece : (octets : List ℕ) (items : List (Bor (List ℕ))) → map (λ x. x.now) items ≡ slice_split (λ b. nat_eq b 10) octets → 0 < length items
some_piece octets items e = omega (arith, ap length e, length-map items (λ (x : Bor (List ℕ)). x.now), length-slice_split (λ b. nat_eq b 10) octets)

-- the lines, where the last piece is empty
pub lines-empty_end : (octets : List ℕ) (items left : List (Bor (List ℕ))) (last : Bor (List ℕ)) → map (λ x. x.now) items ≡ slice_split (λ b. nat_eq b 10) octets
    → items ≡ left ++ last ∷ [] → nat_eq (length last.now) 0 ≡ true → map (λ x. x.now) left ≡ lines_of octets
unfolding lines_of
lines-empty_end octets items left last e f g =
    sym (ap without_empty_end (sym e ∙ ap (map (λ (x : Bor (List ℕ)). x.now)) f ∙ map-append (λ (x : Bor (List ℕ)). x.now) left (last ∷ []))
    ∙ without_empty_end-empty (map (λ x. x.now) left) last.now g)

-- the lines, where the last piece has octets
pub lines-some_end : (octets : List ℕ) (items left : List (Bor (List ℕ))) (last : Bor (List ℕ)) → map (λ x. x.now) items ≡ slice_split (λ b. nat_eq b 10) octets
    → items ≡ left ++ last ∷ [] → nat_eq (length last.now) 0 ≡ false → map (λ x. x.now) (left ++ last ∷ []) ≡ lines_of octets
unfolding lines_of
lines-some_end octets items left last e f g =
    map-append (λ (x : Bor (List ℕ)). x.now) left (last ∷ [])
    ∙ sym (ap without_empty_end (sym e ∙ ap (map (λ (x : Bor (List ℕ)). x.now)) f ∙ map-append (λ (x : Bor (List ℕ)). x.now) left (last ∷ []))
    ∙ without_empty_end-some (map (λ x. x.now) left) last.now g)
