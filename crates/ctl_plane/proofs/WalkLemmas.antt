-- What a walk over a list has noted so far.
use Rattle.std.specs.Prelude.{◌≡◌, ◌<◌, ◌+◌, ℕ, List, [], ◌∷◌, ◌++◌, flat_map, length, slice_index_or, take}
use Rattle.std.proofs.Common.{sym, ap, ◌∙◌}
use Rattle.std.proofs.lemmas.List.{append-nil, take_more}
use Rattle.std.proofs.lemmas.List.Concat.{flat_map-append}

-- an element more
pub noted_more : {X Y : Type 0} (f : X → List Y) (xs : List X) (notes now : List Y) (i : ℕ) (x : X) → i < length xs → x ≡ slice_index_or xs i x → notes ≡ flat_map f (take i xs) → now ≡ notes ++ f x →
    now ≡ flat_map f (take (i + 1) xs)
noted_more {X = X} {Y = Y} f xs notes now i x below read so is =
    is ∙ ap (λ (l : List Y). l ++ f x) so ∙ ap (λ (l : List Y). flat_map f (take i xs) ++ l) (sym (append-nil (f x)))
    ∙ sym (flat_map-append f (take i xs) (x ∷ [])) ∙ ap (λ (y : X). flat_map f (take i xs ++ y ∷ [])) read ∙ ap (flat_map f) (sym (take_more xs i x below))
