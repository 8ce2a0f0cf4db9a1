-- Lists of texts that are appended one by one.
use Rattle.std.proofs.Common.{◌≡◌, ◌∙◌, ℕ, ◌<◌, ◌+◌, List, [], ◌∷◌, ◌++◌, length, take, get_or, sym, ap, append_assoc}
use Rattle.std.specs.Prelude.{flat_map}
use Rattle.std.proofs.lemmas.Grind.{flat_map-append}
use Rattle.std.proofs.lemmas.List.{append-nil, take_more}

-- the text of one more was appended
pub pushed_more : {A : Type 0} (f : A → List ℕ) (xs : List A) (i : ℕ) (d : A) (start out new : List ℕ) → i < length xs → out ≡ start ++ flat_map f (take i xs) → new ≡ out ++ f (get_or xs i d) → new ≡ start ++ flat_map f (take (i + 1) xs)
pushed_more f xs i d start out new inside so_far more =
    let x = get_or xs i d in
    let shown : flat_map f (take (i + 1) xs) ≡ flat_map f (take i xs) ++ f x =
    ap (flat_map f) (take_more xs i d inside) ∙ flat_map-append f (take i xs) (x ∷ []) ∙ ap (λ (l : List ℕ). flat_map f (take i xs) ++ l) (append-nil (f x)) in
    more ∙ ap (λ (l : List ℕ). l ++ f x) so_far ∙ append_assoc start (flat_map f (take i xs)) (f x) ∙ ap (λ (l : List ℕ). start ++ l) (sym shown)

-- the same, where the one is told apart
pub pushed_item : {A : Type 0} (f : A → List ℕ) (xs : List A) (i : ℕ) (x : A) (start out new : List ℕ) → i < length xs → x ≡ get_or xs i x → out ≡ start ++ flat_map f (take i xs) → new ≡ out ++ f x → new ≡ start ++ flat_map f (take (i + 1) xs)
pushed_item {A} f xs i x start out new inside is so_far more = pushed_more f xs i x start out new inside so_far (more ∙ ap (λ (y : A). out ++ f y) is)
