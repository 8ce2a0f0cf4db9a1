-- The text of the objects that live.
use Rattle.std.proofs.Common.{◌≡◌, ◌∙◌, ℕ, ◌<◌, ◌+◌, Bool, true, false, cond, List, [], ◌∷◌, ◌++◌, length, drop, get_or, refl, sym, ap, append_assoc}
use Rattle.std.proofs.lemmas.List.{append-nil, drop_more}
use Rattle.spec_control.specs.Control.{id}
use Rattle.spec_run.specs.declared.journal.ObjectRow.{ObjectRow}
use Rattle.spec_run.specs.JournalText.{live_text, living_text}

one_more : (b : Bool) (x y : List ℕ) → cond b [] (x ++ []) ++ y ≡ cond b y (x ++ y)
one_more true x y = refl
one_more false x y = ap (λ (l : List ℕ). l ++ y) (append-nil x)

-- one object more is shown, if it lives
pub living_more : (objects : List ObjectRow) (i number : ℕ) (d : ObjectRow) (start out new : List ℕ) → i < length objects → number ≡ i → new ≡ out ++ living_text number (get_or objects i d ∷ []) → out ++ living_text i (drop i objects) ≡ start → new ++ living_text (i + 1) (drop (i + 1) objects) ≡ start
living_more objects i number d start out new inside is more shown =
    let o : ObjectRow = get_or objects i d in
    let rest : List ObjectRow = drop (i + 1) objects in
    let behind : List ℕ = living_text (i + 1) rest in
    let one : living_text i (o ∷ []) ++ behind ≡ living_text i (o ∷ rest) = one_more o.ended (live_text (record { object = id i; kind = o.kind })) behind in
    ap (λ (l : List ℕ). l ++ behind) (more ∙ ap (λ (n : ℕ). out ++ living_text n (o ∷ [])) is) ∙ append_assoc out (living_text i (o ∷ [])) behind
    ∙ ap (λ (l : List ℕ). out ++ l) (one ∙ ap (living_text i) (sym (drop_more objects i d inside))) ∙ shown
