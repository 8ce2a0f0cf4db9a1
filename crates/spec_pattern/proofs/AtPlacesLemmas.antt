-- The ends of a turn list, before and after a turn.
use Rattle.std.proofs.Common.{◌≡◌, ℕ, Bool, true, false, cond, List, [], ◌∷◌, ◌++◌, map, filter, refl, ap, ◌∙◌}
use Rattle.std.proofs.lemmas.List.{map-append}
use Rattle.std.proofs.lemmas.List.Elements.{All-head, All-tail}
use Rattle.spec_pattern.specs.TurnList.{End, turns_after}
use Rattle.spec_pattern.specs.AtPlaces.{TellsWritable}

-- the ends of a turn list around one of them
pub ends_around : (ends : ℕ → End) (before after turns : List ℕ) (place : ℕ) → turns ≡ before ++ place ∷ after
    → map ends turns ≡ map ends before ++ ends place ∷ map ends after
ends_around ends before after turns place are = ap (map ends) are ∙ map-append ends before (place ∷ after)

-- and after its turn
pub ends_turned : (ends : ℕ → End) (before after turns' : List ℕ) (place : ℕ) → turns' ≡ after ++ (before ++ place ∷ [])
    → map ends turns' ≡ turns_after (map ends before) (ends place) (map ends after)
ends_turned ends before after turns' place is =
    ap (map ends) is ∙ map-append ends after (before ++ place ∷ []) ∙ ap (λ l. map ends after ++ l) (map-append ends before (place ∷ []))

-- the ends that can be written are those of the places that can
pub filter-ends : (can_write : End → Bool) (ends : ℕ → End) (writable : ℕ → Bool) (places : List ℕ)
    → TellsWritable can_write ends writable places → filter can_write (map ends places) ≡ map ends (filter writable places)
filter-ends can_write ends writable [] tells = refl
filter-ends can_write ends writable (k ∷ places) tells =
    let P = λ (place : ℕ). can_write (ends place) ≡ writable place in
    let rest = filter-ends can_write ends writable places (All-tail P k places tells) in
    ap (λ b. cond b (ends k ∷ filter can_write (map ends places)) (filter can_write (map ends places))) (All-head P k places tells)
    ∙ ap (λ l. cond (writable k) (ends k ∷ l) l) rest
    ∙ by (writable k)
  where
    by : (b : Bool) → cond b (ends k ∷ map ends (filter writable places)) (map ends (filter writable places)) ≡ map ends (cond b (k ∷ filter writable places) (filter writable places))
    by true = refl
    by false = refl
