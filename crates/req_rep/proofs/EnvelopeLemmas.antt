-- The first empty frame of a message, looked for frame by frame, and the frames before it moved.
use Rattle.std.proofs.Common.{◌≡◌, ◌<◌, ◌+◌, ℕ, List, [], ◌∷◌, ◌++◌, reverse, take, drop, get_or, length, Option, Some, None, refl, sym, ap, ◌∙◌}
use Rattle.std.specs.Option.{option_map}
use Rattle.std.proofs.lemmas.List.{take_more, drop_more, reverse-append, reverse-reverse}
use Rattle.zq_base.specs.Message.{Frames}
use Rattle.spec_pattern.specs.Envelope.{split_envelope}

-- frames before those of the first part
abbrev pub behind : Frames → Frames × Frames → Frames × Frames
behind front s = (front ++ s.0, s.1)

-- none of the first i frames is empty
pub record Passes (i : ℕ) (m : Frames) : Type 0 where
  pub passed : split_envelope m ≡ option_map (behind (take i m)) (split_envelope (drop i m))

behind_none : (o : Option (Frames × Frames)) → o ≡ option_map (behind []) o
behind_none None = refl
behind_none (Some s) = refl

pub Passes-none : (m : Frames) → Passes 0 m
Passes-none m = record { passed = behind_none (split_envelope m) }

-- the last of the frames in reverse is the next of those in order
pub next_is : (m left : Frames) (i : ℕ) (frame : List ℕ) → i < length m → reverse (drop i m) ≡ left ++ frame ∷ []
    → (take (i + 1) m ≡ take i m ++ frame ∷ []) × (left ≡ reverse (drop (i + 1) m))
next_is m left i frame within e =
    let turned : get_or m i [] ∷ drop (i + 1) m ≡ frame ∷ reverse left =
    sym (drop_more m i [] within) ∙ sym (reverse-reverse (drop i m)) ∙ ap reverse e ∙ reverse-append left (frame ∷ []) in
    let first : get_or m i [] ≡ frame = cc turned in
    let others : drop (i + 1) m ≡ reverse left = cc turned in (
      take_more m i [] within ∙ ap (λ (f : List ℕ). take i m ++ f ∷ []) first,
      sym (reverse-reverse left) ∙ sym (ap reverse others),
    )
