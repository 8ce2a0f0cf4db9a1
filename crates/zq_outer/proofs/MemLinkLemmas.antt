-- Lemmas on what an end of a link in memory wrote.
use Rattle.std.proofs.Common.{◌≡◌, ◌≤◌, ◌+◌, ◌-◌, ◌∙◌, ℕ, List, ◌++◌, length, take, Option, Some, None, option_map, IfSome, refl, sym, ap, arith, append_assoc, length-append, length-take, take_at, take-take}
use mathlib.Core.List.{IsPrefix}

-- the octets that were pushed are the first of the piece
pub pushed_front : (piece pushed rest : List ℕ) (most : ℕ) → most ≤ length piece → pushed ++ rest ≡ take most piece → (length pushed ≤ most) × (pushed ≡ take (length pushed) piece)
pushed_front piece pushed rest most within parts =
    let short : length pushed ≤ most = omega (arith, ap length parts, length-append pushed rest, length-take most piece) in
    (short, sym (take_at pushed rest (length pushed) refl) ∙ ap (take (length pushed)) parts ∙ take-take (length pushed) most piece short)

-- what is written and what is left to write are as much as before
pub cut_kept : (before after : Option ℕ) (said pushed : List ℕ) (n : ℕ) → n ≡ length pushed → IfSome before (λ left. n ≤ left) → after ≡ option_map (λ left. left - n) before → option_map (λ left. length (said ++ pushed) + left) after ≡ option_map (λ left. length said + left) before
cut_kept None after said pushed n same within spent = ap (option_map (λ left. length (said ++ pushed) + left)) spent
cut_kept (Some left) after said pushed n same within spent =
    ap (option_map (λ left. length (said ++ pushed) + left)) spent ∙ ap Some (omega (arith, length-append said pushed))

-- what is known to wait behind what was read is a front of that behind a look and a read
pub came_on : (heard waiting seen given known now : List ℕ) → IsPrefix waiting seen → now ≡ heard ++ given → IsPrefix seen (given ++ known) → IsPrefix (heard ++ waiting) (now ++ known)
came_on heard waiting seen given known now looked read rest =
    let more : List ℕ = looked.0 ++ rest.0 in
    let front : waiting ++ more ≡ given ++ known = sym (append_assoc waiting looked.0 rest.0) ∙ ap (λ (l : List ℕ). l ++ rest.0) looked.1 ∙ rest.1 in
    (more, append_assoc heard waiting more ∙ ap (λ (l : List ℕ). heard ++ l) front ∙ sym (append_assoc heard given known) ∙ ap (λ (l : List ℕ). l ++ known) (sym read))
