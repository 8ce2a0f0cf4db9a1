-- Parts, one by one.
use Rattle.std.proofs.Common.{◌≡◌, refl, ap, sym, ◌∙◌, ◌<◌, ◌≤◌, ◌+◌, List, [], ◌∷◌, ◌++◌, ℕ, length, Bor, drop, get_or, subst}
use Rattle.std.specs.Prelude.{map, Result, Ok, Err}
use Rattle.std.proofs.lemmas.List.{append_assoc, append-nil}
use Rattle.zq_script.specs.declared.fault.Cause.{Cause}
use Rattle.zq_script.specs.declared.fault.LineError.{LineError}
use Rattle.zq_script.specs.declared.fault.LineError.TheVariants.{Fault}
use Rattle.zq_script.specs.Answer.{◌>>=◌, Gives}
use Rattle.zq_script.specs.Part.{part_of, parts_of}
use Rattle.zq_script.proofs.AnswerLemmas.{words-cons, words-end}

-- the first part goes to the end of those before it
parts-shift : (r : Result (List (List ℕ)) Cause) (before : List (List ℕ)) (part : List ℕ)
    → ((r >>= λ parts. Ok (part ∷ parts)) >>= λ more. Ok (before ++ more)) ≡ (r >>= λ more. Ok ((before ++ part ∷ []) ++ more))
parts-shift (Ok parts) before part = ap Ok (sym (append_assoc before (part ∷ []) parts))
parts-shift (Err cause) before part = refl

module _ (words : List (Bor (List ℕ))) (i : ℕ) (whole : Result (List (List ℕ)) Cause) (before : List (List ℕ)) where
  -- the parts of the other words follow those so far
  abbrev pub GoesOn : Type 0
  GoesOn = whole ≡ (parts_of (map (λ x. x.now) (drop i words)) >>= λ more. Ok (before ++ more))

  -- a bad part
  pub parts-stop : (d : Bor (List ℕ)) (e : LineError) (cause : Cause) → i < length words → GoesOn
      → Gives {T = List ℕ} (Err e) (part_of (get_or words i d).now) → e ≡ Fault cause → whole ≡ Err cause
  unfolding parts_of
  parts-stop d e cause lt h g f =
      let bad : part_of (get_or words i d).now ≡ Err cause = subst (λ e. Gives {T = List ℕ} (Err e) (part_of (get_or words i d).now)) f g in
      h ∙ ap (λ l. parts_of l >>= λ more. Ok (before ++ more)) (words-cons words i d lt)
      ∙ ap (λ (r : Result (List ℕ) Cause). ((r >>= λ part. parts_of (map (λ x. x.now) (drop (i + 1) words)) >>= λ parts. Ok (part ∷ parts)) >>= λ more. Ok (before ++ more))) bad

  -- no part more
  pub parts-end : length words ≤ i → GoesOn → whole ≡ Ok before
  unfolding parts_of
  parts-end h e = e ∙ ap (λ l. parts_of l >>= λ more. Ok (before ++ more)) (words-end words i h) ∙ ap Ok (append-nil before)

-- a part more
pub parts-step : (words : List (Bor (List ℕ))) (i : ℕ) (whole : Result (List (List ℕ)) Cause) (before : List (List ℕ)) (d : Bor (List ℕ)) (part : List ℕ) → i < length words → GoesOn words i whole before
    → part_of (get_or words i d).now ≡ Ok part → GoesOn words (i + 1) whole (before ++ part ∷ [])
unfolding parts_of
parts-step words i whole before d part lt h e =
    h ∙ ap (λ l. parts_of l >>= λ more. Ok (before ++ more)) (words-cons words i d lt)
    ∙ ap (λ (r : Result (List ℕ) Cause). ((r >>= λ part. parts_of (map (λ x. x.now) (drop (i + 1) words)) >>= λ parts. Ok (part ∷ parts)) >>= λ more. Ok (before ++ more))) e
    ∙ parts-shift (parts_of (map (λ x. x.now) (drop (i + 1) words))) before part
