-- Answers of steps that follow one another, and words taken one by one.
use Rattle.std.proofs.Common.{◌≡◌, ap, ◌∙◌, ◌<◌, ◌+◌, ◌≤◌, List, [], ◌∷◌, ℕ, length, Bor, drop, get_or}
use Rattle.std.specs.Prelude.{map, Result, Ok, Err}
use Rattle.std.proofs.Math.ListN.{drop_of_length-le}
use Rattle.std.proofs.Math.Seq.{drop-cons}
use native.Mathlib.Numerals.{unary_clauses}
use Rattle.zq_script.specs.Answer.{◌>>=◌, Gives}
use Rattle.zq_script.specs.declared.fault.Cause.{Cause}
use Rattle.zq_script.specs.declared.fault.LineError.{LineError}
use Rattle.zq_script.specs.declared.fault.LineError.TheVariants.{Fault, OutOfMemory}

-- a fault of the first step is that of both
pub gives_err : {A B : Type 0} (e : LineError) (r : Result A Cause) (f : A → Result B Cause) → Gives {T = A} (Err e) r → Gives {T = B} (Err e) (r >>= f)
gives_err (Fault cause) r f h = ap (λ s. s >>= f) h
gives_err OutOfMemory r f h = tt

-- what is wanted may be said in other words
pub gives_same : {A : Type 0} (given : Result A LineError) (r s : Result A Cause) → r ≡ s → Gives given s → Gives given r
gives_same (Ok x) r s e h = e ∙ h
gives_same (Err (Fault cause)) r s e h = e ∙ h
gives_same (Err OutOfMemory) r s e h = tt

-- behind a step that gave a value, the next step decides
pub then_step : {A B : Type 0} (given : Result B LineError) (r : Result A Cause) (x : A) (f : A → Result B Cause) → r ≡ Ok x → Gives given (f x) → Gives given (r >>= f)
then_step given r x f e h = gives_same given (r >>= f) (f x) (ap (λ t. t >>= f) e) h

-- the words from a place on are the word there and the others
pub words-cons : (words : List (Bor (List ℕ))) (i : ℕ) (d : Bor (List ℕ)) → i < length words
    → map (λ x. x.now) (drop i words) ≡ (get_or words i d).now ∷ map (λ x. x.now) (drop (i + 1) words)
words-cons words i d lt = simp unary_clauses (ap (map (λ (x : Bor (List ℕ)). x.now)) (drop-cons words i d lt))

-- behind all words there are none
pub words-end : (words : List (Bor (List ℕ))) (i : ℕ) → length words ≤ i → map (λ x. x.now) (drop i words) ≡ []
words-end words i h = ap (map (λ (x : Bor (List ℕ)). x.now)) (drop_of_length-le words h)
