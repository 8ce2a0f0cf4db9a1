-- Options, one by one.
use Rattle.std.proofs.Common.{◌≡◌, ap, ◌∙◌, ◌<◌, ◌≤◌, ◌+◌, List, ℕ, length, Bor, drop, get_or}
use Rattle.std.specs.Prelude.{map, Result, Ok, Err}
use Rattle.zq_base.specs.declared.options.Options.{Options}
use Rattle.zq_script.specs.declared.fault.Cause.{Cause}
use Rattle.zq_script.specs.declared.fault.LineError.{LineError}
use Rattle.zq_script.specs.Answer.{◌>>=◌, Gives}
use Rattle.zq_script.specs.SocketOption.{with_option, with_options}
use Rattle.zq_script.proofs.AnswerLemmas.{gives_err, gives_same, words-cons, words-end}

module _ (words : List (Bor (List ℕ))) (i : ℕ) (whole : Result Options Cause) (options : Options) where
  -- an option more
  pub options-step : (d : Bor (List ℕ)) (next : Options) → i < length words → whole ≡ with_options (map (λ x. x.now) (drop i words)) options
      → with_option (get_or words i d).now options ≡ Ok next → whole ≡ with_options (map (λ x. x.now) (drop (i + 1) words)) next
  unfolding with_options
  options-step d next lt e h = e ∙ ap (λ l. with_options l options) (words-cons words i d lt) ∙ ap (λ r. r >>= with_options (map (λ x. x.now) (drop (i + 1) words))) h

  -- a bad option
  pub options-stop : (d : Bor (List ℕ)) (e : LineError) → i < length words → whole ≡ with_options (map (λ x. x.now) (drop i words)) options
      → Gives {T = Options} (Err e) (with_option (get_or words i d).now options) → Gives {T = Options} (Err e) whole
  unfolding with_options
  options-stop d f lt e h = gives_same (Err f) whole _ (e ∙ ap (λ l. with_options l options) (words-cons words i d lt)) (gives_err f _ _ h)

  -- no option more
  pub options-end : length words ≤ i → whole ≡ with_options (map (λ x. x.now) (drop i words)) options → whole ≡ Ok options
  unfolding with_options
  options-end h e = e ∙ ap (λ l. with_options l options) (words-end words i h)
