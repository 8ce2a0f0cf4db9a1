-- How a call answers what is asked for, or that nothing is.
use Rattle.std.specs.Prelude.{◌≡◌, Option, Some, None, Result, MatchResult}
use Rattle.zq_call.specs.declared.request.WordsError.{WordsError}
use Rattle.zq_call.specs.declared.request.WordsError.TheVariants.{Usage}

-- `Ok` is what is asked for, and `Usage` says that nothing is
abbrev pub Answers : {T : Type 0} → Option T → Result T WordsError → Type 0
Answers asked result = MatchResult result (λ r. asked ≡ Some r) (λ e. e ≡ Usage → asked ≡ None)
