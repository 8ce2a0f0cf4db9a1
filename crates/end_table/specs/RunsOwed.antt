-- Steps behind steps: the proof of the law that ends owe (own choice).
use Rattle.std.proofs.Common.{◌≡◌, ◌||◌, Bool, true, false, List, [], ◌∷◌, ◌++◌, subst}
use Rattle.spec_pattern.specs.PipeStep.{PipeStep}
use Rattle.msg_pipe.specs.Known.{Known}
use Rattle.end_table.specs.Rows.{Table}
use Rattle.end_table.specs.Runs.{DoesAll, is_seal, seals}

none_by : (x y z : Bool) → (x || y) ≡ false → (y ≡ false → z ≡ false) → (x || z) ≡ false
none_by true y z h so = h
none_by false y z h so = so h

-- steps behind others write no delimiter where neither do
pub seals_on : (before after : List PipeStep) → seals before ≡ false → seals after ≡ false → seals (before ++ after) ≡ false
seals_on [] after b a = a
seals_on (s ∷ ss) after b a = none_by (is_seal s) (seals ss) (seals (ss ++ after)) b (λ h. seals_on ss after h a)

module _ {S O I N : Type 0} (K : Known S O I N) where
  pub does_on : (old mid new : Table S O I) (before after : List PipeStep) → DoesAll K old before mid → DoesAll K mid after new → DoesAll K old (before ++ after) new
  does_on old mid new [] after first then = subst (λ (t : Table S O I). DoesAll K t after new) first then
  does_on old mid new (s ∷ ss) after first then = (first.0, first.1, does_on first.0 mid new ss after first.2 then)
