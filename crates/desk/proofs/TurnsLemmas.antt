-- What is sealed by changes of state one after the other.
use Rattle.std.specs.Prelude.{◌≡◌, ◌++◌, ◌∷◌, [], Bool, true, false, List, if◌then◌else◌, refl}
use Rattle.std.proofs.Common.{ap}
use Rattle.zq_base.specs.declared.ids.EndId.{EndId}
use Rattle.spec_control.specs.declared.end.EndState.{EndState}
use Rattle.spec_control.specs.declared.end.EndState.TheVariants.{AskedOnce}
use Rattle.desk.specs.Holding.{is_state}
use Rattle.desk.specs.Turns.{sealed_by}

pub seal_append : (ts us : List (EndId × EndState)) → sealed_by (ts ++ us) ≡ sealed_by ts ++ sealed_by us
seal_append [] us = refl
seal_append (t ∷ ts) us = by (is_state t.1 AskedOnce) (seal_append ts us)
  where
    by : (b : Bool) → sealed_by (ts ++ us) ≡ sealed_by ts ++ sealed_by us → (if b then t.0 ∷ sealed_by (ts ++ us) else sealed_by (ts ++ us)) ≡ (if b then t.0 ∷ sealed_by ts else sealed_by ts) ++ sealed_by us
    by true rest = ap (λ (es : List EndId). t.0 ∷ es) rest
    by false rest = rest
